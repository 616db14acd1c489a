use Rattle.std.proofs.Common.{◌≡◌, ◌≤◌, ℕ, List, [], ◌++◌, ◌∷◌, length, vec_capacity, sym, ap, ◌∙◌, subst, arith}
use Rattle.ael_threads.specs.Seats.{Seated}
use Rattle.concordance.specs.Working.{SharedHeap, shared_heap}
use Rattle.concordance.proofs.Working.NewSeats.{SeatsSoFar, mutators_many, mutators_new, next_new, seats_first, seats_more}
use Rattle.concordance.proofs.making.seat.Goals as goal

pub loop-mutator-init : goal.loop-mutator-init
loop-mutator-init c =
    let t = c.args.heap.now.table.shared.table_id in
    let plan = c.args.heap.now.table.shared.key in
    let mutators = c.args.mutators.items in
    let room = vec_capacity c.in_ok-clerks.clerks in
    let w : SharedHeap = shared_heap t plan in
    let asked = c.in_ok-clerks.ensures.capacity in
    let len = c.len.ensures in
    let held = c.args.mutators.ok.0 in
    let fits : length mutators ≤ room = omega (arith, asked, len, held) in
    subst (λ (z : ℕ × List Seated). SeatsSoFar w z.0 room mutators z.1) (λ i. (mutators_many t plan mutators c.requires i, sym c.in_ok-clerks.ensures.items i))
    (seats_first w room mutators (mutators_new t plan mutators c.requires) fits)

pub new-requires-clause-of_heap : goal.new-requires-clause-of_heap
new-requires-clause-of_heap c = (next_new _ _ _ _ _ _ _ c.in-Some.ensures.items c.loop-mutator.invariant).ready.table

pub new-requires-clause-rests : goal.new-requires-clause-rests
new-requires-clause-rests c = (next_new _ _ _ _ _ _ _ c.in-Some.ensures.items c.loop-mutator.invariant).rests

pub loop-mutator-preserved : goal.loop-mutator-preserved
loop-mutator-preserved c =
    let plan = c.args.heap.now.table.shared.key in
    let w : SharedHeap = shared_heap c.args.heap.now.table.shared.table_id plan in
    let before : List Seated = c.loop-mutator.clerks.items in
    let later : List Seated = c.push_reserved.new.self.items in
    let pushed : later ≡ before ++ c.new.result ∷ [] = c.push_reserved.ensures.items in
    let more = seats_more w plan.mutators _ _ _ before _ c.in-Some.ensures.items c.loop-mutator.invariant in
    subst (λ (z : ℕ × List Seated). SeatsSoFar w plan.mutators z.0 c.pop.new.self.items z.1)
    (λ i. (sym c.push_reserved.ensures.capacity i, sym (pushed ∙ ap (λ (s : Seated). before ++ s ∷ []) c.new.ensures) i)) more
