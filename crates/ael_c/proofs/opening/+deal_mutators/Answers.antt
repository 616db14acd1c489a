use Rattle.std.proofs.Common.{◌≡◌, ℕ, ◌+◌, List, Some, length, rules, sym, ap, ◌∙◌}
use Rattle.std.specs.Arc.{arc_value}
use Rattle.std.proofs.lemmas.Result.{on_ok_weaker}
use Rattle.ael_c.specs.declared.handle.Handle.{Handle}
use Rattle.ael_c.specs.declared.seat.Seat.{Seat}
use Rattle.ael_c.specs.declared.seat.Seat.TheVariants.{Mutator}
use Rattle.ael_c.specs.Handles.{are_null, behind, first_mutators, mutator_seats}
use Rattle.ael_c.proofs.Openings.{mutator_seat, null_last, mutators_dealt}
use Rattle.ael_c.proofs.opening.+deal_mutators.Goals as goal

pub put-requires : goal.put-requires
put-requires t c =
    (null_last c.in-Some.rest.now c.in-Some.last.now (ap (λ (hs : List Handle). are_null (behind hs)) (sym c.in-Some.ensures.cases.0) ∙ c.requires.null)).1

pub deal_mutators-requires : goal.deal_mutators-requires
deal_mutators-requires t c =
    let h = arc_value c.args.heap.now in
    let n = length c.in-Some.rest.now in
    let taken = c.take_mutator.ensures.new h.table.shared.table_id h.table.shared.key (0) n (c.requires.new ∙ ap (first_mutators h) (sym c.in-Some.ensures.cases.1)) in
    let null = null_last c.in-Some.rest.now c.in-Some.last.now (ap (λ (hs : List Handle). are_null (behind hs)) (sym c.in-Some.ensures.cases.0) ∙ c.requires.null) in
    (search rules, (null.0, taken.1))

pub returns-clause-dealt : goal.returns-clause-dealt
returns-clause-dealt t c =
    let h = arc_value c.args.heap.now in
    let n = length c.in-Some.rest.now in
    let count : n + 1 ≡ length c.args.handles.now = c.in-Some.ensures.cases.1 in
    let taken = c.in-Some-take_mutator.ensures.new h.table.shared.table_id h.table.shared.key (0) n (c.requires.new ∙ ap (first_mutators h) (sym count)) in
    let is = c.put.ensures ∙ ap (λ (x : Seat). Some x) (c.in_ok-new.ensures.ok ∙ ap Mutator c.new-seat.ensures) ∙ ap mutator_seat taken.0 in
    on_ok_weaker c.deal_mutators.result
    (λ before. mutators_dealt h n c.deal_mutators.new.handles c.put.new.self before is ∙ ap (λ (k : ℕ). mutator_seats (first_mutators h k)) count)
    c.deal_mutators.ensures.dealt
