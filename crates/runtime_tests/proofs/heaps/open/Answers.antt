use Rattle.std.proofs.Common.{◌≡◌, Option, None, Some, refl, sym, ap, ◌∙◌, subst}
use Rattle.ael_threads.specs.declared.view.Plan.{Plan}
use Rattle.ael_threads.specs.Opened.{new_scanner, new_scanners}
use Rattle.ael_threads.specs.Readers.{SeatedScanner}
use Rattle.ael_threads.specs.Seats.{IsMine, Seated, new_callers, new_seated}
use Rattle.runtime_tests.proofs.heaps.open.Goals as goal

-- what was taken is this one
the_one : {A : Type 0} (o : Option A) (a b : A) → o ≡ Some a → o ≡ Some b → a ≡ b
the_one o a b is other = cc

-- the last mutator, and the scanner
mutator_is : (c : goal.In-Some-Some) → c.in-Some-Some.mutator ≡ new_seated c.in_ok-heap.heap.table.shared.table_id c.in_ok-heap.heap.table.shared.key 1
mutator_is c =
    let t = c.in_ok-heap.heap.table.shared.table_id in
    let key = c.in_ok-heap.heap.table.shared.key in
    let new = c.in_ok-heap.ensures.mutators ∙ ap (λ (p : Plan). new_callers t p 0 2) (sym c.in_ok-heap.ensures.key) in
    the_one c.take_mutator.result c.in-Some-Some.mutator (new_seated t key 1) c.in-Some-Some.is-0 (c.take_mutator.ensures.new t key 0 1 new).0

scanner_is : (c : goal.In-Some-Some) → c.in-Some-Some.scanner ≡ new_scanner c.in_ok-heap.heap.table.shared.table_id c.in_ok-heap.heap.table.shared.key 2
scanner_is c =
    let t = c.in_ok-heap.heap.table.shared.table_id in
    let key = c.in_ok-heap.heap.table.shared.key in
    let new = c.in_ok-heap.ensures.scanners ∙ ap (λ (p : Plan). new_scanners t p 2 1) (sym c.in_ok-heap.ensures.key) in
    the_one c.take_scanner.result c.in-Some-Some.scanner (new_scanner t key 2) c.in-Some-Some.is-1 (c.take_scanner.ensures.new t key 2 0 (ap (λ v. v.items) c.take_mutator.ensures.scanners ∙ new)).0

pub returns-clause-of_heap : goal.returns-clause-of_heap
returns-clause-of_heap c = (ap (λ (m : Seated). m.table) (mutator_is c), ap (λ (s : SeatedScanner). s.seated.table) (scanner_is c))

pub returns-clause-new : goal.returns-clause-new
returns-clause-new c =
    let t = c.in_ok-heap.heap.table.shared.table_id in
    subst (λ (m : Seated). (m.worker.task ≡ None) × IsMine m.knows) (sym (mutator_is c))
    (subst (λ (p : Plan). (new_seated t p 1).worker.task ≡ None) (sym c.in_ok-heap.ensures.key) refl, refl)

pub returns-clause-left : goal.returns-clause-left
returns-clause-left c =
    let t = c.in_ok-heap.heap.table.shared.table_id in
    let key = c.in_ok-heap.heap.table.shared.key in
    let new = c.in_ok-heap.ensures.mutators ∙ ap (λ (p : Plan). new_callers t p 0 2) (sym c.in_ok-heap.ensures.key) in
    ap (λ v. v.items) c.take_scanner.ensures.mutators ∙ (c.take_mutator.ensures.new t key 0 1 new).1
