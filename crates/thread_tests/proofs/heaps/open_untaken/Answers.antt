use Rattle.std.proofs.Common.{◌≡◌, Option, None, Some, Result, Ok, refl, sym, ap, ◌∙◌, subst}
use Rattle.std.specs.Prelude.{IfOk}
use Rattle.ael_threads.specs.declared.view.Plan.{Plan}
use Rattle.ael_threads.specs.Opened.{new_scanner, new_scanners}
use Rattle.ael_threads.specs.Readers.{SeatedScanner}
use Rattle.ael_threads.specs.Seats.{Seated, new_callers, new_seated}
use Rattle.thread_tests.proofs.heaps.open_untaken.Goals as goal

-- what was taken is this one
the_one : {A : Type 0} (o : Option A) (a b : A) → o ≡ Some a → o ≡ Some b → a ≡ b
the_one o a b is other = cc

-- what is so of a good outcome is so of what it holds
of_ok : {A B : Type 0} (r : Result A B) (P : A → Type 0) (a : A) → r ≡ Ok a → IfOk r P → P a
of_ok {A = A} {B = B} r P a is h = subst (λ (s : Result A B). IfOk s P) is h

pub returns-clause-mutator : goal.returns-clause-mutator
returns-clause-mutator g c =
    let t = c.expect-heap.result.0.table.shared.table_id in
    let key = c.expect-heap.result.0.table.shared.key in
    let is_key = of_ok c.open.result _ c.expect-heap.result c.expect-heap.ensures c.open.ensures.key in
    let new = of_ok c.open.result _ c.expect-heap.result c.expect-heap.ensures c.open.ensures.mutators ∙ ap (λ (p : Plan). new_callers t p 0 2) (sym is_key) in
    let is = the_one c.take_mutator.result c.expect-mutator.result (new_seated t key 1) c.expect-mutator.ensures (c.take_mutator.ensures.new t key 0 1 new).0 in
    subst (λ (m : Seated). (m.table ≡ t) × (m.worker.task ≡ None)) (sym is)
    (refl, subst (λ (p : Plan). (new_seated t p 1).worker.task ≡ None) (sym is_key) refl)

pub returns-clause-scanner : goal.returns-clause-scanner
returns-clause-scanner g c =
    let t = c.expect-heap.result.0.table.shared.table_id in
    let key = c.expect-heap.result.0.table.shared.key in
    let is_key = of_ok c.open.result _ c.expect-heap.result c.expect-heap.ensures c.open.ensures.key in
    let new = of_ok c.open.result _ c.expect-heap.result c.expect-heap.ensures c.open.ensures.scanners ∙ ap (λ (p : Plan). new_scanners t p 2 1) (sym is_key) in
    ap (λ (s : SeatedScanner). s.seated.table)
    (the_one c.take_scanner.result c.expect-scanner.result (new_scanner t key 2) c.expect-scanner.ensures (c.take_scanner.ensures.new t key 2 0 (ap (λ v. v.items) c.take_mutator.ensures.scanners ∙ new)).0)

pub returns-clause-left : goal.returns-clause-left
returns-clause-left g c =
    let t = c.expect-heap.result.0.table.shared.table_id in
    let key = c.expect-heap.result.0.table.shared.key in
    let is_key = of_ok c.open.result _ c.expect-heap.result c.expect-heap.ensures c.open.ensures.key in
    let new = of_ok c.open.result _ c.expect-heap.result c.expect-heap.ensures c.open.ensures.mutators ∙ ap (λ (p : Plan). new_callers t p 0 2) (sym is_key) in
    ap (λ v. v.items) c.take_scanner.ensures.mutators ∙ (c.take_mutator.ensures.new t key 0 1 new).1
