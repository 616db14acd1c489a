-- What workers have set aside is for the records that their mutators' tasks make.
use Rattle.std.proofs.Common.{◌≡◌, ◌≢◌, ℕ, ◌+◌, ◌*◌, ◌<◌, ◌≤◌, ◌==◌, cond, length, Some, [], refl, sym, ap, ◌∙◌, arith, ⊎_elim, get_or-set_same, get_or-set_other, length-set}
use Rattle.std.proofs.lemmas.Bool.{cases_eq, ne_eqb}
use Rattle.std.proofs.lemmas.Option.{slice_get_within}
use Rattle.plain_state.specs.declared.sizes.TheConstants.{PAGE_WORDS}
use Rattle.plain_state.specs.State.{Plain}
use Rattle.atom_store.specs.declared.step.Step.{Step}
use Rattle.atom_store.specs.Step.{reply_of}
use Rattle.heap_state.specs.Functions.{sum_below}
use Rattle.heap_state.proofs.Puts.{sum_below-change}
use Rattle.gc_worker.specs.Laws.Between.{IsSo}
use Rattle.gc_worker.specs.Laws.Cycles.{IsForRecord, MakesRecord, set_aside}
use Rattle.gc_worker.specs.Workers.Held.{Held}
use Rattle.gc_worker.specs.Laws.Step.{Heap, WorkersStand, held_at, moved, nobody}
use Rattle.gc_worker.specs.Steps.Turned.{turned}
use Rattle.gc_worker.proofs.Between.StandingHeaps.{what_stands_is_so}
use Rattle.gc_worker.proofs.Cycles.SetAside.{set_aside_is_for_records}
use Rattle.gc_worker.specs.History.Tally.{Tasks, aside_in, asked_by_task, made_next, pages_by_task, tasks_held}
use Rattle.gc_worker.proofs.History.Counted.Tallies.{asks_as}
use Rattle.gc_worker.proofs.History.Counted.Sums.{sum_below-most, sum_below-past, sum_below-times}

-- ---- a step

-- only the worker that makes it changes what it has set aside
pub aside_changes : (h : Heap) (k : ℕ) (y : Held) (q : Step) → k < length h.workers → held_at h k ≡ y
    → aside_in (moved h k y q) + set_aside y ≡ aside_in h + set_aside (turned y (reply_of q h.words))
aside_changes h k y q below holds =
    let z : Held = turned y (reply_of q h.words) in
    let was : ℕ → ℕ = λ j. set_aside (held_at h j) in
    let now : ℕ → ℕ = λ j. set_aside (held_at (moved h k y q) j) in
    let change = sum_below-change (length h.workers) was now k below (λ j inside other. ap set_aside (sym (get_or-set_other h.workers k j z nobody other))) in
    let here : now k ≡ set_aside z = ap set_aside (get_or-set_same h.workers k z nobody below) in
    let there : was k ≡ set_aside y = ap set_aside holds in
    let many : aside_in (moved h k y q) ≡ sum_below (length h.workers) now = ap (λ (n : ℕ). sum_below n now) (length-set h.workers k z) in
    omega (arith, change, here, there, many)

-- ---- for whom

module _ (h : Heap) (p o : Plain) (st : WorkersStand h p o) where
  -- it makes the record that its task asks for
  pub asks_by : (k : ℕ) (x : Held) (pages : ℕ) → MakesRecord p k x pages → asked_by_task p k x.task ≡ Some pages
  asks_by k x pages m = ap (asked_by_task p k) m.task ∙ asks_as p k m.mutator m.instr pages m.is m.no_end m.pages_are

  module _ (k : ℕ) (below : k < length h.workers) where
    abbrev x : Held
    x = held_at h k

    for_record : IsForRecord p k x
    for_record = set_aside_is_for_records h p o k x st below refl

    some_or_none : (P : Type 0) → (0 < set_aside x → P) → (set_aside x ≡ 0 → P) → P
    some_or_none P some none = ⊎_elim (λ (z : set_aside x ≡ 0). none z) (λ (z : set_aside x ≢ 0). some (omega (arith, z))) (cases_eq (set_aside x) 0)

    pub aside_most : set_aside x ≤ PAGE_WORDS * pages_by_task p k x.task
    aside_most = some_or_none (set_aside x ≤ PAGE_WORDS * pages_by_task p k x.task)
        (λ some. rw (asks_by k x _ (for_record.makes some)) for_record.few)
        (λ none. omega (arith, none))

    -- only a mutator makes a record
    aside_past : length p.mutators ≤ k → set_aside x ≡ 0
    aside_past past = some_or_none (set_aside x ≡ 0)
        (λ some. let m = for_record.makes some in let inside = slice_get_within p.mutators k m.mutator m.is in absurd (omega (arith, past, inside)))
        (λ none. none)

  -- what all have set aside, where mutator m has nothing
  pub aside_of_others : (m : ℕ) (tasks : Tasks) → m < length h.workers → set_aside (held_at h m) ≡ 0 → ((j : ℕ) → j ≢ m → tasks j ≡ tasks_held h.workers j)
      → aside_in h ≤ PAGE_WORDS * made_next p tasks m []
  aside_of_others m tasks below none same =
      let so : IsSo h p = what_stands_is_so h p o st in
      let many = so.as_many in
      let enough = so.enough in
      let few : length p.mutators ≤ length h.workers = omega (arith, many, enough) in
      let past = sum_below-past (length h.workers) (length p.mutators) (λ k. set_aside (held_at h k)) few (λ k from inside. aside_past k inside from) in
      let most = sum_below-most (length p.mutators) (λ k. set_aside (held_at h k)) (λ k. PAGE_WORDS * making k) (λ k inside. of_others k (omega (arith, inside, few))) in
      let times = sum_below-times (length p.mutators) making in
      omega (arith, past, most, times)
    where
      -- what the other mutators make
      making : ℕ → ℕ
      making j = cond (j == m) 0 (pages_by_task p j (tasks j))

      of_others : (j : ℕ) → j < length h.workers → set_aside (held_at h j) ≤ PAGE_WORDS * making j
      of_others j inside = ⊎_elim
          (λ (e : j ≡ m). let is : set_aside (held_at h j) ≡ 0 = ap (λ (i : ℕ). set_aside (held_at h i)) e ∙ none in omega (arith, is))
          (λ (other : j ≢ m). rw (ne_eqb j m other, same j other) (aside_most j inside))
          (cases_eq j m)
