-- What an event makes of the pages in use.
use Rattle.std.proofs.Common.{◌≡◌, ◌≢◌, ℕ, ◌+◌, ◌<◌, ◌≤◌, List, length, Option, Some, None, refl, ap, sym, subst, arith, ⊎_elim}
use Rattle.std.proofs.lemmas.Bool.{cases_eq, cases_lt}
use Rattle.std.proofs.lemmas.List.{get_or_past}
use Rattle.atom_store.specs.declared.step.Step.{Step}
use Rattle.atom_store.specs.Step.{reply_of, words_after}
use Rattle.space_map.specs.Spaces.{to_space}
use Rattle.gc_worker.specs.declared.calls.did.Did.TheVariants.{Done}
use Rattle.gc_worker.specs.declared.steps.stepped.Stepped.{Stepped}
use Rattle.gc_worker.specs.declared.steps.stepped.Stepped.TheVariants.{Flipped}
use Rattle.gc_worker.specs.Laws.Cycles.{HasNextSize, SizeGoes, SizesHoldAt, front_of, size_at, size_next, size_of}
use Rattle.gc_worker.specs.Laws.Growth.{Grows}
use Rattle.gc_worker.specs.Laws.Claims.{epoch_of_heap}
use Rattle.gc_worker.specs.Laws.Step.{nobody}
use Rattle.gc_worker.specs.Steps.Stepped.{stepped_by}
use Rattle.gc_worker.specs.Steps.Turned.{Told, Answers, Marks, told}
use Rattle.gc_worker.specs.Steps.Wanted.{wanted}
use Rattle.gc_worker.specs.Workers.Held.{Held, has_seen_flip}
use Rattle.gc_worker.proofs.Between.Beginning.{tasks_may_begin}
use Rattle.gc_worker.proofs.Between.Readying.{readying_stands}
use Rattle.gc_worker.proofs.Cycles.SizesOfSpaces.{sizes_are_within, sizes_hold, sizes_stay}
use Rattle.gc_worker.proofs.Cycles.NextSizes.{flips_set_sizes}
use Rattle.gc_worker.proofs.Words.Areas.{is_space}
use Rattle.gc_worker.proofs.Words.GrownSizes.{grown_within, next_grows}
use Rattle.gc_core.specs.Core.{CoreState, size_in}
use Rattle.gc_core.specs.Cycles.{SizeIsAfter, SizesGrowAtFlips, SizesNeverFall}
use Rattle.gc_core.specs.Event.{core_after, event_of, readied, ready}
use Rattle.gc_core.specs.Law.{IsLawful}
use Rattle.gc_core.proofs.Events.Readied.{ReadyToStep, readied_stands, ready_found}

-- so many pages of each space are in use, or more
abbrev pub HasAtLeast : (least : ℕ) → CoreState → Type 0
HasAtLeast least s = (space : ℕ) → space < 2 → least ≤ size_at s.heap.pages s.heap.words space

module _ (s : CoreState) (w : ℕ) (l : IsLawful s) where
  -- the space in use keeps its size, and the other one gets none that is smaller than that
  held_by : (least : ℕ) → HasAtLeast least s → (later : List ℕ) → SizesHoldAt s.heap.pages s.heap.words later (to_space (epoch_of_heap s.heap)) (to_space (epoch_of_heap s.heap + 1))
      → (space : ℕ) → space < 2 → least ≤ size_at s.heap.pages later space
  held_by least few later hold space small = ⊎_elim
      (λ (here : space ≡ to_space (epoch_of_heap s.heap)). subst (λ (z : ℕ). least ≤ size_at s.heap.pages later z) (sym here) in_use)
      (λ (there : space ≢ to_space (epoch_of_heap s.heap)).
      subst (λ (z : ℕ). least ≤ size_at s.heap.pages later z) (let other : to_space (epoch_of_heap s.heap + 1) ≡ space = omega (arith, there, small) in other) beside)
      (cases_eq space (to_space (epoch_of_heap s.heap)))
    where
      in_use : least ≤ size_at s.heap.pages later (to_space (epoch_of_heap s.heap))
      in_use = let was = few (to_space (epoch_of_heap s.heap)) (is_space (epoch_of_heap s.heap)) in let same = hold.in_use in omega (arith, was, same)

      beside : least ≤ size_at s.heap.pages later (to_space (epoch_of_heap s.heap + 1))
      beside =
          let own = few (to_space (epoch_of_heap s.heap)) (is_space (epoch_of_heap s.heap)) in
          let was = few (to_space (epoch_of_heap s.heap + 1)) (is_space (epoch_of_heap s.heap + 1)) in
          ⊎_elim
          (λ (same : size_at s.heap.pages later (to_space (epoch_of_heap s.heap + 1)) ≡ size_at s.heap.pages s.heap.words (to_space (epoch_of_heap s.heap + 1))). omega (arith, was, same))
          (λ (more : size_at s.heap.pages s.heap.words (to_space (epoch_of_heap s.heap)) ≤ size_at s.heap.pages later (to_space (epoch_of_heap s.heap + 1))). omega (arith, own, more))
          hold.beside

  idle_at_least : (least : ℕ) → HasAtLeast least s → wanted (ready s w) ≡ None → HasAtLeast least (core_after s w)
  unfolding event_of
  idle_at_least least few none = rw none few

  abbrev IsAfter : Type 0
  IsAfter = SizeIsAfter s w (size_in (core_after s w)) (event_of s w).told

  idle_stays : wanted (ready s w) ≡ None → IsAfter
  unfolding event_of
  idle_stays none = rw none refl

  -- a flip sets them
  abbrev Sets : Told → (later : List ℕ) → Type 0
  Sets t later = (asked : ℕ) → t ≡ Marks asked → size_of s.heap.pages later ≡ size_next s.heap.pages s.heap.words (ready s w)

  by_told : (t : Told) (later : List ℕ) → SizeGoes s.heap.pages s.heap.words later t → Sets t later → SizeIsAfter s w (size_of s.heap.pages later) (stepped_by w t)
  by_told (Marks asked) later goes sets = sets asked refl
  by_told (Answers _ Done) later goes sets = goes
  by_told _ later goes sets = goes

  -- the worker with its task
  module _ (below : w < length s.heap.workers) where
    r : ReadyToStep s w l.plain l.flip
    r = readied_stands readying_stands tasks_may_begin s w l.plain l.flip l.steady l.stands below

    found : HasNextSize r.heap.pages r.heap.words (ready s w)
    found = rw (r.words, r.pages) (ready_found s.heap.pages s.heap.words s w (l.steady.found w below))

    by_want : (o : Option Step) → wanted (ready s w) ≡ o → IsAfter
    unfolding event_of
    by_want None is = idle_stays is
    by_want (Some q) is =
        let goes = sizes_stay r.heap l.plain l.flip w (ready s w) q r.stands r.below r.holds is in
        let sets = λ (asked : ℕ) (e : told (ready s w) (reply_of q r.heap.words) ≡ Marks asked). flips_set_sizes r.heap l.plain l.flip w (ready s w) q asked r.stands r.below r.holds is found e in
        rw is (by_told (told (ready s w) (reply_of q s.heap.words)) (words_after q s.heap.words) (rw (r.words, r.pages) at goes) (rw (r.words, r.pages) at sets))

    -- no space gets fewer pages than so many
    at_least_by : (least : ℕ) → HasAtLeast least s → (o : Option Step) → wanted (ready s w) ≡ o → HasAtLeast least (core_after s w)
    unfolding event_of
    at_least_by least few None is = rw is few
    at_least_by least few (Some q) is =
        let hold = sizes_hold r.heap l.plain l.flip w (ready s w) q r.stands r.below r.holds is in
        rw is (held_by least few (words_after q s.heap.words) (rw (r.words, r.pages) at hold))

  is_after : IsAfter
  is_after = ⊎_elim
      (λ (below : w < length s.heap.workers). by_want below (wanted (ready s w)) refl)
      (λ (past : length s.heap.workers ≤ w). idle_stays (ap (λ (x : Held). wanted (readied s.code s.turns w x)) (get_or_past s.heap.workers w nobody past)))
      (cases_lt w (length s.heap.workers))

  pub event_at_least : (least : ℕ) → HasAtLeast least s → HasAtLeast least (core_after s w)
  event_at_least least few = ⊎_elim
      (λ (below : w < length s.heap.workers). at_least_by below least few (wanted (ready s w)) refl)
      (λ (past : length s.heap.workers ≤ w). idle_at_least least few (ap (λ (x : Held). wanted (readied s.code s.turns w x)) (get_or_past s.heap.workers w nobody past)))
      (cases_lt w (length s.heap.workers))

  next_grows_of : Grows s.heap.pages (size_in s) (size_next s.heap.pages s.heap.words (ready s w))
  next_grows_of = next_grows s.heap.pages (has_seen_flip (ready s w)) (size_in s) (front_of s.heap.pages s.heap.words)

  never_fewer : (next : ℕ) (t : Stepped) → size_in s ≤ s.heap.pages → SizeIsAfter s w next t → size_in s ≤ next
  never_fewer next (Flipped asked) few set = let grown = (grown_within s.heap.pages (size_in s) (size_next s.heap.pages s.heap.words (ready s w)) few next_grows_of).0 in omega (arith, grown, set)
  never_fewer next _ few same = omega (arith, same)

pub sizes_grow_at_flips : SizesGrowAtFlips
sizes_grow_at_flips s w l = is_after s w l

pub sizes_never_fall : SizesNeverFall
sizes_never_fall s w l = never_fewer s w l (size_in (core_after s w)) (event_of s w).told (sizes_are_within s.heap l.plain l.flip l.stands).1 (is_after s w l)
