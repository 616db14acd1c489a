-- In a run no page is won twice in an epoch.
use Rattle.std.proofs.Common.{◌≡◌, ℕ, ◌+◌, ◌<◌, ◌≤◌, ◌⊎◌, inl, inr, Bool, true, false, cond, List, [], ◌++◌, length, slice_get, Option, Some, None, zero, suc, refl, sym, ap, subst, ◌∙◌, arith, ⊎_elim}
use Rattle.std.specs.Option.{option_to_list}
use Rattle.std.proofs.lemmas.Bool.{cases_lt}
use Rattle.std.proofs.lemmas.List.{get_or_past}
use Rattle.plain_heap.specs.Order.{Story}
use Rattle.atom_store.specs.declared.step.Step.{Step}
use Rattle.gc_worker.specs.Laws.Between.{ReadyingStands, TasksMayBegin}
use Rattle.gc_worker.specs.Workers.Held.{Held}
use Rattle.gc_worker.specs.Laws.Step.{Heap, StepsKeep, WorkersStand, IsOut, WinsOne, nobody}
use Rattle.gc_worker.specs.Steps.Turned.{PageWon}
use Rattle.gc_worker.specs.Steps.Wanted.{wanted}
use Rattle.gc_core.specs.Claims.{AreApart, won_of, wins_from, PagesAreWonOnce}
use Rattle.gc_core.specs.Core.{CoreState}
use Rattle.gc_core.specs.Event.{core_after, event_of, readied, ready}
use Rattle.gc_core.specs.Law.{EventsStand, IsSteady, KeepsPlain, story_met}
use Rattle.gc_core.specs.Run.{all_ended}
use Rattle.gc_core.proofs.Events.Readied.{ReadyToStep, readied_stands}

-- ---- an event

-- what is out stays out, and what is won was not
record Wins (s : CoreState) (w : ℕ) : Type 0 where
  pages : (core_after s w).heap.pages ≡ s.heap.pages
  kept : (v : PageWon) → IsOut s.heap.pages s.heap.words v → IsOut s.heap.pages (core_after s w).heap.words v
  wins : WinsOne s.heap.pages s.heap.words (core_after s w).heap.words (won_of s w)

idle_wins : (s : CoreState) (w : ℕ) → wanted (ready s w) ≡ None → Wins s w
unfolding event_of
idle_wins s w none = record { pages = rw none refl; kept = rw none (λ v out. out); wins = rw none tt }

module _ (law : StepsKeep) (readies : ReadyingStands) (tasks : TasksMayBegin) where
  step_wins : (s : CoreState) (w : ℕ) (story : Story) (r : ReadyToStep s w story.now story.flip) (q : Step) → wanted (ready s w) ≡ Some q → Wins s w
  unfolding event_of
  step_wins s w story r q asked =
      let keeps = law r.heap story.now story.flip w (ready s w) q r.stands r.below r.holds asked in
      record {
        pages = rw asked refl;
        kept = rw asked (rw (r.words, r.pages) at keeps.kept);
        wins = rw asked (rw (r.words, r.pages) at keeps.wins);
      }

  by_step : (s : CoreState) (w : ℕ) (story : Story) (r : ReadyToStep s w story.now story.flip) (o : Option Step) → wanted (ready s w) ≡ o → Wins s w
  by_step s w story r None is = idle_wins s w is
  by_step s w story r (Some q) is = step_wins s w story r q is

  event_wins : (s : CoreState) (w : ℕ) (story : Story) → IsSteady s → WorkersStand s.heap story.now story.flip → Wins s w
  event_wins s w story steady stands = ⊎_elim
      (λ (below : w < length s.heap.workers). by_step s w story (readied_stands readies tasks s w story.now story.flip steady stands below) (wanted (ready s w)) refl)
      (λ (past : length s.heap.workers ≤ w). idle_wins s w (ap (λ (x : Held). wanted (readied s.code s.turns w x)) (get_or_past s.heap.workers w nobody past)))
      (cases_lt w (length s.heap.workers))

  -- ---- lists

  count : Option PageWon → ℕ
  count None = 0
  count (Some w) = 1

  split : (o : Option PageWon) (rest : List PageWon) (i : ℕ) (v : PageWon) → slice_get (option_to_list o ++ rest) i ≡ Some v
      → ((o ≡ Some v) × (i ≡ 0)) ⊎ ((j : ℕ) × (slice_get rest j ≡ Some v) × (i ≡ j + count o))
  unfolding count
  split None rest i v e = inr (i, e, omega arith)
  split (Some u) rest zero v e = inl (e, refl)
  split (Some u) rest (suc i) v e = inr (i, e, omega arith)

  -- ---- a run

  module _ (events : EventsStand) (s : CoreState) (w : ℕ) (story : Story) (steady : IsSteady s) (stands : WorkersStand s.heap story.now story.flip) (rest : List PageWon) where
    abbrev later : Heap
    later = (core_after s w).heap

    keeps : KeepsPlain s w story
    keeps = events s w story steady stands

    claims : Wins s w
    claims = event_wins s w story steady stands

    -- the pages won from this event on
    abbrev all : Bool → List PageWon
    all ended = cond ended [] (option_to_list (won_of s w) ++ rest)

    out_later : (v : PageWon) → IsOut s.heap.pages later.words v → IsOut later.pages later.words v
    out_later v out = subst (λ (n : ℕ). IsOut n later.words v) (sym claims.pages) out

    won_now : (v : PageWon) → won_of s w ≡ Some v → ¬ (IsOut s.heap.pages s.heap.words v) × IsOut s.heap.pages later.words v
    won_now v is = subst (λ (o : Option PageWon). WinsOne s.heap.pages s.heap.words later.words o) is claims.wins

    -- what is out is not won any more
    abbrev NeverWon : CoreState → List PageWon → Type 0
    NeverWon t wins = (v : PageWon) → IsOut t.heap.pages t.heap.words v → (i : ℕ) → slice_get wins i ≡ Some v → ⊥

    never_by : NeverWon (core_after s w) rest → (ended : Bool) → NeverWon s (all ended)
    never_by none true v out i e = cc
    never_by none false v out i e = ⊎_elim
        (λ (now : (won_of s w ≡ Some v) × (i ≡ 0)). (won_now v now.0).0 out)
        (λ (then : (j : ℕ) × (slice_get rest j ≡ Some v) × (i ≡ j + count (won_of s w))). none v (out_later v (claims.kept v out)) then.0 then.1)
        (split (won_of s w) rest i v e)

    -- it is won now, or later
    abbrev Now : PageWon → ℕ → Type 0
    Now v i = (won_of s w ≡ Some v) × (i ≡ 0)

    abbrev Then : PageWon → ℕ → Type 0
    Then v i = (j : ℕ) × (slice_get rest j ≡ Some v) × (i ≡ j + count (won_of s w))

    by_both : NeverWon (core_after s w) rest → AreApart rest → (i j : ℕ) (v : PageWon) → Now v i ⊎ Then v i → Now v j ⊎ Then v j → i ≡ j
    by_both none apart i j v (inl a) (inl b) = a.1 ∙ sym b.1
    by_both none apart i j v (inl a) (inr b) = absurd (none v (out_later v (won_now v a.0).1) b.0 b.1)
    by_both none apart i j v (inr a) (inl b) = absurd (none v (out_later v (won_now v b.0).1) a.0 a.1)
    by_both none apart i j v (inr a) (inr b) = a.2 ∙ (ap (λ (n : ℕ). n + count (won_of s w)) (apart a.0 b.0 v a.1 b.1) ∙ sym b.2)

    apart_by : NeverWon (core_after s w) rest → AreApart rest → (ended : Bool) → AreApart (all ended)
    apart_by none apart true i j v is at = absurd (let e = is in cc)
    apart_by none apart false i j v is at = by_both none apart i j v (split (won_of s w) rest i v is) (split (won_of s w) rest j v at)

  module _ (events : EventsStand) where
    never : (schedule : ℕ → ℕ) (at n : ℕ) (s : CoreState) (story : Story) → IsSteady s → WorkersStand s.heap story.now story.flip → (v : PageWon) → IsOut s.heap.pages s.heap.words v
        → (i : ℕ) → slice_get (wins_from schedule at n s) i ≡ Some v → ⊥
    unfolding wins_from
    never schedule at zero s story steady stands v out i e = cc
    never schedule at (suc n) s story steady stands v out i e =
        let w = schedule at in
        let k = keeps events s w story steady stands (wins_from schedule (at + 1) n (core_after s w)) in
        never_by events s w story steady stands (wins_from schedule (at + 1) n (core_after s w))
        (never schedule (at + 1) n (core_after s w) (story_met s story (event_of s w)) k.steady k.stands) (all_ended s) v out i e

    pub pages_are_won_once : PagesAreWonOnce
    unfolding wins_from
    pages_are_won_once schedule at zero s story steady stands i j v is at' = absurd (let e = is in cc)
    pages_are_won_once schedule at (suc n) s story steady stands i j v is at' =
        let w = schedule at in
        let k = keeps events s w story steady stands (wins_from schedule (at + 1) n (core_after s w)) in
        apart_by events s w story steady stands (wins_from schedule (at + 1) n (core_after s w))
        (never schedule (at + 1) n (core_after s w) (story_met s story (event_of s w)) k.steady k.stands)
        (pages_are_won_once schedule (at + 1) n (core_after s w) (story_met s story (event_of s w)) k.steady k.stands) (all_ended s) i j v is at'
