-- In a run each page that is of the gate's epoch was won in it, if that isn't the epoch in which the run began.
use Rattle.std.proofs.Common.{◌≡◌, ℕ, ◌+◌, ◌<◌, ◌≤◌, ◌⊎◌, inl, inr, Bool, true, false, cond, List, [], ◌++◌, length, slice_get, Option, Some, None, zero, suc, refl, sym, ap, ◌∙◌, arith, ⊎_elim}
use Rattle.std.specs.Option.{option_to_list}
use Rattle.std.specs.Prelude.{unwrap_or}
use Rattle.std.proofs.lemmas.Bool.{cases_lt}
use Rattle.std.proofs.lemmas.List.{get_or_past}
use Rattle.plain_state.specs.State.{Plain}
use Rattle.plain_heap.specs.declared.mark.Mark.{Mark}
use Rattle.plain_heap.specs.Order.{Story}
use Rattle.atom_store.specs.declared.step.Step.{Step}
use Rattle.atom_store.specs.Step.{reply_of}
use Rattle.space_map.specs.declared.page_word.PageWord.{PageWord}
use Rattle.space_map.specs.declared.page_word.PageWord.TheVariants.{Unset}
use Rattle.space_map.specs.PageWord.{age_of}
use Rattle.space_map.specs.Spaces.{board_page}
use Rattle.gc_worker.specs.Laws.Between.{ReadyingStands, TasksMayBegin}
use Rattle.gc_worker.specs.Laws.Claims.{CopiedPagesAreBelowLow, FlipsAreOfTraced, IsCopiedPage, IsOfEpoch, PagesAreOpenedByClaims, TracedPagesAreOpen, epoch_of_heap}
use Rattle.gc_worker.specs.Laws.Copied.{IsTraced}
use Rattle.gc_worker.specs.Workers.Held.{Held}
use Rattle.gc_worker.specs.Laws.Step.{Heap, WorkersStand, nobody}
use Rattle.gc_worker.specs.declared.calls.did.Did.TheVariants.{Done}
use Rattle.gc_worker.specs.Steps.Turned.{PageWon, Told, Answers, Marks, told}
use Rattle.gc_worker.specs.Steps.Wanted.{wanted}
use Rattle.gc_worker.specs.declared.steps.stepped.Stepped.TheVariants as tells
use Rattle.gc_worker.specs.Plain.Marks.{mark_of}
use Rattle.gc_core.specs.Claims.{AreApart, IsWonOnce, PagesAreWon, won_of, wins_from}
use Rattle.gc_core.specs.Core.{CoreState}
use Rattle.gc_core.specs.Event.{core_after, event_of, event_by, readied, ready}
use Rattle.gc_core.specs.Law.{EventsStand, IsSteady, story_met}
use Rattle.gc_core.specs.Run.{Ran, after_event, all_ended, run_from}
use Rattle.gc_core.proofs.Events.Readied.{ReadyToStep, readied_stands}

-- a page of the gate's epoch, of the core's heap
abbrev IsOf : CoreState → (page : ℕ) → Type 0
IsOf s page = IsOfEpoch s.heap.pages s.heap.words page

-- ---- an event

-- what is so after it was so before it, in the same epoch, or was won
abbrev Comes : CoreState → (w page : ℕ) → Type 0
Comes s w page =
    IsOf (core_after s w) page
    → ((epoch_of_heap (core_after s w).heap ≡ epoch_of_heap s.heap) × IsOf s page) ⊎ (won_of s w ≡ Some (record { page = page; epoch = epoch_of_heap (core_after s w).heap }))

idle_comes : (s : CoreState) (w page : ℕ) → wanted (ready s w) ≡ None → Comes s w page
unfolding event_of
idle_comes s w page none = rw none (λ is. inl (refl, is))

module _ (opens : PagesAreOpenedByClaims) (readies : ReadyingStands) (tasks : TasksMayBegin) where
  step_comes : (s : CoreState) (w : ℕ) (story : Story) (r : ReadyToStep s w story.now story.flip) (page : ℕ) (q : Step) → wanted (ready s w) ≡ Some q → Comes s w page
  unfolding event_of
  step_comes s w story r page q asked =
      let comes = opens r.heap story.now story.flip w (ready s w) q page r.stands r.below r.holds asked in
      rw asked (rw (r.words, r.pages) at comes)

  by_step : (s : CoreState) (w : ℕ) (story : Story) (r : ReadyToStep s w story.now story.flip) (page : ℕ) (o : Option Step) → wanted (ready s w) ≡ o → Comes s w page
  by_step s w story r page None is = idle_comes s w page is
  by_step s w story r page (Some q) is = step_comes s w story r page q is

  event_comes : (s : CoreState) (w : ℕ) (story : Story) → IsSteady s → WorkersStand s.heap story.now story.flip → (page : ℕ) → Comes s w page
  event_comes s w story steady stands page = ⊎_elim
      (λ (below : w < length s.heap.workers). by_step s w story (readied_stands readies tasks s w story.now story.flip steady stands below) page (wanted (ready s w)) refl)
      (λ (past : length s.heap.workers ≤ w). idle_comes s w page (ap (λ (x : Held). wanted (readied s.code s.turns w x)) (get_or_past s.heap.workers w nobody past)))
      (cases_lt w (length s.heap.workers))

  -- ---- a run

  -- it stands in the list
  abbrev StandsIn : List PageWon → PageWon → Type 0
  StandsIn wins v = (i : ℕ) × (slice_get wins i ≡ Some v)

  now_stands : (o : Option PageWon) (rest : List PageWon) (v : PageWon) → o ≡ Some v → StandsIn (option_to_list o ++ rest) v
  now_stands None rest v e = absurd (cc)
  now_stands (Some u) rest v e = (0, e)

  later_stands : (o : Option PageWon) (rest : List PageWon) (v : PageWon) → StandsIn rest v → StandsIn (option_to_list o ++ rest) v
  later_stands None rest v there = there
  later_stands (Some u) rest v there = (suc there.0, there.1)

  -- what is of the last core's epoch was of the first one's, in the same epoch, or was won
  abbrev Came : CoreState → CoreState → List PageWon → (page : ℕ) → Type 0
  Came s last wins page = ((epoch_of_heap last.heap ≡ epoch_of_heap s.heap) × IsOf s page) ⊎ StandsIn wins (record { page = page; epoch = epoch_of_heap last.heap })

  module _ (events : EventsStand) where
    came_by : (s : CoreState) (w : ℕ) (story : Story) → IsSteady s → WorkersStand s.heap story.now story.flip → (last : CoreState) (rest : List PageWon) (page : ℕ)
        → Came (core_after s w) last rest page → Came s last (option_to_list (won_of s w) ++ rest) page
    came_by s w story steady stands last rest page (inr there) = inr (later_stands (won_of s w) rest _ there)
    came_by s w story steady stands last rest page (inl (same, is)) = ⊎_elim
        (λ (was : (epoch_of_heap (core_after s w).heap ≡ epoch_of_heap s.heap) × IsOf s page). inl (same ∙ was.0, was.1))
        (λ (won : won_of s w ≡ Some (record { page = page; epoch = epoch_of_heap (core_after s w).heap })).
        inr (now_stands (won_of s w) rest (record { page = page; epoch = epoch_of_heap last.heap }) (won ∙ ap (λ (e : ℕ). Some (record { page = page; epoch = e })) (sym same))))
        (event_comes s w story steady stands page is)

    run_by : (s : CoreState) (w : ℕ) (story : Story) → IsSteady s → WorkersStand s.heap story.now story.flip → (o : Option Mark) (r : Ran) (rest : List PageWon) (page : ℕ)
        → (IsOf r.last page → Came (core_after s w) r.last rest page) → (ended : Bool)
        → IsOf (cond ended (record { last = s; order = [] }) (after_event o r)).last page
        → Came s (cond ended (record { last = s; order = [] }) (after_event o r)).last (cond ended [] (option_to_list (won_of s w) ++ rest)) page
    run_by s w story steady stands o r rest page later true is = inl (refl, is)
    run_by s w story steady stands o r rest page later false is = came_by s w story steady stands r.last rest page (later is)

    came : (schedule : ℕ → ℕ) (at n : ℕ) (s : CoreState) (story : Story) → IsSteady s → WorkersStand s.heap story.now story.flip → (page : ℕ)
        → IsOf (run_from schedule at n s).last page → Came s (run_from schedule at n s).last (wins_from schedule at n s) page
    unfolding run_from wins_from
    came schedule at zero s story steady stands page is = inl (refl, is)
    came schedule at (suc n) s story steady stands page is =
        let w = schedule at in
        let k = events s w story steady stands in
        let next = core_after s w in
        run_by s w story steady stands (mark_of (event_of s w).told) (run_from schedule (at + 1) n next) (wins_from schedule (at + 1) n next) page
        (came schedule (at + 1) n next (story_met s story (event_of s w)) k.steady k.stands page) (all_ended s) is

    -- ---- from an opening

    module _ (open_pages : TracedPagesAreOpen) (below : CopiedPagesAreBelowLow) (schedule : ℕ → ℕ) (n : ℕ) (s : CoreState) (story : Story) (steady : IsSteady s)
        (stands : WorkersStand s.heap story.now story.flip) (first : epoch_of_heap s.heap ≡ 0) (apart : AreApart (wins_from schedule 0 n s)) where
      abbrev last : Heap
      last = (run_from schedule 0 n s).last.heap

      module _ (later : 0 < epoch_of_heap last) where
        won_once : (page : ℕ) → IsOf (run_from schedule 0 n s).last page → IsWonOnce (wins_from schedule 0 n s) last page
        won_once page is = ⊎_elim
            (λ (was : (epoch_of_heap last ≡ epoch_of_heap s.heap) × IsOf s page). absurd (let e = was.0 in omega (arith, e, first, later)))
            (λ (there : StandsIn (wins_from schedule 0 n s) (record { page = page; epoch = epoch_of_heap last })).
            record { at = there.0; won = there.1; once = λ i e. apart i there.0 (record { page = page; epoch = epoch_of_heap last }) e there.1 })
            (came schedule 0 n s story steady stands page is)

        pub pages_are_won : (p o : Plain) → WorkersStand last p o → PagesAreWon (wins_from schedule 0 n s) last
        pages_are_won p o st = record {
          of_epoch = won_once;
          opened = open_pages last p o st;
          copied = λ traced page copied. won_once page (record {
            for_copies = ⊎_elim (λ (board : page ≡ board_page last.pages). inl board) (λ (c : IsCopiedPage last page). inr (below last p o page st c)) copied;
            word = ap (λ (w : Option PageWord). age_of (unwrap_or w Unset)) (open_pages last p o st traced page copied);
          });
        }

-- ---- flips

-- a step that is told as a flip is one to the plain machine
marks_by : (h : Heap) (w asked : ℕ) (x : Held) (q : Step) (t : Told) → told x (reply_of q h.words) ≡ t → (event_by h w x (Some q)).told ≡ tells.Flipped asked → t ≡ Marks asked
marks_by h w asked x q (Marks other) is e = let f = rw is at e in let same : other ≡ asked = cc in ap Marks same
marks_by h w asked x q (Answers _ Done) is e = let f = rw is at e in absurd (cc)
marks_by h w asked x q _ is e = let f = rw is at e in absurd (cc)

module _ (flips : FlipsAreOfTraced) (readies : ReadyingStands) (tasks : TasksMayBegin) (s : CoreState) (w asked : ℕ) (p o : Plain) (steady : IsSteady s) (stands : WorkersStand s.heap p o) where
  flipped_by : (q : Option Step) → wanted (ready s w) ≡ q → (event_by s.heap w (ready s w) q).told ≡ tells.Flipped asked → IsTraced s.heap
  flipped_by None is e = absurd (cc)
  flipped_by (Some q) is e = ⊎_elim
      (λ (below : w < length s.heap.workers).
      let r = readied_stands readies tasks s w p o steady stands below in
      let traced = flips r.heap p o w (ready s w) (reply_of q s.heap.words) asked r.stands r.below r.holds (marks_by s.heap w asked (ready s w) q (told (ready s w) (reply_of q s.heap.words)) refl e) in
      rw (r.words, r.pages) at traced)
      (λ (past : length s.heap.workers ≤ w).
      let none : wanted (ready s w) ≡ None = ap (λ (x : Held). wanted (readied s.code s.turns w x)) (get_or_past s.heap.workers w nobody past) in
      absurd (let f = sym none ∙ is in cc))
      (cases_lt w (length s.heap.workers))

  pub flipped_of_traced : (event_of s w).told ≡ tells.Flipped asked → IsTraced s.heap
  unfolding event_of
  flipped_of_traced e = flipped_by (wanted (ready s w)) refl e
