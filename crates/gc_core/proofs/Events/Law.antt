-- The law of an event, from the law of a worker's step.
use Rattle.std.proofs.Common.{◌≡◌, ◌≢◌, ℕ, ◌+◌, ◌<◌, ◌≤◌, Bool, true, false, nat_lt, List, length, Option, Some, None, slice_get, get_or, refl, ap, sym, subst, ◌∙◌, arith, get_or-set_same, get_or-set_other, length-set, lt-ltb, ⊎_elim}
use Rattle.std.specs.Option.{is_some, option_map}
use Rattle.std.proofs.lemmas.Bool.{cases_eq, cases_lt}
use Rattle.std.proofs.lemmas.List.{get_or_past}
use Rattle.std.proofs.lemmas.Option.{slice_get_within, slice_get-get_or, slice_get_past}
use Rattle.plain_state.specs.declared.end.End.{End}
use Rattle.plain_state.specs.declared.end.End.TheVariants as ends
use Rattle.plain_state.specs.Cells.{CellsFollow}
use Rattle.plain_state.specs.State.{Plain, Mutator}
use Rattle.plain_heap.specs.Order.{Story, fresh, end_of}
use Rattle.plain_heap.specs.Step.{fetch, asked_by}
use Rattle.space_map.specs.Table.{whole_length}
use Rattle.heap_state.specs.Meaning.Values.{Accounts}
use Rattle.heap_state.proofs.Puts.{none≢some}
use Rattle.atom_store.specs.declared.step.Step.{Step}
use Rattle.atom_store.specs.Step.{words_after, reply_of}
use Rattle.atom_store.proofs.StepWords.{length-words_after}
use Rattle.gc_worker.specs.declared.stage.Stage.TheVariants.{Gone}
use Rattle.gc_worker.specs.declared.task.Task.{Task}
use Rattle.gc_worker.specs.Plain.Stories.{story_told}
use Rattle.gc_worker.specs.Plain.Answer.{ComesTo, MayCome, IsAnswered, after_outcome, after_told}
use Rattle.gc_worker.specs.Laws.Between.{ReadyingStands, TasksMayBegin, WorkersGoOn, WorkersWant, WhatStandsIsSo, KeepsToTask, IsSo, IsNoAnswer}
use Rattle.gc_worker.specs.Workers.Fits.{Fits, IsOnSide}
use Rattle.gc_worker.specs.Plain.Full.{FullByEnd, FullWhereTold}
use Rattle.gc_worker.specs.Laws.Cycles.{HaveNextSizes}
use Rattle.gc_worker.specs.Laws.Gone.{ScannersAreLast}
use Rattle.gc_worker.specs.Laws.Represented.{HasKept}
use Rattle.gc_worker.specs.Workers.Held.{Held}
use Rattle.gc_worker.specs.Laws.Step.{EpochStays, Heap, IsTracedIn, nobody, held_at, layout_of, moved, read, WorkersStand, StepKeeps, StepsKeep, FlipsWhereTold, epoch_of, at_flip}
use Rattle.gc_worker.specs.Laws.Copied.{IsTraced}
use Rattle.gc_worker.specs.Laws.Stories.{StoriesKeep, StoryStands}
use Rattle.gc_worker.specs.Plain.Empty.{empty_cells}
use Rattle.gc_worker.specs.declared.calls.did.Did.{Did}
use Rattle.gc_worker.specs.declared.calls.did.Did.TheVariants.{Done, Trap}
use Rattle.gc_worker.specs.Steps.Turned.{Told, Silent, Empties, Answers, Marks, turned, told}
use Rattle.gc_worker.specs.Steps.Wanted.{wanted}
use Rattle.gc_worker.specs.declared.steps.stepped.Stepped.TheVariants as tells
use Rattle.gc_worker.specs.Plain.Marks.{task_of, mark_by}
use Rattle.gc_core.specs.Core.{CoreState}
use Rattle.gc_core.specs.Event.{event_of, ready}
use Rattle.gc_worker.specs.Steps.Stepped.{stepped_by}
use Rattle.gc_worker.specs.Laws.Claims.{epoch_of_heap}
use Rattle.gc_core.specs.Law.{AllHaveLeft, IsLawful, IsOnTask, IsScanner, IsSteady, IsForWant, IsTold, KeepsPlain, EventsKeep, EventsMeet, EventsStand, KeepsEpoch, StandsFor, story_by, story_in, story_met}
use Rattle.gc_core.specs.Whole.{MissingWorkersAreIdle}
use Rattle.gc_worker.proofs.Between.Last.{scanners_last_with, scanners_stay_last}
use Rattle.gc_worker.proofs.Cycles.NextSizes.{next_sizes_stay, next_sizes_with}
use Rattle.gc_worker.proofs.Plain.CellTargets.Emptied.{emptied_is, same_serial}
use Rattle.gc_worker.proofs.Plain.Represented.{represented_workers}
use Rattle.gc_worker.proofs.Plain.TaskOutcomes.{comes, end_then, asks_then, counted_then, no_flip, now_marked, was_running}
use Rattle.gc_core.proofs.Events.Readied.{ReadyToStep, readied_stands, same_task, ready_task, ready_account, ready_found, ready_stage}

-- ---- idle

pub idle_event : (s : CoreState) (w : ℕ) → wanted (ready s w) ≡ None → event_of s w ≡ record { told = tells.Idle; after = s.heap }
unfolding event_of
idle_event s w none = rw none refl

module _ (s : CoreState) (w : ℕ) (story : Story) (steady : IsSteady s) (stands : WorkersStand s.heap story.now story.flip) where
  pub idle_keeps : wanted (ready s w) ≡ None → end_of story.now w ≢ Some None → (IsScanner s.heap w → AllHaveLeft s.heap) → KeepsPlain s w story
  idle_keeps none ended left = let e = idle_event s w none in record { steady = rw e steady; stands = rw e stands; told = rw e (refl, ended, left) }

-- ---- the story

-- an answer is no flip
answer_story : (s : CoreState) (story : Story) (w : ℕ) (task : Task) (outcome : Did)
    → story_by s story (stepped_by w (Answers task outcome)) ≡ record { flip = story.flip; now = now_marked s.code s.turns story.now (mark_by w outcome) }
answer_story s story w task Done = no_flip s.code s.turns story.now story.flip w Done
answer_story s story w task (Trap why) = no_flip s.code s.turns story.now story.flip w (Trap why)

-- an end for want of room comes for want of room
for_want : (s : CoreState) (p : Plain) (w : ℕ) (why : End) → ((asked room live : ℕ) → why ≡ ends.HeapFull asked room live → asked_by s.code s.turns p w ≡ Some asked)
    → FullByEnd s.heap.pages s.heap.words (ready s w) why → IsForWant s p w why
for_want s p w (ends.HeapFull asked room live) asks full = (asks asked room live refl, full)
for_want s p w _ asks full = tt

-- the heap in which a worker was given its task stands for the same story
pub ready_story : (s : CoreState) (w : ℕ) (p o : Plain) (r : ReadyToStep s w p o) → StoryStands s.heap p o → StoryStands r.heap p o
ready_story s w p o r stands = record { stands = r.stands; cells = subst (λ (h : Heap). CellsFollow (IsTraced h) o p) (sym r.is) stands.cells }

-- ---- the step of a worker that is there

module _ (law : StepsKeep) (goes : WorkersGoOn) (wants : WorkersWant) (so : WhatStandsIsSo) (s : CoreState) (w : ℕ) (story : Story) (steady : IsSteady s)
    (r : ReadyToStep s w story.now story.flip) where
  abbrev p : Plain
  p = story.now

  abbrev y : Held
  y = ready s w

  is_so : IsSo r.heap p
  is_so = so r.heap p story.flip r.stands

  fits : Fits r.heap.pages r.heap.mutators w y
  fits = subst (Fits r.heap.pages r.heap.mutators w) r.holds (r.stands.fit w r.below)

  -- a mutator of the plain state
  few : (q : Mutator) → slice_get p.mutators w ≡ Some q → w < s.heap.mutators
  few q is = let l = slice_get_within p.mutators w q is in let a = is_so.as_many in let b = r.mutators in omega (arith, l, a, b)

  has_code : (q : Mutator) → slice_get p.mutators w ≡ Some q → w < length s.code
  has_code q is = let l = few q is in let a = steady.sections in omega (arith, l, a)

  account : (q : Mutator) → slice_get p.mutators w ≡ Some q → Accounts p.heap w y.account q
  account q is = rw r.holds at (is_so.mutators w q is).account

  -- the worker had this account before
  account_before : (q : Mutator) → slice_get p.mutators w ≡ Some q → Accounts p.heap w (held_at s.heap w).account q
  account_before q is = rw (ready_account s w) at (account q is)

  -- ---- it wants nothing

  -- who is gone has its end, or is no mutator
  gone_ended : y.stage ≡ Gone → end_of p w ≢ Some None
  gone_ended gone is = by_found (slice_get p.mutators w) refl is
    where
      by_end : (q : Mutator) → slice_get p.mutators w ≡ Some q → q.end ≡ None → ⊥
      by_end q found none =
          let l = few q found in
          let a = fits.number in
          let b = fits.beside in
          let c = r.mutators in
          let mutator : nat_lt y.number y.mutators ≡ true = lt-ltb y.number y.mutators (omega (arith, l, a, b, c)) in
          let side : IsOnSide Gone true (is_some y.account.end) = rw (gone, mutator) at fits.side in
          let end : y.account.end ≡ None = (account q found).end ∙ none in
          let no : is_some y.account.end ≡ false = ap (λ (o : Option End). is_some o) end in
          absurd (cc)

      by_found : (o : Option Mutator) → slice_get p.mutators w ≡ o → option_map (λ k. k.end) o ≡ Some None → ⊥
      by_found None e f = absurd (cc)
      by_found (Some q) e f = by_end q e (let g : q.end ≡ None = cc in g)

  -- and all mutators are, where it is a scanner
  gone_last : y.stage ≡ Gone → IsScanner s.heap w → AllHaveLeft s.heap
  gone_last gone scanner m l = steady.last w m scanner.1 scanner.0 (sym (ready_stage s w) ∙ gone) l

  -- ---- it makes a step

  module _ (q : Step) (asked : wanted y ≡ Some q) where
    keeps : StepKeeps r.heap story.now story.flip w y q
    keeps = law r.heap story.now story.flip w y q r.stands r.below r.holds asked

    abbrev t : Told
    t = told y (reply_of q r.heap.words)

    abbrev after : Heap
    after = moved r.heap w y q

    pub event_is : event_of s w ≡ record { told = stepped_by w t; after = after }
    unfolding event_of
    event_is = rw asked (λ i. record { told = stepped_by w (told y (reply_of q (sym r.words i))); after = sym (r.moves y q) i })

    goes_on : KeepsToTask y (reply_of q r.heap.words)
    goes_on = goes r.heap.pages r.heap.mutators w y (reply_of q r.heap.words) fits

    -- ---- an answer

    -- the task is the next one of the plain mutator
    pub own_task : (task : Task) (outcome : Did) (k : Mutator) → t ≡ Answers task outcome → slice_get p.mutators w ≡ Some k → task ≡ task_of (fetch s.code s.turns w k)
    own_task task outcome k e is =
        let a = account_before k is in
        ready_task s w steady (few k is) task (goes_on.answers task outcome e).asked ∙ rw (a.counter, a.executed) refl

    -- the story after a step that is this
    abbrev Stands : Told → Type 0
    Stands t = ((story_by s story (stepped_by w t)).now ≡ story_told p story.flip w t) × ((story_by s story (stepped_by w t)).flip ≡ at_flip p story.flip t)

    answers_stand : (task : Task) (outcome : Did) (k : Mutator) → slice_get p.mutators w ≡ Some k → k.end ≡ None → task ≡ task_of (fetch s.code s.turns w k) → MayCome w p.heap k task outcome
        → Stands (Answers task outcome)
    answers_stand task outcome k is none own may =
        let may' : MayCome w p.heap k (task_of (fetch s.code s.turns w k)) outcome = rw own at may in
        let c = comes s.code s.turns p w k (has_code k is) is none outcome may' in
        rw (own, answer_story s story w (task_of (fetch s.code s.turns w k)) outcome) (c ∙ rw is refl, refl)

    pub story_stands : (u : Told) → t ≡ u → IsAnswered p w u → Stands u
    story_stands Silent e answered = (refl, refl)
    story_stands Empties e answered = (emptied_is story.flip p, refl)
    story_stands (Marks asked) e answered = (refl, refl)
    story_stands (Answers task outcome) e answered =
        answers_stand task outcome answered.mutator answered.is answered.no_end (own_task task outcome answered.mutator e answered.is) answered.may

    -- the plain state that the core represents after it
    abbrev then : Told → Plain
    then u = after_told (empty_cells (read after)) p w u

    abbrev Met : Told → Type 0
    Met u = ((story_met s story (record { told = stepped_by w u; after = after })).now ≡ then u) × ((story_met s story (record { told = stepped_by w u; after = after })).flip ≡ at_flip p story.flip u)

    met : (u : Told) → t ≡ u → IsAnswered p w u → Met u
    met (Answers task Done) e answered = story_stands (Answers task Done) e answered
    met (Answers task (Trap why)) e answered = story_stands (Answers task (Trap why)) e answered
    met _ e answered = (refl, refl)

    -- ---- what is told

    same_epoch : epoch_of r.heap.pages r.heap.words ≡ epoch_of_heap s.heap
    same_epoch = λ i. epoch_of (r.pages i) (r.words i)

    was_traced : IsTraced s.heap → IsTraced r.heap
    was_traced is = subst (λ (z : ℕ × List ℕ). IsTracedIn z.0 z.1) (λ i. (sym r.pages i, sym r.words i)) is

    traced_so : IsTraced r.heap → IsTraced s.heap
    traced_so is = subst (λ (z : ℕ × List ℕ). IsTracedIn z.0 z.1) (λ i. (r.pages i, r.words i)) is

    keeps_epoch : EpochStays r.heap.pages r.heap.words (words_after q r.heap.words) → KeepsEpoch s.heap after
    keeps_epoch stays = record { epoch = stays.epoch ∙ same_epoch; traced = (λ is. traced_so (stays.traced.0 is), λ is. stays.traced.1 (was_traced is)) }

    module _ (task : Task) (outcome : Did) (e : t ≡ Answers task outcome) (answered : ComesTo p w task outcome) where
      abbrev k : Mutator
      k = answered.mutator

      own : task ≡ task_of (fetch s.code s.turns w k)
      own = own_task task outcome k e answered.is

      may : MayCome w p.heap k (task_of (fetch s.code s.turns w k)) outcome
      may = rw own at answered.may

      was : end_of p w ≡ Some None
      was = was_running s.code s.turns p w k (has_code k answered.is) answered.is answered.no_end

    full_asks : (k : Mutator) → slice_get p.mutators w ≡ Some k → k.end ≡ None → (why : End) → MayCome w p.heap k (task_of (fetch s.code s.turns w k)) (Trap why)
        → (asked room live : ℕ) → why ≡ ends.HeapFull asked room live → asked_by s.code s.turns p w ≡ Some asked
    full_asks k is none why may asked room live f =
        asks_then s.code s.turns p w k (has_code k is) is none asked room live (subst (λ (e : End). MayCome w p.heap k (task_of (fetch s.code s.turns w k)) (Trap e)) f may)

    told_by : (u : Told) → t ≡ u → IsAnswered p w u → FullWhereTold r.heap.pages r.heap.words y u → FlipsWhereTold r.heap.pages r.heap.words (words_after q r.heap.words) y u
        → IsTold s w story after (stepped_by w u)
    told_by Silent e answered full stays = keeps_epoch stays
    told_by Empties e answered full traced = record {
      epoch = traced.epoch ∙ same_epoch;
      before = λ is. traced.before (was_traced is);
      traced = traced.traced;
    }
    told_by (Marks asked) e answered full flips = (flips.asked_is, flips.next ∙ ap (λ n. n + 1) (sym flips.epoch ∙ same_epoch), flips.untraced)
    told_by (Answers task Done) e answered full flips =
        let k = answered.mutator in
        (refl, was task Done e answered, end_then s.code s.turns p w k (has_code k answered.is) answered.is answered.no_end Done (may task Done e answered), keeps_epoch flips)
    told_by (Answers task (Trap why)) e answered full flips =
        let k = answered.mutator in
        let comes_to = may task (Trap why) e answered in (
          refl,
          was task (Trap why) e answered,
          ap (λ (z : Story). end_of z.now w) (answer_story s story w task (Trap why))
              ∙ end_then s.code s.turns p w k (has_code k answered.is) answered.is answered.no_end (Trap why) comes_to,
          for_want s p w why
              (full_asks k answered.is answered.no_end why comes_to)
              (rw (r.pages, r.words) at full),
          keeps_epoch flips,
        )

    -- ---- what is kept

    abbrev later : CoreState
    later = record s { heap = after }

    other_task : (m : ℕ) → m < s.heap.mutators → m ≢ w → IsOnTask later m
    other_task m l d =
        let same : held_at after m ≡ held_at s.heap m = ap (λ (h : Heap). held_at h m) (r.moves y q) ∙ get_or-set_other s.heap.workers w m (turned y (reply_of q s.heap.words)) nobody d in
        let was = steady.on_task m l in
        record { counted = rw same was.counted; within = rw same was.within; task = rw same was.task }

    here : held_at after w ≡ turned y (reply_of q r.heap.words)
    here = get_or-set_same r.heap.workers w (turned y (reply_of q r.heap.words)) nobody r.below

    account_after : (u : Told) → t ≡ u → (k : Mutator) → slice_get (then u).mutators w ≡ Some k → Accounts (then u).heap w (held_at after w).account k
    account_after u e k is = ((so after (then u) (at_flip p story.flip u) (subst (λ (v : Told). WorkersStand after (then v) (at_flip p story.flip v)) e keeps.stands)).mutators w k is).account

    -- where nothing is answered it is that of the same mutator, also where cells are emptied
    account_still : (u : Told) → t ≡ u → IsNoAnswer u → (k : Mutator) → slice_get p.mutators w ≡ Some k → Accounts p.heap w (held_at after w).account k
    account_still Silent e none k is = account_after Silent e k is
    account_still (Marks asked) e none k is = account_after (Marks asked) e k is
    account_still Empties e none k is =
        let a = account_after Empties e k is in
        record { counter = a.counter; printed = a.printed; executed = a.executed; end = a.end; serial = a.serial ∙ same_serial p (empty_cells (read after)) w }
    account_still (Answers task outcome) e none k is = absurd none

    still_task : w < s.heap.mutators → (u : Told) → t ≡ u → IsNoAnswer u → IsOnTask later w
    still_task l u e none =
        let length_is = is_so.as_many in
        let c = r.mutators in
        let k : Mutator = get_or p.mutators w fresh in
        let is : slice_get p.mutators w ≡ Some k = slice_get-get_or p.mutators w fresh (omega (arith, l, length_is, c)) in
        let b = account_before k is in
        let a = account_still u e none k is in
        let was = steady.on_task w l in
        record {
          counted = omega (arith, a.serial, a.executed, b.serial, b.executed, was.counted);
          within = omega (arith, a.executed, b.executed, was.within);
          task = λ task its.
              ready_task s w steady l task (sym (goes_on.kept (subst IsNoAnswer (sym e) none)) ∙ sym (ap (λ (h : Held). h.task) here) ∙ its)
              ∙ same_task s.code s.turns w (held_at s.heap w) (held_at after w) (b.counter ∙ sym a.counter) (b.executed ∙ sym a.executed);
        }

    -- and where something is
    answered_task : w < s.heap.mutators → (task : Task) (outcome : Did) → t ≡ Answers task outcome → ComesTo p w task outcome → IsOnTask later w
    answered_task l task outcome e answered =
        let k = answered.mutator in
        let own_is = own task outcome e answered in
        let b = account_before k answered.is in
        let was = steady.on_task w l in
        let made = is_so.sound.represents.dump.as_many.1 in
        let length_is = r.mutators in
        let c = counted_then s.code s.turns p w k (has_code k answered.is) answered.is answered.no_end outcome (may task outcome e answered) (omega (arith, l, made, length_is)) (omega (arith, was.counted, b.serial, b.executed)) (omega (arith, was.within, b.executed)) in
        let same : then (Answers task outcome) ≡ after_outcome p w k (task_of (fetch s.code s.turns w k)) outcome = rw (answered.is, own_is) refl in
        let a : Accounts (after_outcome p w k (task_of (fetch s.code s.turns w k)) outcome).heap w (held_at after w).account c.mutator =
        subst (λ (u : Plain). slice_get u.mutators w ≡ Some c.mutator → Accounts u.heap w (held_at after w).account c.mutator) same (account_after (Answers task outcome) e c.mutator) c.found in
        record {
          counted = omega (arith, a.serial, a.executed, c.counted);
          within = omega (arith, a.executed, c.bounded);
          task = λ other f. none≢some (sym ((goes_on.answers task outcome e).rests) ∙ sym (ap (λ (h : Held). h.task) here) ∙ f);
        }

    own_on : w < s.heap.mutators → (u : Told) → t ≡ u → IsAnswered p w u → IsOnTask later w
    own_on l Silent e answered = still_task l Silent e tt
    own_on l Empties e answered = still_task l Empties e tt
    own_on l (Marks asked) e answered = still_task l (Marks asked) e tt
    own_on l (Answers task outcome) e answered = answered_task l task outcome e answered

    below : w < length s.heap.workers
    below = let n = length-set s.heap.workers w y in let a = ap (λ (h : Heap). length h.workers) r.is in let b = r.below in omega (arith, n, a, b)

    ready_last : ScannersAreLast r.heap
    ready_last = subst ScannersAreLast (sym r.is) (scanners_last_with s.heap w y below (ready_stage s w) steady.last)

    ready_next : HaveNextSizes r.heap
    ready_next = subst HaveNextSizes (sym r.is) (next_sizes_with s.heap y w below (ready_found s.heap.pages s.heap.words s w (steady.found w below)) steady.found)

    later_steady : IsSteady later
    later_steady = record {
      valid = steady.valid;
      sections = steady.sections ∙ sym r.mutators;
      turns_fit = steady.turns_fit;
      on_task = λ m l. let c = r.mutators in ⊎_elim
          (λ (e : m ≡ w). rw e (own_on (omega (arith, l, e, c)) t refl keeps.answered))
          (λ (d : m ≢ w). other_task m (omega (arith, l, c)) d)
          (cases_eq m w);
      last = scanners_stay_last r.heap p story.flip w y q r.stands r.below r.holds asked ready_last;
      found = next_sizes_stay r.heap p story.flip w y q r.stands r.below r.holds asked ready_next;
      whole = length-words_after q r.heap.words ∙ subst (λ (h : Heap). length h.words ≡ whole_length (layout_of h)) (sym r.is) steady.whole;
    }

    pub step_keeps : KeepsPlain s w story
    step_keeps =
        let stood = met t refl keeps.answered in
        record {
          steady = rw event_is later_steady;
          stands = rw (event_is, stood.0, stood.1) keeps.stands;
          told = rw event_is (told_by t refl keeps.answered keeps.full keeps.flips);
        }

    -- in a story it stands for the story then
    pub step_story : StoriesKeep → StoryStands s.heap story.now story.flip → StoryStands (event_of s w).after (story_by s story (event_of s w).told).now (story_by s story (event_of s w).told).flip
    step_story stories stands =
        let stood = story_stands t refl keeps.answered in
        rw (event_is, stood.0, stood.1) (stories r.heap story.now story.flip w y q (ready_story s w story.now story.flip r stands) r.below r.holds asked)

-- ---- any plain state that is represented

-- a plain state has kept what it has kept
pub kept_itself : (checkpoints : Bool) (p : Plain) → HasKept checkpoints p p
kept_itself true p = record { snaps = refl; snapped = refl }
kept_itself false p = tt

-- a lawful core stands for each that has kept the same checkpoint
pub represented_lawful : (s : CoreState) (p : Plain) (l : IsLawful s) → StandsFor s l p → WorkersStand s.heap p l.flip
represented_lawful s p l for_it = represented_workers s.heap l.plain p l.flip l.stands for_it.represents for_it.kept

-- ---- any event

module _ (law : StepsKeep) (readies : ReadyingStands) (tasks : TasksMayBegin) (goes : WorkersGoOn) (wants : WorkersWant) (so : WhatStandsIsSo) where
  by_want : (s : CoreState) (w : ℕ) (story : Story) (steady : IsSteady s) (stands : WorkersStand s.heap story.now story.flip) (r : ReadyToStep s w story.now story.flip)
      → (o : Option Step) → wanted (ready s w) ≡ o → KeepsPlain s w story
  by_want s w story steady stands r None e =
      let gone = (wants r.heap.pages r.heap.mutators w (ready s w) (fits law goes wants so s w story steady r)).0 e in
      idle_keeps s w story steady stands e (gone_ended law goes wants so s w story steady r gone) (gone_last law goes wants so s w story steady r gone)
  by_want s w story steady stands r (Some q) e = step_keeps law goes wants so s w story steady r q e

  -- there is no such worker
  missing : (s : CoreState) (w : ℕ) → length s.heap.workers ≤ w → wanted (ready s w) ≡ None
  missing s w past = rw (get_or_past s.heap.workers w nobody past) refl

  not_there : (s : CoreState) (w : ℕ) (p o : Plain) → WorkersStand s.heap p o → length s.heap.workers ≤ w → end_of p w ≢ Some None
  not_there s w p o stands past is =
      let all = so s.heap p o stands in
      let none : slice_get p.mutators w ≡ None = slice_get_past p.mutators w (let a = all.as_many in let b = all.enough in omega (arith, a, b, past)) in
      let e : end_of p w ≡ None = rw none refl in
      absurd (cc)

  pub events_stand : EventsStand
  events_stand s w story steady stands = ⊎_elim
      (λ (below : w < length s.heap.workers). by_want s w story steady stands (readied_stands readies tasks s w story.now story.flip steady stands below) (wanted (ready s w)) refl)
      (λ (past : length s.heap.workers ≤ w). idle_keeps s w story steady stands (missing s w past) (not_there s w story.now story.flip stands past)
      (λ scanner m l. absurd (let there = scanner.1 in omega (arith, there, past))))
      (cases_lt w (length s.heap.workers))

  -- ---- of each plain state that is represented

  pub events_meet : EventsMeet
  events_meet s w p lawful for_it =
      let story : Story = story_in s lawful p in
      let k = events_stand s w story lawful.steady (represented_lawful s p lawful for_it) in
      let later : Story = story_met s story (event_of s w) in
      let is_so = so (event_of s w).after later.now later.flip k.stands in
      record {
        lawful = record { steady = k.steady; plain = later.now; flip = later.flip; stands = k.stands };
        flip = refl;
        after = record { represents = is_so.sound.represents; kept = kept_itself (event_of s w).after.checkpoints later.now };
        told = k.told;
      }

  -- ---- of a story

  module _ (stories : StoriesKeep) where
    story_by_want : (s : CoreState) (w : ℕ) (story : Story) (steady : IsSteady s) → StoryStands s.heap story.now story.flip → (o : Option Step) → wanted (ready s w) ≡ o
        → StoryStands (event_of s w).after (story_by s story (event_of s w).told).now (story_by s story (event_of s w).told).flip
    story_by_want s w story steady stands None none = let e = idle_event s w none in rw e stands
    story_by_want s w story steady stands (Some q) asked = ⊎_elim
        (λ (below : w < length s.heap.workers).
        step_story law goes wants so s w story steady (readied_stands readies tasks s w story.now story.flip steady stands.stands below) q asked stories stands)
        (λ (past : length s.heap.workers ≤ w). none≢some (sym (missing s w past) ∙ asked))
        (cases_lt w (length s.heap.workers))

    pub events_keep : EventsKeep
    events_keep s w story steady stands =
        let k = events_stand s w story steady stands.stands in
        record { steady = k.steady; stands = story_by_want s w story steady stands (wanted (ready s w)) refl; told = k.told }

pub missing_workers_are_idle : MissingWorkersAreIdle
unfolding event_of
missing_workers_are_idle s w past =
    let none : wanted (ready s w) ≡ None = rw (get_or_past s.heap.workers w nobody past) refl in
    (rw none refl, rw none refl)
