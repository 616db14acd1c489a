-- A step keeps the rule.
use Rattle.std.proofs.Common.{◌≡◌, ◌≢◌, ℕ, ◌<◌, ◌≤◌, ◌⊎◌, inl, inr, ⊎_elim, Option, Some, None, List, [], ◌∷◌, ◌++◌, length, slice_get, slice_set, set, refl, sym, ◌∙◌, ap, subst, length-set, arith, get_or-set_other, get_or-set_same}
use Rattle.std.proofs.lemmas.Bool.{cases_eq}
use mathlib.Core.Option.{some}
use mathlib.Core.List.{IsPrefix}
use lib.ListN.{get_elem?}
use Rattle.atomic_table.specs.Table as table
use Rattle.atom_store.specs.declared.reply.Reply.{Reply}
use Rattle.atom_store.specs.declared.step.Step.{Step}
use Rattle.atom_store.specs.Step.{words_after, reply_of}
use Rattle.plain_state.specs.declared.end.End.{End}
use Rattle.plain_state.specs.State.{Mutator, Plain}
use Rattle.plain_heap.specs.Emptied.{cells_to_empty}
use Rattle.gc_worker.specs.declared.stage.Stage.TheVariants.{Gone}
use Rattle.gc_worker.specs.declared.task.Task.{Task}
use Rattle.gc_worker.specs.Plain.Answer.{ComesTo, IsAnswered}
use Rattle.gc_worker.specs.Plain.Stories.{story_told}
use Rattle.gc_worker.specs.Laws.Between.{Begins, AreAlike, KeepsToTask, IsAsPlain, IsSo, RegistersLand, Readies, ShowsRegisters, with_task}
use Rattle.gc_worker.specs.Laws.Cycles.{IsInCall}
use Rattle.gc_worker.specs.Workers.Counted.{CountsApart, counted, count_after}
use Rattle.gc_worker.specs.Workers.Fits.{Fits}
use Rattle.gc_worker.specs.Plain.Full.{FullWhereTold}
use Rattle.gc_worker.specs.Workers.Held.{Held}
use Rattle.gc_worker.specs.Laws.Gone.{ScannersAreLast}
use Rattle.gc_worker.specs.Laws.Step.{FlipsWhereTold, Heap, StepKeeps, WorkersStand, at_flip, held_at, nobody}
use Rattle.gc_worker.specs.Laws.Stories.{StoryStands}
use Rattle.gc_worker.specs.Steps.Stepped.{IsBeginningCheckpoint, uncounted}
use Rattle.gc_worker.specs.declared.calls.did.Did.TheVariants.{Done, Trap}
use Rattle.gc_worker.specs.Steps.Turned.{Told, Silent, Empties, Answers, Marks, told, turned, won}
use Rattle.gc_worker.specs.Steps.Wanted.{wanted}
use Rattle.gc_worker.proofs.Between.KeptTasks.{workers_go_on}
use Rattle.gc_worker.proofs.Between.Last.{scanners_last_with, scanners_stay_last}
use Rattle.gc_worker.proofs.Between.Readying.{readying_stands}
use Rattle.gc_worker.proofs.Between.StandingHeaps.{what_stands_is_so}
use Rattle.gc_worker.proofs.Workers.ApartFromCount.{counted_fit, counts_are_apart}
use Rattle.gc_worker.proofs.Plain.CellTargets.LostCells.{lost_cells_are_empty}
use Rattle.gc_worker.proofs.StepKeeps.{steps_keep}
use Rattle.gc_worker.proofs.StoriesKeep.{stories_keep}
use Rattle.gc_worker.specs.declared.calls.call.Call.{Call}
use Rattle.ael_threads.specs.declared.view.WonClaim.{WonClaim}
use Rattle.gc_worker.specs.declared.calls.entry.Entry.{Entry}
use Rattle.gc_worker.specs.declared.calls.entry.Entry.TheVariants.{Made, Exchanged, Emptied}
use Rattle.ael_threads.specs.declared.view.Hand.{Hand}
use Rattle.ael_threads.specs.declared.view.Plan.{Plan}
use Rattle.ael_threads.specs.declared.view.View.{View}
use Rattle.gc_worker.specs.History.Tally.{IsTallied}
use Rattle.ael_threads.specs.Histories.{opening_tally, HasOwnCalls, first_plain, hand}
use Rattle.gc_worker.specs.History.Legal.{IsLegal, after_all, worker_call, calls_of, extra, last_flip, own_after}
use Rattle.ael_threads.specs.Rule.{FitsView, HasHand, RuleHolds, crew, heap_of, view}
use Rattle.ael_threads.specs.Seats.{BeginsBySnap, Follows, IsPresent, IsRunning, IsShown, Moves, Sees, ShowsSeen, StandWith, plain_after_seen, seen_after, with_claim, LiveByEnd, LiveWhereTold}
use Rattle.ael_threads.specs.Began.{BegunWithin, FlippedIfFull, HasLooked, begun_held}
use Rattle.ael_threads.proofs.WholeCalls.Began.{given_none}
use Rattle.ael_threads.proofs.BegunLooks.{begun_later, flipped_aside, flipped_more, looked}
use Rattle.ael_threads.proofs.Lists.Reads.{at_inside, at_set, get_of, set_else, set_here}
use Rattle.ael_threads.proofs.Lists.Elements.{each_map, prefix_more, prefix_self}
use Rattle.gc_worker.proofs.History.Counted.TalliedSteps.{step_tallied}
use Rattle.ael_threads.proofs.TableRule.Flips.{flips_by}
use Rattle.gc_worker.proofs.History.Extensions.{Agrees, after_more, calls_more, calls_other, flip_more, legal_more, seen_keeps}
use Rattle.ael_threads.proofs.WorkerSeats.Shown.{alike_by, begins_by, ends_with, full_by, lands_by, live_by, mutator_at, present_aside, rests_present, rests_run, shown_by}
use Rattle.gc_worker.proofs.History.Counted.Tallies.{tally_flip, tally_now}
use Rattle.gc_worker.proofs.History.Counted.TalliedTasks.{task_tallied}
use Rattle.ael_threads.proofs.TableRule.Views.{all_fit, my_fit}
use Rattle.ael_threads.proofs.TableRule.WonPages.{LeavesPagesOut, won_after}

abbrev pub TableState : Type 0
TableState = table.State ℕ View

-- what a step must come to
abbrev pub Came : Plan → ℕ → View → ℕ → Held → Reply → TableState → List ℕ → Type 0
Came plan id v m x r s later = (w : View) × RuleHolds plan (record { words = later; homes = s.homes; views = slice_set s.views id w }) × Moves v m x r w

-- ---- what is seen after it

seen_fits : (o : Plain) (seen log : List Entry) (m : ℕ) (t : Told) → IsPrefix seen log → IsPrefix (seen_after seen (log ++ extra o m t) t) (log ++ extra o m t)
seen_fits o seen log m Silent h = prefix_more seen log [] h
seen_fits o seen log m Empties h = prefix_more seen log (Emptied (cells_to_empty o) ∷ []) h
seen_fits o seen log m (Answers task outcome) h = prefix_self (log ++ Made (worker_call m task outcome) ∷ [])
seen_fits o seen log m (Marks asked) h = prefix_more seen log (Exchanged m asked ∷ []) h

sees : (o : Plain) (v w : View) (log : List Entry) (m : ℕ) (t : Told) → IsPrefix v.seen log → w.seen ≡ seen_after v.seen (log ++ extra o m t) t
    → IsLegal (first_plain v.plan) (log ++ extra o m t) → HasOwnCalls (log ++ extra o m t) w.hands → Sees v m t w
sees o v w log m (Answers task outcome) pre is legal own = record {
  between = pre.0;
  is = is ∙ ap (λ (z : List Entry). z ++ Made (worker_call m task outcome) ∷ []) (sym pre.1);
  own = subst (λ (z : List Entry). HasOwnCalls z w.hands) (sym is) own;
  legal = subst (IsLegal (first_plain v.plan)) (sym is) legal;
}
sees o v w log m _ pre is legal own = is

-- where the seat's worker had all its calls in what was seen, it has them in what is seen now
mine_after : (o : Plain) (seen log : List Entry) (m : ℕ) (own : List Call) (t : Told) → calls_of m seen ≡ own → calls_of m (log ++ extra o m t) ≡ own_after m own t → calls_of m (seen_after seen (log ++ extra o m t) t) ≡ own_after m own t
mine_after o seen log m own (Answers task outcome) was is = is
mine_after o seen log m own _ was is = was

-- an answer is no flip
live_seen : (p o : Plain) (seen log : List Entry) (m : ℕ) (t : Told) → LiveWhereTold (last_flip p log) t → LiveWhereTold (last_flip p (seen_after seen (log ++ extra o m t) t)) t
live_seen p o seen log m (Answers task (Trap end)) h = subst (λ (flip : Plain). LiveByEnd flip end) (sym (flip_more p p o log m (Answers task (Trap end)))) h
live_seen p o seen log m _ h = tt

-- whatever it has counted, it was given a task or not
pub begins_counted : (count : ℕ) (was now : Held) → Begins was now → Begins (counted count was) (counted count now)
begins_counted count was now (inl same) = inl (ap (counted count) same)
begins_counted count was now (inr given) = inr (given.0, given.1, ap (counted count) given.2)

-- ---- the step of the seat's own worker, which held was.worker after its last step, and whose code holds x now

module _ (plan : Plan) (id : ℕ) (was : Hand) (x : Held) (others : List Hand) (seen heard : List Entry) (claims : List WonClaim) (q : Step) (s : TableState) (b : RuleHolds plan s)
    (at : get_elem? s.views id ≡ some (view plan (was ∷ others) seen heard claims)) (follows : Follows plan was.number was.worker x) (is_mine : calls_of was.number seen ≡ was.own) (showed : ShowsSeen x (view plan (was ∷ others) seen heard claims))
    (want : wanted x ≡ Some q) where
  abbrev v : View
  v = view plan (was ∷ others) seen heard claims

  abbrev n : ℕ
  n = plan.spaces.pages

  abbrev m : ℕ
  m = was.number

  abbrev r : Reply
  r = reply_of q s.words

  abbrev later : List ℕ
  later = words_after q s.words

  abbrev t : Told
  t = told x r

  abbrev z : Held
  z = turned x r

  abbrev p : Plain
  p = after_all (first_plain plan) b.log

  abbrev o : Plain
  o = last_flip (first_plain plan) b.log

  abbrev log' : List Entry
  log' = b.log ++ extra o m t

  abbrev p' : Plain
  p' = after_all (first_plain plan) log'

  abbrev fits_view : FitsView plan s.words b.workers b.log b.owner b.winner id v
  fits_view = b.seats id v at

  abbrev has : HasHand b.workers b.log b.owner id was
  has = fits_view.hands.0

  -- as it stands in the list, and then as its code has it, with its count
  abbrev old : Held
  old = has.state.held

  abbrev count : ℕ
  count = old.account.executed

  abbrev y : Held
  y = counted count x

  inside : m < length b.workers
  inside = at_inside b.workers m old has.state.is

  abbrev workers1 : List Held
  workers1 = set b.workers m y

  inside1 : m < length workers1
  inside1 = let l = length-set b.workers m y in let i = inside in omega (arith, l, i)

  old_is : held_at (heap_of plan s.words b.workers) m ≡ counted count was.worker
  old_is = get_of b.workers m old nobody has.state.is ∙ ap (counted count) has.state.shown

  readied : WorkersStand (heap_of plan s.words workers1) p o
  readied = readying_stands (heap_of plan s.words b.workers) p o m y b.story.stands inside (subst (λ (w : Held). Readies n plan.mutators m w y) (sym old_is) (follows.readies count))

  readied_story : StoryStands (heap_of plan s.words workers1) p o
  readied_story = record { stands = readied; cells = b.story.cells }

  apart : CountsApart count x
  apart = counts_are_apart n plan.mutators m count x follows.fits

  readied_tallied : IsTallied plan.least (heap_of plan s.words workers1) (opening_tally plan) b.log
  readied_tallied = task_tallied (heap_of plan s.words b.workers) m y inside (subst (λ (w : Held). Begins w y) (sym old_is) (begins_counted count was.worker x follows.begins)) plan.least (opening_tally plan) b.log b.tallied

  law : StepKeeps (heap_of plan s.words workers1) p o m y q
  law = steps_keep (heap_of plan s.words workers1) p o m y q readied inside1 (get_or-set_same b.workers m y nobody inside) (apart.wants ∙ want)

  tells : told y r ≡ t
  tells = apart.tells r

  -- who was given a task is at the stage that it was at
  stage_is : y.stage ≡ (held_at (heap_of plan s.words b.workers) m).stage
  stage_is = ⊎_elim (λ (same : x ≡ was.worker). ap (λ (w : Held). w.stage) same) (λ given. ap (λ (w : Held). w.stage) given.2) follows.begins ∙ sym (ap (λ (w : Held). w.stage) old_is)

  -- and began its last task when it did
  begun_is : y.begun ≡ begun_held b.workers m
  begun_is = ⊎_elim (λ (same : x ≡ was.worker). ap (λ (w : Held). w.begun) same) (λ given. ap (λ (w : Held). w.begun) given.2) follows.begins ∙ sym (ap (λ (w : Held). w.begun) old_is)

  readied_last : ScannersAreLast (heap_of plan s.words workers1)
  readied_last = scanners_last_with (heap_of plan s.words b.workers) m y inside stage_is b.last

  abbrev count' : ℕ
  count' = count_after count t

  becomes : turned y r ≡ counted count' z
  becomes = apart.turns r

  abbrev workers2 : List Held
  workers2 = set workers1 m (turned y r)

  abbrev heap' : Heap
  heap' = heap_of plan later workers2

  answered : IsAnswered p m t
  answered = subst (IsAnswered p m) tells law.answered

  fits_z : Fits n plan.mutators m z
  fits_z = (counted_fit n plan.mutators m count' z).0 (subst (Fits n plan.mutators m) becomes law.fits)

  story' : StoryStands heap' p' (last_flip (first_plain plan) log')
  story' = subst (λ (w : Plain × Plain). StoryStands heap' w.0 w.1)
      (λ i. ((ap (story_told p o m) tells ∙ sym (after_more (first_plain plan) o b.log m t)) i, (ap (at_flip p o) tells ∙ sym (flip_more (first_plain plan) (first_plain plan) o b.log m t)) i))
      (stories_keep (heap_of plan s.words workers1) p o m y q readied_story inside1 (get_or-set_same b.workers m y nobody inside) (apart.wants ∙ want))

  abbrev stands' : WorkersStand heap' p' (last_flip (first_plain plan) log')
  stands' = story'.stands

  tallied' : IsTallied plan.least heap' (opening_tally plan) log'
  tallied' = subst (λ (u : Plain × Told). IsTallied plan.least heap' (opening_tally plan) (b.log ++ extra u.0 m u.1)) (λ i. (tally_flip (opening_tally plan) b.log i, tells i))
      (step_tallied (heap_of plan s.words workers1) m y q inside1 (get_or-set_same b.workers m y nobody inside) (apart.wants ∙ want) plan.least (opening_tally plan) b.log readied_tallied
      (subst (λ (w : Plain × Plain). WorkersStand (heap_of plan s.words workers1) w.0 w.1) (λ i. (sym (tally_now (opening_tally plan) b.log) i, sym (tally_flip (opening_tally plan) b.log) i)) readied))

  last' : ScannersAreLast heap'
  last' = scanners_stay_last (heap_of plan s.words workers1) p o m y q readied inside1 (get_or-set_same b.workers m y nobody inside) (apart.wants ∙ want) readied_last

  -- a scanner that has just gone found all mutators gone
  saw : plan.mutators ≤ m → z.stage ≡ Gone → (j : ℕ) → j < plan.mutators → (held_at (heap_of plan s.words workers1) j).stage ≡ Gone
  saw scanner gone j mutator =
      let mine : (held_at heap' m).stage ≡ Gone = ap (λ (w : Held). w.stage) (get_or-set_same workers1 m (turned y r) nobody inside1 ∙ becomes) ∙ gone in
      let there = let l = length-set workers1 m (turned y r) in let i = inside1 in let below : m < length workers2 = omega (arith, l, i) in below in
      sym (ap (λ (w : Held). w.stage) (get_or-set_other workers1 m j (turned y r) nobody (λ e. omega (arith, e, scanner, mutator)))) ∙ last' m j there scanner mine mutator

  so' : IsSo heap' p'
  so' = what_stands_is_so heap' p' (last_flip (first_plain plan) log') stands'

  as_plain : (w : Mutator) → slice_get p'.mutators m ≡ Some w → IsAsPlain heap' p' m (counted count' z) w
  as_plain w its = subst (λ (h : Held). IsAsPlain heap' p' m h w) (get_or-set_same workers1 m (turned y r) nobody inside1 ∙ becomes) (so'.mutators m w its)

  goes : KeepsToTask x r
  goes = workers_go_on n plan.mutators m x r follows.fits

  -- who answers by an effect has no end, and is present; it runs, if it has not begun a checkpoint by `snap`
  goes_present : (task : Task) → t ≡ Answers task Done → IsPresent z
  goes_present task is = rests_present n plan.mutators m x.stage z fits_z (goes.answers task Done is).after

  goes_running : (task : Task) → t ≡ Answers task Done → BeginsBySnap x.stage task ⊎ IsRunning z
  goes_running task is =
      let answer = goes.answers task Done is in
      ⊎_elim (λ (begins : IsBeginningCheckpoint x.stage). inl (begins, begins_by x task x.stage follows.fits.task begins answer.asked)) (λ (runs : IsRunning z). inr runs)
      (rests_run n plan.mutators m x.stage z fits_z answer.after)

  -- the plain mutator of who is present
  its_mutator : IsPresent z → (w : Mutator) × (slice_get p'.mutators m ≡ Some w)
  its_mutator present =
      let many = so'.as_many in
      let below = present_aside n plan.mutators m z fits_z present.1 in
      mutator_at p'.mutators m (omega (arith, many, below))

  lands : IsPresent z → RegistersLand n later z
  lands present = let w = its_mutator present in lands_by heap' p' m count' z w.0 (as_plain w.0 w.1) present

  alike : IsPresent z → (w : Mutator) → slice_get p'.mutators m ≡ Some w → AreAlike z.registers w
  alike present w its = alike_by heap' p' m count' z w (as_plain w its) present

  -- ---- its registers, also once it has its end

  -- what was shown before is shown of the whole history
  agreed : Agrees m (plain_after_seen v) p
  agreed = seen_keeps (first_plain plan) seen b.log m was.own fits_view.seen is_mine has.calls

  showed_at : (w : Mutator) → slice_get p.mutators m ≡ Some w → IsShown (plain_after_seen v).heap m x w
  showed_at w its = showed w (sym agreed.mutator ∙ its)

  -- who had its end keeps its registers
  stays_ended : (w : Mutator) (end : End) → slice_get p.mutators m ≡ Some w → w.end ≡ Some end → ShowsRegisters z.registers w
  stays_ended w end its e = let s = showed_at w its in subst (λ (registers : List ℕ). ShowsRegisters registers w) (sym (goes.ended end (s.end ∙ e)).1) s.registers

  shows_ended : (w : Mutator) (end : End) (u : Told) → t ≡ u → slice_get (story_told p o m u).mutators m ≡ Some w → slice_get p'.mutators m ≡ Some w → w.end ≡ Some end → ShowsRegisters z.registers w
  shows_ended w end (Answers task Done) is was_its its e = let a = as_plain w its in a.shows (sym a.account.end ∙ (goes_present task is).0)
  shows_ended w end (Answers task (Trap why)) is was_its its e =
      let comes : ComesTo p m task (Trap why) = subst (IsAnswered p m) is answered in
      let s = showed_at comes.mutator comes.is in
      let same = (goes.answers task (Trap why) is).after.1 in
      ends_with p m comes.mutator task why w z.registers comes.is was_its (subst (λ (registers : List ℕ). ShowsRegisters registers comes.mutator) (sym same) s.registers)
  shows_ended w end _ is was_its its e = stays_ended w end was_its e

  shows_registers : (w : Mutator) → slice_get p'.mutators m ≡ Some w → ShowsRegisters z.registers w
  shows_registers w its = by_end w.end refl
    where
      by_end : (end : Option End) → w.end ≡ end → ShowsRegisters z.registers w
      by_end None e = (as_plain w its).shows e
      by_end (Some end) e = shows_ended w end t refl (ap (λ (s : Plain). slice_get s.mutators m) (sym (after_more (first_plain plan) o b.log m t)) ∙ its) its e

  -- ---- the rule after it

  abbrev d : Hand
  d = hand m (uncounted z) (own_after m was.own t)

  abbrev seen' : List Entry
  seen' = seen_after seen log' t

  abbrev v' : View
  v' = view plan (d ∷ others) seen' log' (with_claim claims (won x r))

  has' : HasHand workers2 log' b.owner id d
  has' = record {
    owns = has.owns;
    state = record { held = turned y r; is = set_here workers1 m (turned y r) inside1; shown = ap uncounted becomes };
    calls = calls_more o b.log m t was.own has.calls;
  }

  keeps : LeavesPagesOut n s.words later (won x r)
  keeps = record { kept = law.kept; wins = law.wins }

  same : (j : ℕ) → j ≢ m → get_elem? workers2 j ≡ get_elem? b.workers j
  same j other = set_else workers1 m j (turned y r) other ∙ set_else b.workers m j y other

  fit : FitsView plan later workers2 log' b.owner (won_after b.winner id (won x r)) id v'
  fit = my_fit plan s.words later b.workers workers2 b.log t b.owner b.winner id m (won x r) keeps same plan was d others seen seen' heard claims fits_view refl refl has'
      (seen_fits o seen b.log m t fits_view.seen)

  legal' : IsLegal (first_plain plan) log'
  legal' = legal_more (first_plain plan) o b.log m t b.legal answered

  count1 : length workers1 ≡ crew plan
  count1 = length-set b.workers m y ∙ b.count

  count2 : length workers2 ≡ crew plan
  count2 = length-set workers1 m (turned y r) ∙ count1

  -- ---- who is in a call

  stage_kept : IsInCall x.stage → HasLooked plan m y b.log
  stage_kept call = ⊎_elim as_it_was given follows.begins
    where
      as_it_was : x ≡ was.worker → HasLooked plan m y b.log
      as_it_was same =
          let its : x ≡ uncounted old = same ∙ sym has.state.shown in
          let l = b.begun m old has.state.is (subst IsInCall (ap (λ (w : Held). w.stage) its) call) in record {
            task = l.task;
            task_is = ap (λ (w : Held). w.task) its ∙ l.task_is;
            within = subst (λ (begun : ℕ). BegunWithin plan m l.task begun (calls_of m b.log) b.log) (sym (ap (λ (w : Held). w.begun) its)) l.within;
          }

      given : (task : Task) × (was.worker.task ≡ None) × (x ≡ with_task was.worker task) → HasLooked plan m y b.log
      given g =
          let fits_was = (counted_fit n plan.mutators m count was.worker).0 (subst (Fits n plan.mutators m) old_is (b.story.stands.fit m inside)) in
          absurd (given_none n plan.mutators m was.worker x g.0 fits_was g.1 g.2 call)

  abbrev at_y : get_elem? workers1 m ≡ some y
  at_y = set_here b.workers m y inside

  begun' : (j : ℕ) (w : Held) → get_elem? workers2 j ≡ some w → IsInCall w.stage → HasLooked plan j w log'
  begun' j w is call = ⊎_elim
      (λ (here : (j ≡ m) × (turned y r ≡ w)). subst (λ (v : ℕ × Held). HasLooked plan v.0 v.1 log') (λ i. (sym here.0 i, here.1 i))
      (subst (λ (u : Told). HasLooked plan m (turned y r) (b.log ++ extra o m u)) tells
      (looked plan m y q s.words workers1 b.log at_y (apart.wants ∙ want) b.legal readied readied_tallied stage_kept law.fits law.full (subst (λ (v : Held). IsInCall v.stage) (sym here.1) call))))
      (λ (there : (j ≢ m) × (get_elem? workers1 j ≡ some w)).
      let l = b.begun j w (sym (set_else b.workers m j y there.0) ∙ there.1) call in
      record { task = l.task; task_is = l.task_is; within = begun_later plan j l.task w.begun w.begun (calls_of j b.log) (calls_of j log') b.log log' l.within refl (sym (calls_other o j b.log m t there.0)) (extra o m t, refl) })
      (at_set workers1 m j (turned y r) w is)

  -- who found the heap full
  mine_flipped : FlippedIfFull plan m (begun_held workers2 m) log'
  mine_flipped = subst (λ (v : ℕ × Told). FlippedIfFull plan m v.0 (b.log ++ extra o m v.1)) (λ i. (ap (λ (w : Held). w.begun) (sym (get_or-set_same workers1 m (turned y r) nobody inside1)) i, tells i))
      (flipped_more plan m y q s.words workers1 b.log at_y (apart.wants ∙ want) b.legal readied readied_tallied stage_kept law.fits law.full (subst (λ (begun : ℕ). FlippedIfFull plan m begun b.log) (sym begun_is) (b.flipped m)))

  flipped' : (j : ℕ) → FlippedIfFull plan j (begun_held workers2 j) log'
  flipped' j = ⊎_elim (λ (here : j ≡ m). subst (λ (i : ℕ). FlippedIfFull plan i (begun_held workers2 i) log') (sym here) mine_flipped)
      (λ (there : j ≢ m).
      let held : begun_held b.workers j ≡ begun_held workers2 j = ap (λ (w : Held). w.begun) (sym (get_or-set_other workers1 m j (turned y r) nobody there ∙ get_or-set_other b.workers m j y nobody there)) in
      flipped_aside plan o j (begun_held workers2 j) m b.log t there (subst (λ (begun : ℕ). FlippedIfFull plan j begun b.log) held (b.flipped j)))
      (cases_eq j m)

  kept' : RuleHolds plan (record { words = later; homes = s.homes; views = slice_set s.views id v' })
  kept' = record {
    log = log';
    workers = workers2;
    count = count2;
    owner = b.owner;
    winner = won_after b.winner id (won x r);
    legal = legal';
    story = story';
    last = last';
    tallied = tallied';
    begun = begun';
    flipped = flipped';
    seats = all_fit plan s.words later b.workers workers2 b.log t b.owner b.winner id m (won x r) keeps same has.owns s.views v' b.seats fit;
  }

  -- ---- what it tells

  mine' : calls_of m seen' ≡ own_after m was.own t
  mine' = mine_after o seen b.log m was.own t is_mine has'.calls

  agrees : Agrees m (plain_after_seen v') p'
  agrees = seen_keeps (first_plain plan) seen' log' m (own_after m was.own t) fit.seen mine' has'.calls

  shows' : ShowsSeen (uncounted z) v'
  shows' w its = let h = shown_by heap' p' m count' z w (as_plain w (agrees.mutator ∙ its)) (shows_registers w (agrees.mutator ∙ its)) in record {
    counter = h.counter;
    printed = h.printed;
    end = h.end;
    serial = h.serial ∙ agrees.serial;
    registers = h.registers;
  }

  -- the words that it finds, and those that it leaves
  abbrev found : StandWith plan m x seen s.words
  found = record {
    history = record {
      log = b.log;
      workers = workers1;
      legal = b.legal;
      count = count1;
      stands = readied;
      lost = lost_cells_are_empty (heap_of plan s.words workers1) p o readied_story;
    };
    begins = fits_view.seen;
    here = record { held = y; is = set_here b.workers m y inside; shown = refl };
    tallied = readied_tallied;
  }

  abbrev stands_after : StandWith plan m z seen' later
  stands_after = record {
    history = record {
      log = log';
      workers = workers2;
      legal = legal';
      count = count2;
      stands = stands';
      lost = lost_cells_are_empty heap' p' (last_flip (first_plain plan) log') story';
    };
    begins = fit.seen;
    here = has'.state;
    tallied = tallied';
  }

  pub moves : Came plan id v m x r s later
  moves = (
    v',
    kept',
    record {
      takes = law.takes;
      fits = fits_z;
      hands = refl;
      plan = refl;
      claims = refl;
      seen = sees o v v' b.log m t fits_view.seen refl legal' (each_map (HasHand workers2 log' b.owner id) (λ (h : Hand). calls_of h.number log' ≡ h.own) (λ h k. k.calls) (d ∷ others) fit.hands);
      mine = mine';
      shows = shows';
      step = q;
      wants = want;
      finds = record { words = s.words; stands = found; heard = fits_view.heard; own = has.calls };
      reply = refl;
      after = later;
      left = refl;
      stands = stands_after;
      grows = refl;
      hears = refl;
      sees = refl;
      others = λ j other. set_else workers1 m j (turned y r) other;
      saw = saw;
      flips = flips_by n plan.mutators m count x r follows.fits s.words later t refl (subst (FlipsWhereTold n s.words later y) tells law.flips);
      full = full_by n s.words count x t (subst (FullWhereTold n s.words y) tells law.full);
      live = live_seen (first_plain plan) o seen b.log m t (subst (LiveWhereTold o) tells (live_by (heap_of plan s.words workers1) p o readied y (told y r) law.full));
      present = goes_present;
      runs = goes_running;
      lands = lands;
      alike = λ h w its. alike h w (agrees.mutator ∙ its);
    },
  )
