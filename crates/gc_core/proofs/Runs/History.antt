-- The history of a run: what is counted along it fits the core, its calls are what mutators fetch, and its order is the run's.
use Rattle.std.proofs.Common.{◌≡◌, ℕ, zero, suc, ◌+◌, ◌<◌, ◌≤◌, Bool, true, false, List, [], ◌++◌, length, Option, Some, None, slice_get, refl, sym, ap, subst, ◌∙◌, arith, ⊎_elim, append-nil, append_assoc}
use Rattle.std.specs.Prelude.{if◌then◌else◌}
use Rattle.std.specs.Option.{option_to_list}
use Rattle.std.proofs.lemmas.Bool.{cases_lt}
use Rattle.std.proofs.lemmas.List.{get_or_past, map-append}
use Rattle.std.proofs.lemmas.Option.{slice_get_within}
use Rattle.plain_state.specs.State.{Mutator, Plain}
use Rattle.plain_heap.specs.Order.{Story, opening}
use Rattle.plain_heap.specs.Step.{fetch}
use Rattle.plain_heap.proofs.States.SameMutators.{plain_count}
use Rattle.atom_store.specs.declared.step.Step.{Step}
use Rattle.atom_store.specs.Step.{reply_of}
use Rattle.gc_worker.specs.declared.calls.did.Did.TheVariants.{Done}
use Rattle.gc_worker.specs.declared.calls.entry.Entry.{Entry}
use Rattle.gc_worker.specs.Plain.Answer.{IsAnswered}
use Rattle.gc_worker.specs.Workers.Held.{Held}
use Rattle.gc_worker.specs.History.Legal.{EmptiesLost, IsLegal, after_all, extra}
use Rattle.gc_worker.specs.Laws.Between.{IsSo}
use Rattle.gc_worker.specs.History.Needs.{EachFullIs, EachMayCome, made_since, first_story}
use Rattle.gc_worker.specs.History.Order.{AreFetched, entry_mark, order_of}
use Rattle.gc_worker.specs.History.Tally.{IsTallied, Tally, first_tally, tally, tasks_held}
use Rattle.gc_worker.specs.Laws.Step.{Heap, StepKeeps, WorkersStand, held_at, moved, nobody}
use Rattle.gc_worker.specs.Laws.Stories.{StoryStands}
use Rattle.gc_worker.specs.Plain.Marks.{mark_of, task_of}
use Rattle.gc_worker.specs.Plain.Seen.{seen}
use Rattle.gc_worker.specs.Steps.Stepped.{stepped_by}
use Rattle.gc_worker.specs.Steps.Turned.{Told, Answers, told}
use Rattle.gc_worker.specs.Steps.Wanted.{wanted}
use Rattle.gc_worker.proofs.Between.Beginning.{tasks_may_begin}
use Rattle.gc_worker.proofs.Between.KeptTasks.{workers_go_on}
use Rattle.gc_worker.proofs.Between.Readying.{readying_stands}
use Rattle.gc_worker.proofs.Between.StandingHeaps.{what_stands_is_so}
use Rattle.gc_worker.proofs.Between.Wanting.{workers_want}
use Rattle.gc_worker.proofs.History.Extensions.{legal_more}
use Rattle.gc_worker.proofs.History.Needs.{IsNext, order_makes, orders_fill}
use Rattle.gc_worker.proofs.History.Orders.{fetched_append}
use Rattle.gc_worker.proofs.History.Counted.TalliedSteps.{step_tallied}
use Rattle.gc_worker.proofs.History.Counted.Tallies.{empties_lost, tally_append, tally_more-flip, tally_more-now, tally_now}
use Rattle.gc_worker.proofs.History.Counted.TalliedTasks.{task_tallied}
use Rattle.gc_worker.proofs.StepKeeps.{steps_keep}
use Rattle.gc_worker.proofs.StoriesKeep.{stories_keep}
use Rattle.gc_core.specs.Core.{CoreState}
use Rattle.gc_core.specs.Cycles.{count_from}
use Rattle.gc_core.specs.Event.{Event, core_after, event_of, readied, ready}
use Rattle.gc_core.specs.Law.{IsSteady, KeepsStory}
use Rattle.gc_core.specs.Run.{all_ended, run_from}
use Rattle.gc_core.proofs.Events.Law.{event_is, own_task, ready_story}
use Rattle.gc_core.proofs.Events.Readied.{ReadyToStep, ready_begins, readied_stands}
use Rattle.gc_core.proofs.EventLaws.{events_keep}

-- ---- what an event adds

abbrev pub first : CoreState → Tally
first s = first_tally (opening s.code)

-- where o is the plain state at the last flip
abbrev pub adds_by : CoreState → (o : Plain) → ℕ → Option Step → List Entry
adds_by s o w None = []
adds_by s o w (Some q) = extra o w (told (ready s w) (reply_of q s.heap.words))

-- the entry that the event of worker w is, if any, after this history
abbrev pub adds : CoreState → List Entry → ℕ → List Entry
adds s log w = adds_by s (tally (first s) log).flip w (wanted (ready s w))

order_more : (o : Plain) (w : ℕ) (t : Told) → order_of (extra o w t) ≡ option_to_list (mark_of (stepped_by w t))
order_more o w (Answers _ Done) = refl
order_more o w _ = refl

-- its mark is what is told of the event
pub order_adds : (s : CoreState) (log : List Entry) (w : ℕ) → order_of (adds s log w) ≡ option_to_list (mark_of (event_of s w).told)
unfolding event_of
order_adds s log w = by_want (wanted (ready s w)) refl
  where
    o : Plain
    o = (tally (first s) log).flip

    by_want : (step : Option Step) → wanted (ready s w) ≡ step → order_of (adds_by s o w (wanted (ready s w))) ≡ option_to_list (mark_of (event_of s w).told)
    by_want None is = rw is refl
    by_want (Some q) is = rw is (order_more o w (told (ready s w) (reply_of q s.heap.words)))

-- what the events of a run add to this history
unfoldable pub log_from : (ℕ → ℕ) → ℕ → ℕ → CoreState → List Entry → List Entry
log_from schedule at zero s log = []
log_from schedule at (suc n) s log =
    if all_ended s then [] else adds s log (schedule at) ++ log_from schedule (at + 1) n (core_after s (schedule at)) (log ++ adds s log (schedule at))

order_by : (schedule : ℕ → ℕ) (at n : ℕ) (s : CoreState) (log : List Entry) (b : Bool) → all_ended s ≡ b
    → order_of (log_from schedule (at + 1) n (core_after s (schedule at)) (log ++ adds s log (schedule at))) ≡ (run_from schedule (at + 1) n (core_after s (schedule at))).order
    → order_of (log_from schedule at (suc n) s log) ≡ (run_from schedule at (suc n) s).order
unfolding log_from run_from
order_by schedule at n s log true is rest = rw is refl
order_by schedule at n s log false is rest =
    rw is
    (map-append entry_mark (adds s log (schedule at)) (log_from schedule (at + 1) n (core_after s (schedule at)) (log ++ adds s log (schedule at)))
    ∙ (λ i. order_adds s log (schedule at) i ++ rest i))

-- its order is that of the run
pub log_order : (schedule : ℕ → ℕ) (at n : ℕ) (s : CoreState) (log : List Entry) → order_of (log_from schedule at n s log) ≡ (run_from schedule at n s).order
unfolding log_from run_from
log_order schedule at zero s log = refl
log_order schedule at (suc n) s log =
    order_by schedule at n s log (all_ended s) refl (log_order schedule (at + 1) n (core_after s (schedule at)) (log ++ adds s log (schedule at)))

-- ---- a core and its history

-- The core stands for what a history leads to, from the opening on, at which so many pages were in use; what is counted along it fits the
-- core, and its calls are what mutators fetch.
pub record HasHistory (least : ℕ) (s : CoreState) (log : List Entry) : Type 0 where
  pub steady : IsSteady s
  pub stands : StoryStands s.heap (tally (first s) log).now (tally (first s) log).flip
  pub tallied : IsTallied least s.heap (first s) log
  pub legal : IsLegal (opening s.code) log
  pub fetched : (m : ℕ) → AreFetched s.code s.turns m (opening s.code) log

module _ (least : ℕ) (s : CoreState) (w : ℕ) (log : List Entry) (h : HasHistory least s log) where
  abbrev t : Tally
  t = tally (first s) log

  abbrev now : Story
  now = record { flip = t.flip; now = t.now }

  kept : KeepsStory s w now
  kept = events_keep s w now h.steady h.stands

  idle_history : wanted (ready s w) ≡ None → HasHistory least (core_after s w) (log ++ adds s log w)
  unfolding event_of
  idle_history none = rw (none, append-nil log) h

  module _ (below : w < length s.heap.workers) (q : Step) (asked : wanted (ready s w) ≡ Some q) where
    pub its_ready : ReadyToStep s w t.now t.flip
    its_ready = readied_stands readying_stands tasks_may_begin s w t.now t.flip h.steady h.stands.stands below

    abbrev r : ReadyToStep s w t.now t.flip
    r = its_ready

    abbrev y : Held
    y = ready s w

    abbrev u : Told
    u = told y (reply_of q r.heap.words)

    abbrev after : Heap
    after = moved r.heap w y q

    abbrev grown : List Entry
    grown = log ++ extra t.flip w u

    pub given : IsTallied least r.heap (first s) log
    given = subst (λ (z : Heap). IsTallied least z (first s) log) (sym r.is) (task_tallied s.heap w y below (ready_begins s w) least (first s) log h.tallied)

    pub law : StepKeeps r.heap t.now t.flip w y q
    law = steps_keep r.heap t.now t.flip w y q r.stands r.below r.holds asked

    same : tally (first s) grown ≡ tally t (extra t.flip w u)
    same = tally_append (first s) log (extra t.flip w u)

    event : event_of s w ≡ record { told = stepped_by w u; after = after }
    event = event_is steps_keep workers_go_on workers_want what_stands_is_so s w now h.steady r q asked

    stands : StoryStands after (tally (first s) grown).now (tally (first s) grown).flip
    stands = subst (λ (z : Tally). StoryStands after z.now z.flip) (sym same)
        (subst (λ (z : Plain × Plain). StoryStands after z.0 z.1) (λ i. (sym (tally_more-now t t.flip w u) i, sym (tally_more-flip t t.flip w u) i))
        (stories_keep r.heap t.now t.flip w y q (ready_story s w t.now t.flip r h.stands) r.below r.holds asked))

    all_is : after_all (opening s.code) log ≡ t.now
    all_is = sym (tally_now (first s) log)

    fetches : (m : ℕ) (v : Told) → u ≡ v → IsAnswered t.now w v → AreFetched s.code s.turns m (after_all (opening s.code) log) (extra t.flip w v)
    fetches m (Answers task did) e comes = (own, tt)
      where
        own : w ≡ m → (k : Mutator) → slice_get (after_all (opening s.code) log).mutators m ≡ Some k → task ≡ task_of (fetch s.code s.turns m k)
        own same k is =
            own_task steps_keep workers_go_on workers_want what_stands_is_so s w now h.steady r q asked task did k e
            (ap (λ (p : Plain). slice_get p.mutators w) (sym all_is) ∙ (ap (λ (j : ℕ). slice_get (after_all (opening s.code) log).mutators j) same ∙ is))
            ∙ ap (λ (j : ℕ). task_of (fetch s.code s.turns j k)) same
    fetches m _ e comes = tt

    step_history : HasHistory least (core_after s w) (log ++ adds s log w)
    step_history =
        let more : adds s log w ≡ extra t.flip w u = ap (adds_by s t.flip w) asked ∙ ap (λ (words : List ℕ). extra t.flip w (told y (reply_of q words))) (sym r.words) in
        subst (λ (z : CoreState × List Entry). HasHistory least z.0 (log ++ z.1)) (λ i. (record s { heap = (sym event i).after }, sym more i))
        (record {
          steady = subst (λ (e : Event). IsSteady (record s { heap = e.after })) event kept.steady;
          stands = stands;
          tallied = step_tallied r.heap w y q r.below r.holds asked least (first s) log given r.stands;
          legal = legal_more (opening s.code) t.flip log w u h.legal (subst (λ (p : Plain). IsAnswered p w u) (sym all_is) law.answered);
          fetched = λ m. fetched_append s.code s.turns m (opening s.code) log (extra t.flip w u) (h.fetched m) (fetches m u refl law.answered);
        })

  by_want : w < length s.heap.workers → (o : Option Step) → wanted (ready s w) ≡ o → HasHistory least (core_after s w) (log ++ adds s log w)
  by_want below None is = idle_history is
  by_want below (Some q) is = step_history below q is

  -- so does the core after any event
  pub event_history : HasHistory least (core_after s w) (log ++ adds s log w)
  event_history = ⊎_elim
      (λ (below : w < length s.heap.workers). by_want below (wanted (ready s w)) refl)
      (λ (past : length s.heap.workers ≤ w). idle_history (ap (λ (x : Held). wanted (readied s.code s.turns w x)) (get_or_past s.heap.workers w nobody past)))
      (cases_lt w (length s.heap.workers))

-- ---- its full heaps

module _ (least : ℕ) (s : CoreState) (log : List Entry) (h : HasHistory least s log) where
  abbrev last : Plain
  last = after_all (opening s.code) log

  so : IsSo s.heap last
  so = what_stands_is_so s.heap last (tally (first s) log).flip (subst (λ (p : Plain). WorkersStand s.heap p (tally (first s) log).flip) (tally_now (first s) log) h.stands.stands)

  -- the tasks that workers have begun are what their mutators fetch
  pub are_next : (j : ℕ) → IsNext s.code s.turns last j (tasks_held s.heap.workers j)
  are_next j task q is its none =
      let inside = slice_get_within last.mutators j q its in
      let many = so.as_many in
      let account = (so.mutators j q its).account in
      let x : Held = held_at s.heap j in
      let same : fetch s.code s.turns j (seen x.account x.registers) ≡ fetch s.code s.turns j q = rw (account.counter, account.executed) refl in
      (h.steady.on_task j (omega (arith, inside, many))).task task is ∙ ap task_of same

  pub history_fills : EachFullIs s.heap.pages least s.code s.turns (first_story s.code) 0 0 (order_of log) × EachMayCome (λ j. false) 0 (order_of log)
  history_fills =
      let all = orders_fill s.code s.turns (tasks_held s.heap.workers) h.tallied.sizes (first s) 0 (λ j. false) log h.legal (plain_count s.code s.turns []) h.fetched are_next h.tallied.entries
      (omega arith) (λ m e. e) in
      (subst (λ (z : ℕ × ℕ). EachFullIs z.0 z.1 s.code s.turns (first_story s.code) 0 0 (order_of log)) (λ i. (h.tallied.counts.limit i, h.tallied.began.0 i)) all.0, all.1)

  -- the cells that it empties are those that lost their targets
  pub lost : EmptiesLost (opening s.code) (opening s.code) log
  lost = empties_lost h.tallied.sizes (tasks_held s.heap.workers) (first s) log h.tallied.entries

  -- no more pages were made than its order tells
  pub history_made : (tally (first s) log).made ≤ made_since s.code s.turns (order_of log)
  history_made = order_makes s.code s.turns (tasks_held s.heap.workers) (first s) 0 log h.legal lost (plain_count s.code s.turns []) h.fetched (omega arith)

-- ---- a run

-- What each event keeps is so at its end, with what is counted along it.
module _ (next : CoreState → ℕ → ℕ → ℕ) (Holds : CoreState → List Entry → (count : ℕ) → Type 0)
    (keeps : (s : CoreState) (w : ℕ) (log : List Entry) (count : ℕ) → Holds s log count → Holds (core_after s w) (log ++ adds s log w) (next s w count)) where
  -- at the end of a run that begins so
  abbrev pub HoldsAfter : (ℕ → ℕ) → ℕ → ℕ → CoreState → List Entry → (count : ℕ) → Type 0
  HoldsAfter schedule at n s log count = Holds (run_from schedule at n s).last (log ++ log_from schedule at n s log) (count_from next schedule at n count s)

  by_ended : (schedule : ℕ → ℕ) (at n : ℕ) (s : CoreState) (log : List Entry) (count : ℕ) (b : Bool) → all_ended s ≡ b → Holds s log count
      → HoldsAfter schedule (at + 1) n (core_after s (schedule at)) (log ++ adds s log (schedule at)) (next s (schedule at) count) → HoldsAfter schedule at (suc n) s log count
  unfolding run_from count_from log_from
  by_ended schedule at n s log count true is now rest = rw (is, append-nil log) now
  by_ended schedule at n s log count false is now rest =
      rw (is, sym (append_assoc log (adds s log (schedule at)) (log_from schedule (at + 1) n (core_after s (schedule at)) (log ++ adds s log (schedule at))))) rest

  pub holds_after : (schedule : ℕ → ℕ) (at n : ℕ) (s : CoreState) (log : List Entry) (count : ℕ) → Holds s log count → HoldsAfter schedule at n s log count
  unfolding run_from count_from log_from
  holds_after schedule at zero s log count now = rw (append-nil log) now
  holds_after schedule at (suc n) s log count now =
      by_ended schedule at n s log count (all_ended s) refl now
      (holds_after schedule (at + 1) n (core_after s (schedule at)) (log ++ adds s log (schedule at)) (next s (schedule at) count) (keeps s (schedule at) log count now))
