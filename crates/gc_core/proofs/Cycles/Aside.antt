-- Where the heap is full for a mutator, what was claimed since the last flip is for records made since then or that the others make next.
use Rattle.std.proofs.Common.{◌≡◌, ◌≢◌, ℕ, ◌+◌, ◌*◌, ◌<◌, ◌≤◌, length, List, [], Option, Some, None, refl, sym, ap, subst, ◌∙◌, arith, ⊎_elim, get_or-set_other}
use Rattle.std.proofs.lemmas.Bool.{cases_lt}
use Rattle.std.proofs.lemmas.List.{get_or_past}
use Rattle.plain_state.specs.declared.end.End.{End}
use Rattle.plain_state.specs.declared.sizes.TheConstants.{PAGE_WORDS}
use Rattle.plain_state.specs.State.{Plain}
use Rattle.plain_heap.specs.Order.{Story, story}
use Rattle.plain_heap.proofs.States.SameMutators.{plain_count}
use Rattle.atom_store.specs.declared.step.Step.{Step}
use Rattle.atom_store.specs.Step.{reply_of}
use Rattle.gc_worker.specs.declared.calls.did.Did.TheVariants.{Trap}
use Rattle.gc_worker.specs.declared.calls.entry.Entry.{Entry}
use Rattle.gc_worker.specs.declared.steps.stepped.Stepped.TheVariants.{Ended}
use Rattle.gc_worker.specs.declared.task.Task.{Task}
use Rattle.gc_worker.specs.History.Needs.{being_made, made_since}
use Rattle.gc_worker.specs.History.Order.{order_of}
use Rattle.gc_worker.specs.History.Tally.{FitsTally, Tally, Tasks, tally, tasks_held}
use Rattle.gc_worker.specs.Laws.Cycles.{SetsAside, low_of, set_aside, size_of, words_claimed}
use Rattle.gc_worker.specs.Laws.Step.{Heap, held_at, nobody}
use Rattle.gc_worker.specs.Steps.Stepped.{stepped_by}
use Rattle.gc_worker.specs.Steps.Turned.{Told, Answers, told, turned}
use Rattle.gc_worker.specs.Steps.Wanted.{wanted}
use Rattle.gc_worker.specs.Workers.Fits.{Fits}
use Rattle.gc_worker.specs.Workers.Held.{Held}
use Rattle.gc_worker.proofs.Between.StandingHeaps.{what_stands_is_so}
use Rattle.gc_worker.proofs.Cycles.SetAside.{claims_are_set_aside}
use Rattle.gc_worker.proofs.History.Aside.{aside_of_others}
use Rattle.gc_worker.proofs.History.Needs.{IsNext, making_most, order_turns}
use Rattle.gc_worker.proofs.History.Counted.Tallies.{tally_now}
use Rattle.gc_core.specs.Core.{CoreState, size_in}
use Rattle.gc_core.specs.Event.{event_by, event_of, readied, ready}
use Rattle.gc_core.proofs.Cycles.Filling.{HasClaimed}
use Rattle.gc_core.proofs.Events.Readied.{ReadyToStep}
use Rattle.gc_core.proofs.Runs.History.{HasHistory, are_next, first, given, history_made, its_ready, lost}

-- who ends has nothing set aside
ended_aside : (w : ℕ) (t : Told) (was : Held) (claims : ℕ) (now : Held) → SetsAside was claims now t → (m : ℕ) (why : End) → stepped_by w t ≡ Ended m why → set_aside was ≡ 0
ended_aside w (Answers task (Trap end)) was claims now sets m why e = omega (arith, sets)
ended_aside w _ was claims now sets m why e = absurd (cc)

module _ (least limit : ℕ) (s : CoreState) (w : ℕ) (log : List Entry) (h : HasHistory least s log) (claims : ℕ) (fills : HasClaimed limit s claims) (m : ℕ) (why : End) where
  abbrev t : Tally
  t = tally (first s) log

  abbrev AreForRecords : Type 0
  AreForRecords = claims ≤ PAGE_WORDS * (made_since s.code s.turns (order_of log) + being_made s.code s.turns (story s.code s.turns (order_of log)).now w)

  module _ (below : w < length s.heap.workers) (q : Step) (asked : wanted (ready s w) ≡ Some q) (e : stepped_by w (told (ready s w) (reply_of q s.heap.words)) ≡ Ended m why) where
    abbrev r : ReadyToStep s w t.now t.flip
    r = its_ready least s w log h below q asked

    abbrev tasks : Tasks
    tasks = tasks_held r.heap.workers

    counts : FitsTally r.heap (given least s w log h below q asked).sizes t
    counts = (given least s w log h below q asked).counts

    none_aside : set_aside (held_at r.heap w) ≡ 0
    none_aside =
        let fits : Fits r.heap.pages r.heap.mutators w (ready s w) = subst (Fits r.heap.pages r.heap.mutators w) r.holds (r.stands.fit w r.below) in
        let reply = reply_of q s.heap.words in
        ap set_aside r.holds
        ∙ ended_aside w (told (ready s w) reply) (ready s w) (words_claimed (ready s w) reply) (turned (ready s w) reply) (claims_are_set_aside r.heap.pages r.heap.mutators w (ready s w) reply fits) m why e

    -- the others hold what they held
    next : (j : ℕ) → j ≢ w → IsNext s.code s.turns t.now j (tasks j)
    next j other =
        let same : tasks j ≡ tasks_held s.heap.workers j =
        ap (λ (v : Heap). (held_at v j).task) r.is ∙ ap (λ (x : Held). x.task) (get_or-set_other s.heap.workers w j (ready s w) nobody other) in
        subst (λ (z : Plain × Option Task). IsNext s.code s.turns z.0 j z.1) (λ i. (sym (tally_now (first s) log) i, sym same i)) (are_next least s log h j)

    sections : length t.now.mutators ≡ length s.code
    sections = let many = (what_stands_is_so s.heap t.now t.flip h.stands.stands).as_many in many ∙ sym h.steady.sections

    by_step : AreForRecords
    by_step =
        let aside = aside_of_others r.heap t.now t.flip r.stands w tasks r.below none_aside (λ j other. refl) in
        let making = making_most s.code s.turns tasks t.now sections w [] next in
        let made = history_made least s log h in
        let few = counts.for_records in
        let low = counts.low in
        let size = counts.size in
        let whole = fills.low in
        let same_low : low_of r.heap.pages r.heap.words ≡ low_of s.heap.pages s.heap.words = (λ i. low_of (r.pages i) (r.words i)) in
        let same_size : size_of r.heap.pages r.heap.words ≡ size_in s = (λ i. size_of (r.pages i) (r.words i)) in
        let leads : (story s.code s.turns (order_of log)).now ≡ t.now = ap (λ (v : Story). v.now) (order_turns s.code s.turns tasks (first s) log h.legal (lost least s log h) (plain_count s.code s.turns []) h.fetched) in
        subst (λ (p : Plain). claims ≤ PAGE_WORDS * (made_since s.code s.turns (order_of log) + being_made s.code s.turns p w)) (sym leads)
        (omega (arith, aside, making, made, few, low, size, whole, same_low, same_size))

  by_want : (o : Option Step) → wanted (ready s w) ≡ o → (event_by s.heap w (ready s w) o).told ≡ Ended m why → AreForRecords
  by_want None is e = absurd (cc)
  by_want (Some q) is e = ⊎_elim
      (λ (below : w < length s.heap.workers). by_step below q is e)
      (λ (past : length s.heap.workers ≤ w).
      let none : wanted (ready s w) ≡ None = ap (λ (x : Held). wanted (readied s.code s.turns w x)) (get_or_past s.heap.workers w nobody past) in
      absurd (let f = sym none ∙ is in cc))
      (cases_lt w (length s.heap.workers))

  -- no more than the pages of the records made since the last flip and of those that the others make next
  pub claims_for_records : (event_of s w).told ≡ Ended m why → AreForRecords
  unfolding event_of
  claims_for_records e = by_want (wanted (ready s w)) refl e
