-- Who is in a call has begun it by a look, whoever steps; and each full heap was found after a flip since then.
use Rattle.std.proofs.Common.{◌≡◌, ◌≢◌, ℕ, ◌<◌, ◌-◌, ◌^◌, ◌⊎◌, true, is_some, List, [], ◌∷◌, ◌++◌, length, slice_get, Option, Some, None, refl, sym, ◌∙◌, ap, subst, append-nil, ⊎_elim}
use Rattle.std.proofs.lemmas.Option.{same_Some}
use mathlib.Core.Option.{some}
use mathlib.Core.List.{IsPrefix}
use lib.ListN.{get_elem?}
use Rattle.atom_store.specs.declared.reply.Reply.{Reply}
use Rattle.atom_store.specs.declared.step.Step.{Step}
use Rattle.atom_store.specs.Step.{reply_of}
use Rattle.plain_state.specs.declared.end.End.{End}
use Rattle.plain_state.specs.declared.end.End.TheVariants.{HeapFull}
use Rattle.plain_state.specs.State.{Plain}
use Rattle.plain_heap.specs.Emptied.{cells_to_empty}
use Rattle.space_map.specs.declared.gate_word.GateWord.{GateWord}
use Rattle.heap_state.specs.Known.{Account}
use Rattle.gc_worker.specs.declared.calls.call.Call.{Call}
use Rattle.gc_worker.specs.declared.calls.did.Did.TheVariants.{Done, Trap}
use Rattle.gc_worker.specs.declared.calls.entry.Entry.{Entry}
use Rattle.gc_worker.specs.declared.calls.entry.Entry.TheVariants.{Exchanged, Made, Emptied}
use Rattle.gc_worker.specs.declared.stage.Stage.{Stage}
use Rattle.gc_worker.specs.declared.stage.Stage.TheVariants.{Looks}
use Rattle.gc_worker.specs.declared.task.Task.{Task}
use Rattle.gc_worker.specs.Workers.Begun.{IsPastLook}
use Rattle.gc_worker.specs.Laws.Between.{KeepsToTask, IsNoAnswer, is_present}
use Rattle.gc_worker.specs.Laws.Cycles.{IsInCall}
use Rattle.gc_worker.specs.Workers.Fits.{Fits, FitsEnd}
use Rattle.gc_worker.specs.Plain.Full.{FindsNoRoom, FullWhereTold}
use Rattle.gc_worker.specs.Workers.Held.{Held}
use Rattle.gc_worker.specs.History.Legal.{IsLegal, after_all, calls_of, extra, last_flip, worker_call}
use Rattle.gc_worker.specs.History.Tally.{IsTallied}
use Rattle.gc_worker.specs.Workers.Knows.{post_in}
use Rattle.gc_worker.specs.Laws.Step.{Heap, WorkersStand, epoch_of, held_at, nobody}
use Rattle.gc_worker.specs.Steps.Turned.{Answers, Marks, Silent, Empties, Told, epoch_in_gate, told, turned}
use Rattle.gc_worker.specs.Steps.Stepped.{uncounted}
use Rattle.gc_worker.specs.Steps.Wanted.{wanted}
use Rattle.gc_worker.proofs.Between.Begun.{beginnings_are_kept, full_is_found_later, rests_before}
use Rattle.gc_worker.proofs.Between.KeptTasks.{workers_go_on}
use Rattle.gc_worker.proofs.Between.StandingHeaps.{what_stands_is_so}
use Rattle.gc_worker.proofs.History.Extensions.{calls_append}
use Rattle.gc_worker.proofs.History.FullHeaps.{past_look}
use Rattle.ael_threads.specs.declared.view.Hand.{Hand}
use Rattle.ael_threads.specs.declared.view.Plan.{Plan}
use Rattle.ael_threads.specs.Began.{BeginsAt, BegunWithin, FlippedIfFull, FlippedSinceBegun, HasLooked, begun_held, flips_of}
use Rattle.ael_threads.specs.Histories.{first_plain, opening_tally}
use Rattle.ael_threads.specs.Seats.{HasFlippedIfFull}
use Rattle.ael_threads.specs.Workers.{StandsAs, heap_of}
use Rattle.ael_threads.proofs.WholeCalls.Began.{answers_in_call, none_at, was_in_call}
use Rattle.ael_threads.proofs.WholeCalls.Ended.{ended_keeps, ended_out}
use Rattle.ael_threads.proofs.Lists.Elements.{prefix_self, prefix_trans}
use Rattle.ael_threads.proofs.TableRule.Epochs.{flipped_since, present_now}
use Rattle.ael_threads.proofs.TableRule.Flips.{answers_as_begun}
use Rattle.ael_threads.proofs.TableRule.FullCalls.{ended_after, told_or_before}
use Rattle.ael_threads.proofs.TableRule.PagesInUse.{flipped_or_last}
use Rattle.ael_threads.proofs.Lists.Reads.{at_inside, get_of}

-- ---- a look

-- who is in a call after a look has begun its task by it, in the epoch that is the number of flips
pub begun_here : (plan : Plan) (m : ℕ) (x : Held) (q : Step) (task : Task) (words : List ℕ) (workers : List Held) (log : List Entry) → StandsAs workers m (uncounted x)
    → WorkersStand (heap_of plan words workers) (after_all (first_plain plan) log) (last_flip (first_plain plan) log) → epoch_of plan.spaces.pages words ≡ flips_of plan log
    → wanted x ≡ Some q → x.task ≡ Some task → x.stage ≡ Looks → IsInCall (turned x (reply_of q words)).stage → BeginsAt plan m task log × (flips_of plan log ≡ x.epoch)
begun_here plan m x q task words workers log here st gate want is looks call =
    let h : Heap = heap_of plan words workers in
    let held : held_at h m ≡ here.held = get_of workers m here.held nobody here.is in
    let stage : (held_at h m).stage ≡ Looks = ap (λ (y : Held). y.stage) held ∙ (ap (λ (y : Held). y.stage) here.shown ∙ looks) in
    let present : is_present (post_in (held_at h m) (held_at h m).stage) ≡ true = ap (λ (stage : Stage). is_present (post_in (held_at h m) stage)) stage in
    let epoch : flips_of plan log ≡ x.epoch =
    sym gate ∙ (present_now h (after_all (first_plain plan) log) (last_flip (first_plain plan) log) st m (at_inside workers m here.held here.is) present ∙ (ap (λ (y : Held). y.epoch) held ∙ ap (λ (y : Held). y.epoch) here.shown)) in (
      record { there = record { words = words; workers = workers; held = x; here = here; stands = st }; task_is = is; looks = looks; epoch = epoch; step = q; wants = want; begins = call },
      epoch,
    )

-- so it has in a later history
abbrev pub begun_later : (plan : Plan) (m : ℕ) (task : Task) (was now : ℕ) (own own' : List Call) (log later : List Entry) → BegunWithin plan m task was own log → was ≡ now → own ≡ own' → IsPrefix log later
    → BegunWithin plan m task now own' later
begun_later plan m task was now own own' log later w kept same more = record { began = w.began; look = w.look; begins = prefix_trans w.began log later w.begins more; calls = w.calls ∙ same; flips = w.flips ∙ kept }

-- since then a flip came for who has come into a later epoch
abbrev pub flipped_full : (plan : Plan) (m : ℕ) (task : Task) (x : Held) (own : List Call) (log : List Entry) → BegunWithin plan m task x.begun own log → own ≡ calls_of m log → flips_of plan log ≡ x.epoch
    → (x.begun < x.epoch) ⊎ (x.epoch ≡ 2 ^ 32 - 1) → FlippedSinceBegun plan m task x.begun log
flipped_full plan m task x own log w same now no_flip = record {
  within = begun_later plan m task x.begun x.begun own (calls_of m log) log log w refl same (prefix_self log);
  flipped = flipped_since plan w.began log x w.begins w.flips now no_flip;
}

same_calls : (o : Plain) (m : ℕ) (log : List Entry) (t : Told) → IsNoAnswer t → calls_of m (log ++ extra o m t) ≡ calls_of m log
same_calls o m log Silent none = ap (calls_of m) (append-nil log)
same_calls o m log Empties none = calls_append m log (Emptied (cells_to_empty o) ∷ []) ∙ append-nil (calls_of m log)
same_calls o m log (Answers task did) none = absurd none
same_calls o m log (Marks asked) none = calls_append m log (Exchanged m asked ∷ []) ∙ append-nil (calls_of m log)

-- ---- the step of worker m, which holds y

module _ (plan : Plan) (m : ℕ) (y : Held) (q : Step) (words : List ℕ) (workers : List Held) (log : List Entry) (at : get_elem? workers m ≡ some y) (want : wanted y ≡ Some q)
    (legal : IsLegal (first_plain plan) log) (st : WorkersStand (heap_of plan words workers) (after_all (first_plain plan) log) (last_flip (first_plain plan) log)) (tallied : IsTallied plan.least (heap_of plan words workers) (opening_tally plan) log)
    (was : IsInCall y.stage → HasLooked plan m y log) (fits_z : Fits plan.spaces.pages plan.mutators m (turned y (reply_of q words)))
    (full : FullWhereTold plan.spaces.pages words y (told y (reply_of q words))) where
  abbrev n : ℕ
  n = plan.spaces.pages

  -- the plain state at the last flip
  abbrev o : Plain
  o = last_flip (first_plain plan) log

  abbrev r : Reply
  r = reply_of q words

  abbrev z : Held
  z = turned y r

  abbrev t : Told
  t = told y r

  abbrev h : Heap
  h = heap_of plan words workers

  below : m < length workers
  below = at_inside workers m y at

  holds : held_at h m ≡ y
  holds = get_of workers m y nobody at

  fits_y : Fits n plan.mutators m y
  fits_y = subst (Fits n plan.mutators m) holds (st.fit m below)

  goes : KeepsToTask y r
  goes = workers_go_on n plan.mutators m y r fits_y

  gate_flips : epoch_of n words ≡ flips_of plan log
  gate_flips = tallied.counts.epoch

  no_answer : IsInCall z.stage → IsNoAnswer t
  no_answer call = by_told t refl
    where
      by_told : (u : Told) → t ≡ u → IsNoAnswer t
      by_told (Answers task Done) e = absurd (rests_before y.stage z.stage (goes.answers task Done e).after (past_look z.stage call))
      by_told (Answers task (Trap end)) e =
          let ended : z.account.end ≡ Some end = ap (λ (a : Account). a.end) (goes.answers task (Trap end) e).after.0 in
          absurd (ended_out z.stage (subst (λ (o : Option End). FitsEnd z.stage (is_some o)) ended fits_z.end) call)
      by_told _ e = subst IsNoAnswer (sym e) tt

  looks_here : y.stage ≡ Looks → z.begun ≡ y.epoch → IsInCall z.stage → HasLooked plan m z (log ++ extra o m t)
  looks_here looks same call = by_task z.task refl
    where
      by_task : (has : Option Task) → z.task ≡ has → HasLooked plan m z (log ++ extra o m t)
      by_task None none = absurd (none_at z none z.stage fits_z.task call)
      by_task (Some task) is =
          let look = begun_here plan m y q task words workers log (record { held = y; is = at; shown = refl }) st gate_flips want (sym (goes.kept (no_answer call)) ∙ is) looks call in record {
            task = task;
            task_is = is;
            within = record { began = log; look = look.0; begins = (extra o m t, refl); calls = sym (same_calls o m log t (no_answer call)); flips = look.1 ∙ sym same };
          }

  later : IsPastLook y.stage → z.begun ≡ y.begun → IsInCall z.stage → HasLooked plan m z (log ++ extra o m t)
  later past same call = let w = was (was_in_call n plan.mutators m y r fits_y past call) in record {
    task = w.task;
    task_is = goes.kept (no_answer call) ∙ w.task_is;
    within = begun_later plan m w.task y.begun z.begun (calls_of m log) (calls_of m (log ++ extra o m t)) log (log ++ extra o m t) w.within (sym same) (sym (same_calls o m log t (no_answer call))) (extra o m t, refl);
  }

  pub looked : IsInCall z.stage → HasLooked plan m z (log ++ extra o m t)
  looked call = ⊎_elim (λ (look : (y.stage ≡ Looks) × (z.begun ≡ y.epoch)). looks_here look.0 look.1 call) (λ (past : IsPastLook y.stage × (z.begun ≡ y.begun)). later past.0 past.1 call)
      (beginnings_are_kept n plan.mutators m y r fits_y (past_look z.stage call))

  -- ---- a full heap

  flipped : (task : Task) (asked room live : ℕ) → t ≡ Answers task (Trap (HeapFull asked room live)) → FlippedSinceBegun plan m task z.begun log
  flipped task asked room live e =
      let past = full_is_found_later n plan.mutators m y r task asked room live fits_y e in
      let w = was (answers_in_call y r task (Trap (HeapFull asked room live)) y.stage e past) in
      let same : w.task ≡ task = same_Some w.task task (sym w.task_is ∙ (goes.answers task (Trap (HeapFull asked room live)) e).asked) in
      let finds : FindsNoRoom n words y asked room live = subst (FullWhereTold n words y) e full in
      let gate : epoch_of n words ≡ y.epoch = ap (λ (o : Option GateWord). epoch_in_gate 0 o) finds.gate_is ∙ finds.epoch in
      let begun : y.begun ≡ z.begun = sym (answers_as_begun y r task (Trap (HeapFull asked room live)) e past) in
      subst (λ (v : Task × ℕ). FlippedSinceBegun plan m v.0 v.1 log) (λ i. (same i, begun i)) (flipped_full plan m w.task y (calls_of m log) log w.within refl (sym gate_flips ∙ gate) (flipped_or_last n words y asked room live finds))

  -- who has found the heap full before has an end
  still_begun : (front rest : List Entry) (task : Task) (asked room live : ℕ) → front ++ Made (worker_call m task (Trap (HeapFull asked room live))) ∷ rest ≡ log → z.begun ≡ y.begun
  still_begun front rest task asked room live is =
      let p : Plain = first_plain plan in
      let end : End = HeapFull asked room live in
      let has = ended_after p front rest m task end (subst (IsLegal p) (sym is) legal) in
      let its : slice_get (after_all p log).mutators m ≡ Some has.0 = ap (λ (es : List Entry). slice_get (after_all p es).mutators m) (sym is) ∙ has.1 in
      let ended : y.account.end ≡ Some end = ap (λ (x : Held). x.account.end) (sym holds) ∙ (((what_stands_is_so h (after_all p log) (last_flip p log) st).mutators m has.0 its).account.end ∙ has.2) in
      ended_keeps y r y.stage (subst (FitsEnd y.stage) (ap is_some ended) fits_y.end)

  pub flipped_more : FlippedIfFull plan m y.begun log → FlippedIfFull plan m z.begun (log ++ extra o m t)
  flipped_more before front rest task asked room live is = ⊎_elim
      (λ (old : (more : List Entry) × (front ++ Made (worker_call m task (Trap (HeapFull asked room live))) ∷ more ≡ log)).
      subst (λ (begun : ℕ). FlippedSinceBegun plan m task begun front) (sym (still_begun front old.0 task asked room live old.1)) (before front old.0 task asked room live old.1))
      (λ (new : (front ≡ log) × (m ≡ m) × (t ≡ Answers task (Trap (HeapFull asked room live)))). subst (FlippedSinceBegun plan m task z.begun) (sym new.0) (flipped task asked room live new.2))
      (told_or_before o m m t task (Trap (HeapFull asked room live)) front rest log is)

-- ---- the other workers, and those of a seat

-- a step of another worker tells no full heap of this one
pub flipped_aside : (plan : Plan) (o : Plain) (j begun m : ℕ) (log : List Entry) (t : Told) → j ≢ m → FlippedIfFull plan j begun log → FlippedIfFull plan j begun (log ++ extra o m t)
flipped_aside plan o j begun m log t other before front rest task asked room live is = ⊎_elim
    (λ (old : (more : List Entry) × (front ++ Made (worker_call j task (Trap (HeapFull asked room live))) ∷ more ≡ log)). before front old.0 task asked room live old.1)
    (λ (new : (front ≡ log) × (j ≡ m) × (t ≡ Answers task (Trap (HeapFull asked room live)))). absurd (other new.1))
    (told_or_before o j m t task (Trap (HeapFull asked room live)) front rest log is)

pub hand_flipped : (plan : Plan) (workers : List Held) (log : List Entry) (h : Hand) → StandsAs workers h.number h.worker → ((m : ℕ) → FlippedIfFull plan m (begun_held workers m) log)
    → HasFlippedIfFull plan log h
hand_flipped plan workers log h s flipped =
    let same : begun_held workers h.number ≡ h.worker.begun = ap (λ (x : Held). x.begun) (get_of workers h.number s.held nobody s.is) ∙ ap (λ (x : Held). x.begun) s.shown in
    subst (λ (begun : ℕ). FlippedIfFull plan h.number begun log) same (flipped h.number)
