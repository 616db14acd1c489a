-- A caller from act to act of its call: when it began its task, and what flips came since.
use Rattle.std.proofs.Common.{◌≡◌, ℕ, ◌<◌, ◌≤◌, inl, inr, List, length, Some, refl, sym, ◌∙◌, ap, subst, arith, ⊎_elim}
use mathlib.Core.List.{IsPrefix}
use Rattle.atom_store.specs.declared.reply.Reply.{Reply}
use Rattle.plain_state.specs.declared.end.End.TheVariants.{HeapFull}
use Rattle.space_map.specs.declared.gate_word.GateWord.{GateWord}
use Rattle.std.specs.Prelude.{Option}
use Rattle.gc_worker.specs.declared.calls.call.Call.{Call}
use Rattle.gc_worker.specs.declared.calls.did.Did.{Did}
use Rattle.gc_worker.specs.declared.calls.did.Did.TheVariants.{Trap}
use Rattle.gc_worker.specs.declared.calls.entry.Entry.{Entry}
use Rattle.gc_worker.specs.declared.stage.Stage.TheVariants.{Looks}
use Rattle.gc_worker.specs.declared.steps.stepped.Stepped.{Stepped}
use Rattle.gc_worker.specs.declared.task.Task.{Task}
use Rattle.gc_worker.specs.Workers.Begun.{IsPastLook}
use Rattle.gc_worker.specs.Workers.Counted.{counted}
use Rattle.gc_worker.specs.Laws.Cycles.{IsInCall}
use Rattle.gc_worker.specs.Workers.Fits.{Fits}
use Rattle.gc_worker.specs.Plain.Full.{FindsNoRoom, FullWhereTold}
use Rattle.gc_worker.specs.Workers.Held.{Held}
use Rattle.gc_worker.specs.History.Legal.{after_all, calls_of, extra, last_flip}
use Rattle.gc_worker.specs.Laws.Step.{Heap, WorkersStand, epoch_of, held_at, nobody}
use Rattle.gc_worker.specs.Steps.Stepped.{uncounted}
use Rattle.gc_worker.specs.Steps.Turned.{Answers, epoch_in_gate, told, turned}
use Rattle.gc_worker.proofs.Between.Begun.{beginnings_are_kept, full_is_found_later}
use Rattle.gc_worker.proofs.Workers.ApartFromCount.{counted_fit}
use Rattle.gc_worker.proofs.History.FullHeaps.{past_look}
use Rattle.ael_threads.specs.declared.view.Plan.{Plan}
use Rattle.ael_threads.specs.Began.{BeginsAt, flips_of}
use Rattle.ael_threads.specs.Calls.{FlippedByOutcome, FlippedInCall, HasBegun, IsUnderWay, Waits}
use Rattle.ael_threads.specs.Histories.{first_plain}
use Rattle.ael_threads.specs.Rule.{StandsAs, heap_of}
use Rattle.ael_threads.specs.Seats.{ActsBy, Moves, Seated, first_number, first_own}
use Rattle.ael_threads.proofs.BegunLooks.{begun_here, begun_later, flipped_full}
use Rattle.ael_threads.proofs.WholeCalls.Began.{answers_in_call, was_in_call}
use Rattle.ael_threads.proofs.Lists.Elements.{prefix_more, prefix_trans}
use Rattle.ael_threads.proofs.TableRule.Epochs.{flips_rise, no_later}
use Rattle.ael_threads.proofs.TableRule.Flips.{answers_in_epoch}
use Rattle.ael_threads.proofs.TableRule.PagesInUse.{flipped_or_last}
use Rattle.ael_threads.proofs.Lists.Reads.{at_inside, get_of}

-- the seat hears of more
pub heard_more : (b c : Seated) (r : Reply) (s : Stepped) → ActsBy b r s c → IsPrefix b.knows.heard c.knows.heard
heard_more b c r s h = let k = h.knows in
    subst (IsPrefix b.knows.heard) (sym (k.hears ∙ k.grows)) (prefix_more b.knows.heard k.found.log (extra (last_flip (first_plain b.knows.plan) k.found.log) (first_number b.knows.hands) (told b.worker r)) k.heard)

-- ---- one act of the call

module _ (a b c : Seated) (task : Task) (r : Reply) (s : Stepped) (u : IsUnderWay a task b) (h : ActsBy b r s c) where
  abbrev m : ℕ
  m = first_number b.knows.hands

  abbrev plan : Plan
  plan = b.knows.plan

  abbrev n : ℕ
  n = plan.spaces.pages

  abbrev x : Held
  x = b.worker

  abbrev z : Held
  z = turned x r

  abbrev k : Moves b.knows m x r c.knows
  k = h.knows

  abbrev w : Waits a task b
  w = u.waits

  -- the history that the act finds
  abbrev log : List Entry
  log = k.found.log

  abbrev before : Heap
  before = heap_of plan k.before k.found.workers

  abbrev st : WorkersStand before (after_all (first_plain plan) log) (last_flip (first_plain plan) log)
  st = k.found.stands

  abbrev here : StandsAs k.found.workers m (uncounted x)
  here = k.found.here

  below : m < length k.found.workers
  below = at_inside k.found.workers m here.held here.is

  holds : held_at before m ≡ here.held
  holds = get_of k.found.workers m here.held nobody here.is

  epoch_is : (held_at before m).epoch ≡ x.epoch
  epoch_is = ap (λ (y : Held). y.epoch) holds ∙ ap (λ (y : Held). y.epoch) here.shown

  task_is : (held_at before m).task ≡ Some task
  task_is = ap (λ (y : Held). y.task) holds ∙ (ap (λ (y : Held). y.task) here.shown ∙ w.asks)

  fits_x : Fits n plan.mutators m x
  fits_x =
      let count = here.held.account.executed in
      (counted_fit n plan.mutators m count x).0 (subst (Fits n plan.mutators m) (holds ∙ ap (counted count) here.shown) (st.fit m below))

  gate_flips : epoch_of n k.before ≡ flips_of plan log
  gate_flips = k.found.tallied.counts.epoch

  -- as the caller before the call has it
  log_flips : flips_of plan log ≡ flips_of a.knows.plan log
  log_flips = ap (λ (p : Plan). flips_of p log) w.rests.plan

  its_calls : calls_of (first_number a.knows.hands) log ≡ first_own a.knows.hands
  its_calls = ap (λ (j : ℕ). calls_of j log) (sym w.rests.number) ∙ (k.own ∙ w.rests.own)

  begun_is : c.worker.begun ≡ z.begun
  begun_is = ap (λ (y : Held). y.begun) h.worker

  hears : IsPrefix log c.knows.heard
  hears = (extra (last_flip (first_plain plan) log) m (told x r), sym (k.hears ∙ k.grows))

  -- no flip is known later than in which the caller was
  a_past : a.worker.epoch ≤ flips_of a.knows.plan log
  a_past = ⊎_elim
      (λ (same : x.epoch ≡ a.worker.epoch).
      let past = no_later before (after_all (first_plain plan) log) (last_flip (first_plain plan) log) st m below task task_is in
      let e = epoch_is in
      let g = gate_flips in
      let f = log_flips in
      omega (arith, past, e, g, f, same))
      (λ (few : a.worker.epoch ≤ flips_of a.knows.plan b.knows.heard). let more = flips_rise a.knows.plan b.knows.heard log k.heard in omega (arith, few, more))
      u.epoch

  pub heard_past : a.worker.epoch ≤ flips_of a.knows.plan c.knows.heard
  heard_past = let few = a_past in let more = flips_rise a.knows.plan log c.knows.heard hears in omega (arith, few, more)

  -- ---- the look

  begins : x.stage ≡ Looks → z.begun ≡ x.epoch → IsInCall z.stage → HasBegun a task c
  begins looks same call =
      let look = begun_here plan m x k.step task k.before k.found.workers log here st gate_flips k.wants w.asks looks (subst (λ (reply : Reply). IsInCall (turned x reply).stage) k.reply call) in
      let flips : flips_of a.knows.plan log ≡ c.worker.begun = sym log_flips ∙ (look.1 ∙ (sym same ∙ sym begun_is)) in
      let past = a_past in record {
        within = record {
          began = log;
          look = subst (λ (v : Plan × ℕ). BeginsAt v.0 v.1 task log) (λ i. (w.rests.plan i, w.rests.number i)) look.0;
          begins = hears;
          calls = its_calls;
          flips = flips;
        };
        seen = subst (λ (seen : List Entry). IsPrefix seen log) w.rests.seen k.found.begins;
        heard = prefix_trans a.knows.heard b.knows.heard log w.rests.heard k.heard;
        epoch = omega (arith, past, flips);
      }

  -- ---- later

  goes_on : IsPastLook x.stage → z.begun ≡ x.begun → IsInCall z.stage → HasBegun a task c
  goes_on past same call =
      let was = u.begun (was_in_call n plan.mutators m x r fits_x past call) in
      let begun : x.begun ≡ c.worker.begun = sym same ∙ sym begun_is in
      let epoch = was.epoch in record {
        within = begun_later a.knows.plan (first_number a.knows.hands) task x.begun c.worker.begun (first_own a.knows.hands) (first_own a.knows.hands) b.knows.heard c.knows.heard was.within begun refl (heard_more b c r s h);
        seen = was.seen;
        heard = was.heard;
        epoch = omega (arith, epoch, begun);
      }

  pub begun_by : IsInCall c.worker.stage → HasBegun a task c
  begun_by call =
      let on : IsInCall z.stage = subst IsInCall (ap (λ (y : Held). y.stage) h.worker) call in
      ⊎_elim (λ (look : (x.stage ≡ Looks) × (z.begun ≡ x.epoch)). begins look.0 look.1 on) (λ (later : IsPastLook x.stage × (z.begun ≡ x.begun)). goes_on later.0 later.1 on)
      (beginnings_are_kept n plan.mutators m x r fits_x (past_look z.stage on))

  -- ---- a full heap

  full : (other : Task) (asked room live : ℕ) → told x r ≡ Answers other (Trap (HeapFull asked room live)) → FlippedInCall a task log b c
  full other asked room live e =
      let past = full_is_found_later n plan.mutators m x r other asked room live fits_x e in
      let was = u.begun (answers_in_call x r other (Trap (HeapFull asked room live)) x.stage e past) in
      let finds : FindsNoRoom n k.before x asked room live = subst (FullWhereTold n k.before x) e k.full in
      let late = flipped_or_last n k.before x asked room live finds in
      let gate : epoch_of n k.before ≡ x.epoch = ap (λ (o : Option GateWord). epoch_in_gate 0 o) finds.gate_is ∙ finds.epoch in
      let now : flips_of a.knows.plan log ≡ x.epoch = sym log_flips ∙ (sym gate_flips ∙ gate) in
      let own : List Call = first_own a.knows.hands in
      let first = was.epoch in
      let stays : c.worker.epoch ≡ x.epoch = ap (λ (y : Held). y.epoch) h.worker ∙ answers_in_epoch x r other (Trap (HeapFull asked room live)) e in record {
        since = flipped_full a.knows.plan (first_number a.knows.hands) task x own log
            (begun_later a.knows.plan (first_number a.knows.hands) task x.begun x.begun own own b.knows.heard log was.within refl refl k.heard) (sym its_calls) now late;
        seen = was.seen;
        heard = was.heard;
        begun = first;
        rises = ⊎_elim (λ (early : x.begun < x.epoch). inl (omega (arith, first, early, stays))) (λ last. inr (stays ∙ last)) late;
      }

  pub flipped_by : (other : Task) (did : Did) → told x r ≡ Answers other did → FlippedByOutcome a task log b c did
  flipped_by other (Trap (HeapFull asked room live)) e = full other asked room live e
  flipped_by other _ e = tt
