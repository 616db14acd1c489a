-- A mutator along a program, call by call, and a scanner along its acts.
use Rattle.std.proofs.Common.{◌≡◌, ℕ, ◌+◌, ◌<◌, ◌≤◌, List, [], ◌∷◌, ◌++◌, drop, Option, Some, None, slice_get, refl, sym, ◌∙◌, ap, subst}
use Rattle.std.proofs.lemmas.Bool.{lt-leb, le-leb}
use Rattle.plain_state.specs.declared.end.End.{End}
use Rattle.plain_state.specs.declared.end.End.TheVariants.{JumpOut, TurnsOut, HeapFull}
use Rattle.plain_state.specs.Reachable.{IsLive}
use Rattle.plain_state.specs.State.{Mutator, Plain}
use Rattle.plain_heap.specs.Step.{fetch}
use Rattle.mutator_asm.specs.declared.instr.Instr.{Instr}
use Rattle.mutator_asm.specs.Program.{instr_at}
use Rattle.gc_worker.specs.Plain.Answer.{ComesTo, MayCome}
use Rattle.gc_worker.specs.Plain.Full.{FindsNoRoom}
use Rattle.gc_worker.specs.Laws.Step.{WorkersStand}
use Rattle.gc_worker.specs.Plain.Marks.{task_of}
use Rattle.gc_worker.specs.Steps.Stepped.{uncounted}
use Rattle.gc_worker.specs.declared.stage.Stage.TheVariants.{Gone}
use Rattle.gc_worker.specs.declared.steps.stepped.Stepped.{Stepped}
use Rattle.gc_worker.specs.declared.task.Task.{Task}
use Rattle.gc_worker.specs.declared.task.Task.TheVariants.{Calls, Stops}
use Rattle.gc_worker.specs.declared.calls.call.Call.{Call}
use Rattle.gc_worker.specs.declared.calls.did.Did.{Did}
use Rattle.gc_worker.specs.declared.calls.did.Did.TheVariants.{Done, Trap}
use Rattle.gc_worker.specs.declared.calls.entry.Entry.{Entry}
use Rattle.ael_threads.specs.declared.view.Plan.{Plan}
use Rattle.ael_threads.specs.Calls.{Called, StaysSilent, KnowsWorker, call_by}
use Rattle.gc_worker.specs.History.Legal.{IsLegal, after_all, worker_call, calls_of, extra, last_flip}
use Rattle.ael_threads.specs.Histories.{HasOwnCalls, first_plain, hand}
use Rattle.ael_threads.specs.Runs.Programs.{HasExecuted, count_after_call, fetched_at}
use Rattle.ael_threads.specs.Rule.{StandsAs, heap_of}
use Rattle.ael_threads.specs.Runs.Running.{Executed, Executing, FoundFull, EndFoundFull, HasRun, RunsAsScanner, Work}
use Rattle.ael_threads.specs.Seats.{Acts, IsMine, IsShown, Seated, ShowsSeen, first_number, first_own, plain_after_seen, seen_after}
use Rattle.ael_threads.specs.Began.{FlippedSinceBegun}
use Rattle.ael_threads.proofs.WholeCalls.FromActs.{found_is, quiet_first, quiet_more}
use Rattle.gc_worker.proofs.History.Extensions.{legal_last}
use Rattle.ael_threads.proofs.WholeCalls.OneMore.{fetches_shown}
use Rattle.ael_threads.proofs.ProgramRuns.Programs.{executed_more, executed_rests}

-- an end that stands in an instruction's place is what the call comes to
pub stops : (a b : Seated) (end : End) (did : Did) → Called a (Stops end) did b → did ≡ Trap end
stops a b end did c = by_did did h.mutator h.may
  where
    before : Plain
    before = after_all (first_plain a.knows.plan) (a.knows.seen ++ c.history.between)

    h : ComesTo before (first_number a.knows.hands) (Stops end) did
    h = legal_last (first_plain a.knows.plan) (a.knows.seen ++ c.history.between) (call_by a (Stops end) did) (subst (IsLegal (first_plain a.knows.plan)) c.history.is c.history.legal)

    by_did : (did : Did) (q : Mutator) → MayCome (first_number a.knows.hands) before.heap q (Stops end) did → did ≡ Trap end
    by_did Done q may = absurd may
    by_did (Trap why) q may = ap Trap may

pub is_done : (did : Did) → ((end : End) → did ≡ Trap end → ⊥) → did ≡ Done
is_done Done not = refl
is_done (Trap end) not = absurd (not end refl)

-- a seat that has its worker alone, of which nothing is heard
still_alone : (m : ℕ) (own : List Call) (a b : Seated) → a.knows.hands ≡ hand m a.worker own ∷ [] → StaysSilent a b → b.knows.hands ≡ hand m b.worker own ∷ []
still_alone m own a b is q =
    let known : KnowsWorker a = is ∙ (λ i. hand (first_number (sym is i)) a.worker (first_own (sym is i)) ∷ drop 1 (sym is i)) in
    q.known known ∙ (λ i. hand ((q.rests.number ∙ ap first_number is) i) b.worker ((q.rests.own ∙ ap first_own is) i) ∷ (q.rests.others ∙ ap (drop 1) is) i)

-- ---- what it fetches

module _ (w : Work) (m counter count : ℕ) where
  abbrev next : Task
  next = task_of (fetched_at w.code w.turns m counter count)

  pub next_call : (o : Option Instr) (instr : Instr) → count < w.turns → o ≡ instr_at w.code m counter → o ≡ Some instr → Calls instr ≡ next
  next_call o instr few is found = rw (lt-leb w.turns count few, sym is, found) refl

  pub next_jumps : (o : Option Instr) → count < w.turns → o ≡ instr_at w.code m counter → o ≡ None → Stops JumpOut ≡ next
  next_jumps o few is none = rw (lt-leb w.turns count few, sym is, none) refl

-- ---- a mutator on its way

module _ (w : Work) (m count : ℕ) (a : Seated) (h : Executing w m count a) where
  number_is : first_number a.knows.hands ≡ m
  number_is = ap first_number h.hands

  -- its next call is of the task that it fetches
  abbrev IsNext : Task → Type 0
  IsNext task = (q : Mutator) → slice_get (plain_after_seen a.knows).mutators (first_number a.knows.hands) ≡ Some q → task ≡ task_of (fetch w.code w.turns (first_number a.knows.hands) q)

  -- which is read off its worker
  pub read_off : (task : Task) → ShowsSeen a.worker a.knows → task ≡ next w m a.worker.account.counter count → IsNext task
  read_off task shows is q its = is ∙ ((λ i. task_of (fetched_at w.code w.turns (sym number_is i) a.worker.account.counter count))
      ∙ ap task_of (sym (fetches_shown w.code w.turns (first_number a.knows.hands) count (plain_after_seen a.knows).heap a.worker q (shows q its) (h.executed.counts.executed q its))))

  -- where no turns are left that is their end
  pub out_of_turns : w.turns ≤ count → IsNext (Stops TurnsOut)
  out_of_turns enough q its = rw (h.executed.counts.executed q its, le-leb w.turns count enough) refl

  module _ (b : Seated) (task : Task) (did : Did) (c : Called a task did b) where
    legal_after : IsLegal (first_plain w.plan) b.knows.seen
    legal_after = subst (λ (plan : Plan). IsLegal (first_plain plan) b.knows.seen) h.plan c.history.legal

    hands_after : b.knows.hands ≡ hand m b.worker (h.own ++ worker_call m task did ∷ []) ∷ []
    hands_after = c.hands ∙ (λ i. hand (number_is i) b.worker (first_own (h.hands i) ++ worker_call (number_is i) task did ∷ []) ∷ drop 1 (h.hands i))

    mine_after : IsMine b.knows
    mine_after = let own = (subst (HasOwnCalls b.knows.seen) hands_after c.history.own).0 in (λ i. calls_of (first_number (hands_after i)) b.knows.seen) ∙ (own ∙ sym (ap first_own hands_after))

    executed_after : IsNext task → HasExecuted w.code w.turns (count_after_call did count) b
    executed_after own = executed_more w.code w.turns count a b task did h.mine h.executed c own

  -- after a call that was executed
  pub executing_more : (b : Seated) (task : Task) → b.table ≡ a.table → IsNext task → Called a task Done b → Executing w m (count + 1) b
  executing_more b task same own c = record {
    table = same ∙ h.table;
    plan = c.plan ∙ h.plan;
    own = h.own ++ worker_call m task Done ∷ [];
    hands = hands_after b task Done c;
    mine = mine_after b task Done c;
    task = c.rests;
    going = c.ends;
    legal = legal_after b task Done c;
    executed = executed_after b task Done c own;
  }

  found : (b : Seated) (task : Task) (asked room live : ℕ) → Called a task (Trap (HeapFull asked room live)) b → FoundFull w.plan m b.knows.seen asked room live
  found b task asked room live c =
      let k = c.acts.knows in
      let n : first_number c.last.knows.hands ≡ m = c.waits.rests.number ∙ number_is in
      let plan : c.last.knows.plan ≡ w.plan = c.waits.rests.plan ∙ h.plan in
      let since = subst (λ (v : Plan × (ℕ × List Entry)). FlippedSinceBegun v.0 v.1.0 task c.last.worker.begun v.1.1)
      (λ i. (h.plan i, (number_is i, found_is a b task (Trap (HeapFull asked room live)) c i))) c.flipped.since in record {
        before = k.found.log;
        task = task;
        is = k.sees ∙ ((λ i. seen_after c.last.knows.seen k.stands.log (c.answers i)) ∙ (k.grows ∙ (λ i. k.found.log ++ extra (last_flip (first_plain c.last.knows.plan) k.found.log) (n i) (c.answers i))));
        there = record {
          words = k.before;
          workers = k.found.workers;
          held = c.last.worker;
          here = subst (λ (j : ℕ). StandsAs k.found.workers j (uncounted c.last.worker)) n k.found.here;
          stands = subst (λ (v : Plan). WorkersStand (heap_of v k.before k.found.workers) (after_all (first_plain v) k.found.log) (last_flip (first_plain v) k.found.log)) plan k.found.stands;
        };
        no_room = subst (λ (v : Plan). FindsNoRoom v.spaces.pages k.before c.last.worker asked room live) h.plan c.full;
        was_live = subst (λ (v : Plan). IsLive (last_flip (first_plain v) b.knows.seen) live) h.plan c.live;
        flipped = since;
      }

  full_by : (b : Seated) (task : Task) (end : End) → Called a task (Trap end) b → EndFoundFull w.plan m b.knows.seen end
  full_by b task (HeapFull asked room live) c = found b task asked room live c
  full_by b task _ c = tt

  -- after one that was its end
  pub executing_ends : (b : Seated) (task : Task) (end : End) → b.table ≡ a.table → IsNext task → Called a task (Trap end) b → Executed w m b
  executing_ends b task end same own c = record {
    table = same ∙ h.table;
    plan = c.plan ∙ h.plan;
    own = h.own ++ worker_call m task (Trap end) ∷ [];
    hands = hands_after b task (Trap end) c;
    mine = mine_after b task (Trap end) c;
    task = c.rests;
    end = end;
    ended = c.ends;
    shows = c.shows;
    legal = legal_after b task (Trap end) c;
    count = count;
    executed = executed_after b task (Trap end) c own;
    full = full_by b task end c;
  }

-- nothing is heard of it as it leaves
pub left : (w : Work) (m : ℕ) (a b : Seated) → Executed w m a → StaysSilent a b → b.table ≡ a.table → b.worker.stage ≡ Gone → HasRun w m b
left w m a b h q same gone = record {
  executed = record {
    table = same ∙ h.table;
    plan = q.rests.plan ∙ h.plan;
    own = h.own;
    hands = still_alone m h.own a b h.hands q;
    mine = (λ i. calls_of (q.rests.number i) (q.rests.seen i)) ∙ (h.mine ∙ sym q.rests.own);
    task = q.none;
    end = h.end;
    ended = q.ended h.end h.ended;
    shows = subst (λ (z : Plain × ℕ). (p : Mutator) → slice_get z.0.mutators z.1 ≡ Some p → IsShown z.0.heap z.1 b.worker p)
        (λ i. (after_all (first_plain (sym q.rests.plan i)) (sym q.rests.seen i), sym q.rests.number i))
        (λ p its. q.shown h.end h.ended (plain_after_seen a.knows).heap (first_number a.knows.hands) p (h.shows p its));
    legal = subst (IsLegal (first_plain w.plan)) (sym q.rests.seen) h.legal;
    count = h.count;
    executed = executed_rests w.code w.turns h.count a b q.rests h.executed;
    full = subst (λ (log : List Entry). EndFoundFull w.plan m log h.end) (sym q.rests.seen) h.full;
  };
  gone = gone;
}

-- ---- a scanner

pub scanning_more : (w : Work) (k : ℕ) (a b : Seated) (s : Stepped) → RunsAsScanner w k a → Acts a s b → b.table ≡ a.table → RunsAsScanner w k b
scanning_more w k a b s h acts same =
    let q = quiet_more a a b s (quiet_first a h.task) acts in record {
      table = same ∙ h.table;
      plan = q.rests.plan ∙ h.plan;
      hands = still_alone k [] a b h.hands q;
      task = q.none;
    }
