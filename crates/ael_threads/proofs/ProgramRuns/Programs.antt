-- What a mutator's thread keeps of its program from call to call.
use Rattle.std.proofs.Common.{◌≡◌, ℕ, ◌<◌, ◌^◌, List, [], ◌∷◌, ◌++◌, Some, slice_get, sym, ◌∙◌, ap, subst, arith}
use Rattle.std.specs.Prelude.{IsTrue}
use mathlib.Core.List.{IsPrefix}
use Rattle.atomic_table.specs.Seated.{TableId}
use Rattle.plain_state.specs.declared.end.End.TheVariants.{HeapFull}
use Rattle.plain_state.specs.State.{Mutator}
use Rattle.mutator_asm.specs.declared.instr.Instr.{Instr}
use Rattle.mutator_asm.specs.Program.{is_valid}
use Rattle.plain_heap.specs.Step.{fetch}
use Rattle.gc_worker.specs.declared.task.Task.{Task}
use Rattle.gc_worker.specs.declared.task.Task.TheVariants.{Calls}
use Rattle.gc_worker.specs.Workers.Fits.{MayBegin}
use Rattle.gc_worker.specs.Plain.Full.{FullByOutcome}
use Rattle.gc_worker.specs.Workers.Held.{Held}
use Rattle.gc_worker.specs.Plain.Marks.{task_of}
use Rattle.gc_worker.specs.declared.calls.call.Call.{Call}
use Rattle.gc_worker.specs.declared.calls.did.Did.{Did}
use Rattle.gc_worker.specs.declared.calls.did.Did.TheVariants.{Trap}
use Rattle.gc_worker.specs.declared.calls.entry.Entry.{Entry}
use Rattle.ael_threads.specs.declared.view.Plan.{Plan}
use Rattle.ael_threads.specs.Calls.{Called, Rests, call_by}
use Rattle.gc_worker.specs.History.Legal.{after_all, calls_of}
use Rattle.ael_threads.specs.Histories.{HasOwnCalls, first_plain}
use Rattle.gc_worker.specs.History.Order.{IsShort}
use Rattle.ael_threads.specs.Runs.Programs.{Executes, HasExecuted, count_after_call}
use Rattle.ael_threads.specs.Readers.{IsThere}
use Rattle.ael_threads.specs.Seats.{IsMine, IsShown, Seated, ShowsSeen, first_number, first_own, new_seated, plain_after_seen}
use Rattle.ael_threads.proofs.WholeCalls.OneMore.{OneMore, executes_all, executes_first, executes_more, one_more}
use Rattle.gc_worker.proofs.History.Extensions.{seen_keeps}
use Rattle.ael_threads.proofs.WorkerSeats.Shown.{mutator_at}

-- a heap that is told to be full has too few words
short_by : (n : ℕ) (words : List ℕ) (x : Held) (did : Did) → FullByOutcome n words x did → IsShort did
short_by n words x (Trap (HeapFull asked room live)) h = h.short
short_by n words x _ h = tt

-- ---- from call to call

module _ (code : List (List Instr)) (turns : ℕ) where
  -- before the first call
  pub executed_first : (t : TableId) (plan : Plan) (m : ℕ) → m < plan.mutators → HasExecuted code turns 0 (new_seated t plan m)
  executed_first t plan m below = executes_first code turns plan.mutators m below

  -- of what is seen of this mutator
  seen_as : (count : ℕ) (a b : Seated) (m : ℕ) → b.knows.plan ≡ a.knows.plan → first_number b.knows.hands ≡ m → Executes code turns (first_plain a.knows.plan) m count b.knows.seen → HasExecuted code turns count b
  seen_as count a b m plan number h = subst (λ (z : Plan × ℕ). Executes code turns (first_plain z.0) z.1 count b.knows.seen) (λ i. (sym plan i, sym number i)) h

  -- where nothing was heard of it
  pub executed_rests : (count : ℕ) (a b : Seated) → Rests a b → HasExecuted code turns count a → HasExecuted code turns count b
  executed_rests count a b r h = seen_as count a b (first_number a.knows.hands) r.plan r.number (subst (Executes code turns (first_plain a.knows.plan) (first_number a.knows.hands) count) (sym r.seen) h)

  -- in a history that has no more calls of it
  pub executed_all : (count : ℕ) (a : Seated) (log : List Entry) → IsMine a.knows → IsPrefix a.knows.seen log → calls_of (first_number a.knows.hands) log ≡ first_own a.knows.hands → HasExecuted code turns count a
      → Executes code turns (first_plain a.knows.plan) (first_number a.knows.hands) count log
  executed_all count a log mine begins own h = executes_all code turns (first_plain a.knows.plan) (first_number a.knows.hands) count a.knows.seen log begins (own ∙ sym mine) h

-- What a worker shows of its plain mutator it shows in a history that has no more calls of it.
pub shown_all : (a : Seated) (log : List Entry) → IsMine a.knows → ShowsSeen a.worker a.knows → IsPrefix a.knows.seen log → calls_of (first_number a.knows.hands) log ≡ first_own a.knows.hands
    → (q : Mutator) → slice_get (after_all (first_plain a.knows.plan) log).mutators (first_number a.knows.hands) ≡ Some q
    → IsShown (after_all (first_plain a.knows.plan) log).heap (first_number a.knows.hands) a.worker q
shown_all a log mine shows begins own q is =
    let agrees = seen_keeps (first_plain a.knows.plan) a.knows.seen log (first_number a.knows.hands) (first_own a.knows.hands) begins mine own in
    let h = shows q (sym agrees.mutator ∙ is) in record {
      counter = h.counter;
      printed = h.printed;
      end = h.end;
      serial = h.serial ∙ sym agrees.serial;
      registers = h.registers;
    }

-- It has made no more records than it executed instructions, and so may begin the next one.
pub call_may_begin : (code : List (List Instr)) (turns count : ℕ) (a : Seated) (instr : Instr) → HasExecuted code turns count a → ShowsSeen a.worker a.knows → IsThere a → IsTrue (is_valid instr) → count < 2 ^ 32
    → MayBegin a.worker.account a.worker.registers (Some (Calls instr))
call_may_begin code turns count a instr h shows there valid few =
    let here = there.0 in
    let below = there.1 in
    let w = mutator_at (plain_after_seen a.knows).mutators (first_number a.knows.hands) (omega (arith, here, below)) in
    let made = (shows w.0 w.1).serial in
    let least = h.counts.serial in
    record { valid = valid; serial = λ making is. omega (arith, made, least, few) }

-- what it called is one more
called_more : (a b : Seated) (task : Task) (did : Did) → IsMine a.knows → Called a task did b → OneMore a.knows.seen (call_by a task did) b.knows.seen
called_more a b task did mine h =
    let own : calls_of (first_number a.knows.hands) b.knows.seen ≡ first_own a.knows.hands ++ call_by a task did ∷ [] = (subst (HasOwnCalls b.knows.seen) h.hands h.history.own).0 in
    one_more a.knows.plan b.knows.hands a.knows.seen b.knows.seen (call_by a task did) (first_own a.knows.hands) h.history mine own

-- It called what it fetches.
pub executed_more : (code : List (List Instr)) (turns count : ℕ) (a b : Seated) (task : Task) (did : Did) → IsMine a.knows → HasExecuted code turns count a → Called a task did b
    → ((q : Mutator) → slice_get (plain_after_seen a.knows).mutators (first_number a.knows.hands) ≡ Some q → task ≡ task_of (fetch code turns (first_number a.knows.hands) q))
    → HasExecuted code turns (count_after_call did count) b
executed_more code turns count a b task did mine was h own =
    let m : ℕ = first_number a.knows.hands in
    let c : Call = call_by a task did in
    let now : Executes code turns (first_plain a.knows.plan) m (count_after_call c.did count) b.knows.seen =
    executes_more code turns (first_plain a.knows.plan) a.knows.seen b.knows.seen c count (called_more a b task did mine h) h.history.legal was own
    (short_by a.knows.plan.spaces.pages h.acts.knows.before h.last.worker did h.full) in
    seen_as code turns (count_after_call did count) a b m h.plan (ap first_number h.hands) now
