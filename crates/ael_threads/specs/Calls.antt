-- What a call is to its caller.
use Rattle.std.specs.Prelude.{◌≡◌, ℕ, ◌^◌, ◌-◌, ◌<◌, ◌≤◌, ◌⊎◌, ⊤, Option, Some, None, List, [], ◌∷◌, ◌++◌, drop, slice_get}
use mathlib.Core.List.{IsPrefix}
use Rattle.atom_store.specs.declared.reply.Reply.{Reply}
use Rattle.plain_state.specs.declared.end.End.{End}
use Rattle.plain_state.specs.declared.end.End.TheVariants.{HeapFull}
use Rattle.plain_state.specs.State.{Mutator}
use Rattle.plain_state.specs.State as plain
use Rattle.mutator_asm.specs.declared.instr.Instr.{Instr}
use Rattle.mutator_asm.specs.declared.instr.Instr.TheVariants.{Halt, Snap}
use Rattle.gc_worker.specs.declared.stage.Stage.TheVariants.{Gone, Looks}
use Rattle.gc_worker.specs.declared.steps.stepped.Stepped.{Stepped}
use Rattle.gc_worker.specs.declared.task.Task.{Task}
use Rattle.gc_worker.specs.declared.task.Task.TheVariants.{Calls}
use Rattle.gc_worker.specs.Plain.Answer.{ComesTo}
use Rattle.gc_worker.specs.Laws.Between.{AreAlike, RegistersLand}
use Rattle.gc_worker.specs.Laws.Cycles.{IsInCall}
use Rattle.gc_worker.specs.Plain.Full.{FullByOutcome}
use Rattle.gc_worker.specs.Steps.Turned.{Answers, told}
use Rattle.gc_worker.specs.Workers.Held.{Held}
use Rattle.gc_worker.specs.declared.calls.call.Call.{Call}
use Rattle.gc_worker.specs.declared.calls.entry.Entry.{Entry}
use Rattle.ael_threads.specs.declared.view.WonClaim.{WonClaim}
use Rattle.gc_worker.specs.declared.calls.did.Did.{Did}
use Rattle.gc_worker.specs.declared.calls.did.Did.TheVariants.{Done, Trap}
use Rattle.gc_worker.specs.History.Tally.{IsFilledBy, tally, tasks_held}
use Rattle.ael_threads.specs.Histories.{opening_tally, first_plain, hand}
use Rattle.gc_worker.specs.History.Legal.{after_all, worker_call, last_flip}
use Rattle.ael_threads.specs.Began.{BegunWithin, FlippedSinceBegun, flips_of}
use Rattle.ael_threads.specs.Seats.{ActsBy, Extends, IsPresent, IsRunning, IsShown, LiveWhereTold, Seated, ShowsSeen, StandWith, first_number, first_own, plain_after_seen}

-- a caller's call that came to this
abbrev pub call_by : Seated → Task → Did → Call
call_by a task did = worker_call (first_number a.knows.hands) task did

-- these pages were won since
abbrev pub WinsMore : Seated → Seated → Type 0
WinsMore a b = (more : List WonClaim) × (b.knows.claims ≡ more ++ a.knows.claims)

-- What the seat knows is as it was, but for the state of its own worker, pages won and more that it has heard of.
pub record Rests (a b : Seated) : Type 0 where
  pub plan : b.knows.plan ≡ a.knows.plan
  pub number : first_number b.knows.hands ≡ first_number a.knows.hands
  pub own : first_own b.knows.hands ≡ first_own a.knows.hands
  pub others : drop 1 b.knows.hands ≡ drop 1 a.knows.hands
  pub seen : b.knows.seen ≡ a.knows.seen
  pub heard : IsPrefix a.knows.heard b.knows.heard
  pub claims : WinsMore a b

-- a caller of which nothing was heard since it began a task
pub record Waits (a : Seated) (task : Task) (b : Seated) : Type 0 where
  pub asks : b.worker.task ≡ Some task
  pub rests : Rests a b

-- It has begun the task in this call: by a look at which the history began with all that was known before the call, and had just the
-- calls that the caller had made; in an epoch not before the one in which the caller was before the call.
pub record HasBegun (a : Seated) (task : Task) (b : Seated) : Type 0 where
  pub within : BegunWithin a.knows.plan (first_number a.knows.hands) task b.worker.begun (first_own a.knows.hands) b.knows.heard
  pub open within use *
  pub seen : IsPrefix a.knows.seen began
  pub heard : IsPrefix a.knows.heard began
  pub epoch : a.worker.epoch ≤ b.worker.begun

-- a caller that waits; where it is past the look it has begun the task in this call
pub record IsUnderWay (a : Seated) (task : Task) (b : Seated) : Type 0 where
  pub waits : Waits a task b
  pub epoch : (b.worker.epoch ≡ a.worker.epoch) ⊎ (a.worker.epoch ≤ flips_of a.knows.plan b.knows.heard)
  pub begun : IsInCall b.worker.stage → HasBegun a task b

-- ---- a full heap

-- A flip came since the caller began the task, in this call: the history at the look that began it begins with all that was known before
-- the call, and its number of flips is the epoch in which the caller has begun the task, as it is before its last act; that epoch is not
-- before the one in which the caller was before the call. So the caller is of a later epoch than before, or of the last.
pub record FlippedInCall (a : Seated) (task : Task) (log : List Entry) (last b : Seated) : Type 0 where
  pub since : FlippedSinceBegun a.knows.plan (first_number a.knows.hands) task last.worker.begun log
  pub seen : IsPrefix a.knows.seen since.began
  pub heard : IsPrefix a.knows.heard since.began
  pub begun : a.worker.epoch ≤ last.worker.begun
  pub rises : (a.worker.epoch < b.worker.epoch) ⊎ (b.worker.epoch ≡ 2 ^ 32 - 1)

-- where the call ends with heap full
abbrev pub FlippedByEnd : Seated → Task → List Entry → (last b : Seated) → End → Type 0
FlippedByEnd a task log last b (HeapFull asked room live) = FlippedInCall a task log last b
FlippedByEnd a task log last b end = ⊤

abbrev pub FlippedByOutcome : Seated → Task → List Entry → (last b : Seated) → Did → Type 0
FlippedByOutcome a task log last b Done = ⊤
FlippedByOutcome a task log last b (Trap end) = FlippedByEnd a task log last b end

-- ---- a call

-- the end that the mutator then has
abbrev pub end_by_did : Did → Option End
end_by_did Done = None
end_by_did (Trap end) = Some end

abbrev pub WasExecuted : Did → Type 0
WasExecuted Done = ⊤
WasExecuted (Trap end) = ⊥

-- who executed a task runs, but after `snap` it may have to clear its request first
abbrev pub RunsAfter : Task → Held → Type 0
RunsAfter (Calls Snap) x = IsPresent x
RunsAfter task x = IsRunning x

-- A CALL: it is one more of the caller's own, and the history that it has seen is legal, begins with all that it had seen before, and ends
-- with the call, which comes to what the plain machine's may at that point; of the seat's workers it has just the calls that they made.
-- What the caller shows is its plain mutator after it. The last act is of the caller while it still waits, and answers the task in the
-- epoch that the caller then has. Where the task was executed, the caller runs, but after `snap` may have to clear its request first; each
-- pointer in its registers leads to a record's header in the space of that epoch, by the words after that act, and two registers hold one
-- word exactly where the plain ones hold one value. Where the heap is told to be full it was, by the words that the act found, and what is
-- told as live was live at the last flip, which came since the look that began the task in this call if the epoch is not the last one, and
-- all pages of the space were in use then; what it and the room leave of the pages in use is no more than the pages of records made since
-- then, or made next by the others.
pub record Called (a : Seated) (task : Task) (did : Did) (b : Seated) : Type 0 where
  pub rests : b.worker.task ≡ None
  pub ends : b.worker.account.end ≡ end_by_did did
  pub plan : b.knows.plan ≡ a.knows.plan
  pub hands : b.knows.hands ≡ hand (first_number a.knows.hands) b.worker (first_own a.knows.hands ++ call_by a task did ∷ []) ∷ drop 1 a.knows.hands
  pub claims : WinsMore a b
  pub history : Extends a.knows.plan b.knows.hands a.knows.seen (call_by a task did) b.knows.seen
  pub shows : ShowsSeen b.worker b.knows
  pub last : Seated
  pub waits : Waits a task last
  pub reply : Reply
  pub stepped : Stepped
  pub acts : ActsBy last reply stepped b
  pub answers : told last.worker reply ≡ Answers task did
  pub heard : IsPrefix a.knows.heard b.knows.heard
  pub flipped : FlippedByOutcome a task (a.knows.seen ++ history.between) last b did
  pub epoch : b.worker.epoch ≡ last.worker.epoch
  pub comes : ComesTo (after_all (first_plain a.knows.plan) (a.knows.seen ++ history.between)) (first_number a.knows.hands) task did
  pub full : FullByOutcome a.knows.plan.spaces.pages acts.knows.before last.worker did
  pub live : LiveWhereTold (last_flip (first_plain a.knows.plan) b.knows.seen) (Answers task did)
  pub filled : IsFilledBy acts.knows.stands.tallied.sizes (tasks_held acts.knows.stands.workers) (tally (opening_tally a.knows.plan) (a.knows.seen ++ history.between)) (first_number a.knows.hands) task did []
  pub runs : WasExecuted did → RunsAfter task b.worker
  pub lands : WasExecuted did → RegistersLand a.knows.plan.spaces.pages acts.knows.after b.worker
  pub alike : WasExecuted did → (q : Mutator) → slice_get (plain_after_seen b.knows).mutators (first_number a.knows.hands) ≡ Some q → AreAlike b.worker.registers q

-- what some acts came to: the call, or the caller still waits for it
abbrev pub Tries : Seated → Task → Option Did → Seated → Type 0
Tries a task (Some did) b = Called a task did b
Tries a task None b = IsUnderWay a task b

-- the seat knows its worker as the code holds it
abbrev pub KnowsWorker : Seated → Type 0
KnowsWorker s = s.knows.hands ≡ hand (first_number s.knows.hands) s.worker (first_own s.knows.hands) ∷ drop 1 s.knows.hands

-- nothing is heard of a caller that has no task; one with an end keeps that, and shows what it showed
pub record StaysSilent (a b : Seated) : Type 0 where
  pub none : b.worker.task ≡ None
  pub rests : Rests a b
  pub ended : (end : End) → a.worker.account.end ≡ Some end → b.worker.account.end ≡ Some end
  pub shown : (end : End) → a.worker.account.end ≡ Some end → (records : plain.Heap) (m : ℕ) (q : Mutator) → IsShown records m a.worker q → IsShown records m b.worker q
  pub known : KnowsWorker a → KnowsWorker b

-- ---- after `snap`

-- By these words all workers stand, and each pointer in the caller's registers leads to a record's header in the space of its epoch; two
-- registers hold one word exactly where the plain ones hold one value.
pub record RegistersStand (b : Seated) : Type 0 where
  pub words : List ℕ
  pub stands : StandWith b.knows.plan (first_number b.knows.hands) b.worker b.knows.seen words
  pub lands : RegistersLand b.knows.plan.spaces.pages words b.worker
  pub alike : (q : Mutator) → slice_get (plain_after_seen b.knows).mutators (first_number b.knows.hands) ≡ Some q → AreAlike b.worker.registers q

-- nothing is heard of a caller that has no task, and shows its plain mutator, with registers that stand while it is present
pub record GoesOn (a b : Seated) : Type 0 where
  pub quiet : StaysSilent a b
  pub shows : ShowsSeen b.worker b.knows
  pub registers : IsPresent b.worker → RegistersStand b

-- A call of `snap`, after which the caller went on up to its look, where it runs: nobody waits for it any more. It has seen no more than
-- the history that ends with the call.
pub record CalledSnap (a : Seated) (did : Did) (b : Seated) : Type 0 where
  pub then : Seated
  pub called : Called a (Calls Snap) did then
  pub goes : GoesOn then b
  pub known : KnowsWorker b
  pub ends : b.worker.account.end ≡ end_by_did did
  pub looks : WasExecuted did → b.worker.stage ≡ Looks
  pub runs : WasExecuted did → IsRunning b.worker

-- THE CLAUSE OF EXEC: the instruction was called, and after `snap` the caller went on up to its look
abbrev pub CalledBy : Seated → Instr → Did → Seated → Type 0
CalledBy a Snap did b = CalledSnap a did b
CalledBy a instr did b = Called a (Calls instr) did b

-- ---- who leaves

-- THE CLAUSE OF LEAVE, of a caller without an end: it makes `halt`, and after that nothing is heard of it
pub record Halts (a b : Seated) : Type 0 where
  pub did : Did
  pub then : Seated
  pub called : Called a (Calls Halt) did then
  pub quiet : StaysSilent then b

-- a caller that has left: it made `halt` if it had no end, and no other call
pub record HasLeft (a b : Seated) : Type 0 where
  pub gone : b.worker.stage ≡ Gone
  pub ended : (end : End) → a.worker.account.end ≡ Some end → StaysSilent a b
  pub halts : a.worker.account.end ≡ None → Halts a b

-- a caller that is about to leave
pub record Departs (a b : Seated) : Type 0 where
  pub none : b.worker.task ≡ None
  pub ended : (end : End) → a.worker.account.end ≡ Some end → StaysSilent a b
  pub halts : a.worker.account.end ≡ None → Halts a b
