-- What a worker's code keeps and tells of what it holds.
use Rattle.std.specs.Prelude.{◌≡◌, ℕ, ◌^◌, ◌<◌, ◌≤◌, ⊤, Bool, Option, Some, None, true, false, nat_lt}
use Rattle.plain_state.specs.declared.end.End.{End}
use Rattle.plain_state.specs.declared.sizes.TheConstants.{MOST_PRINTED, NUMBERS}
use Rattle.plain_state.specs.declared.value.Value.{Value}
use Rattle.plain_state.specs.declared.value.Value.TheVariants.{Number, Reference}
use Rattle.plain_state.specs.State.{Mutator}
use Rattle.mutator_asm.specs.declared.instr.Instr.{Instr}
use Rattle.mutator_asm.specs.declared.instr.Instr.TheVariants.{Halt, Out}
use Rattle.page_scan.specs.Scanning.{IsAsking}
use Rattle.record_access.specs.declared.accessed.Accessed.{Accessed}
use Rattle.record_access.specs.declared.accessed.Accessed.TheVariants.{Brings, Stored}
use Rattle.gc_worker.specs.declared.stage.Stage.{Stage}
use Rattle.gc_worker.specs.declared.stage.Stage.TheVariants.{Looks, Passes, Flips, Forwards, Accesses, Places, Serves, Scans, Evacuates, Opens, Recalls, Guards, Checkpoints, BeginsCheckpoint, Gone}
use Rattle.gc_worker.specs.declared.calls.did.Did.TheVariants.{Done, Trap}
use Rattle.gc_worker.specs.declared.task.due.Due.{Due}
use Rattle.gc_worker.specs.declared.task.due.Due.TheVariants as due
use Rattle.gc_worker.specs.declared.steps.stepped.Stepped.{Stepped}
use Rattle.gc_worker.specs.declared.steps.stepped.Stepped.TheVariants as stepped
use Rattle.gc_worker.specs.declared.steps.stepped.Stepped.TheVariants.{Moved, Effect, Flipped, Ended}
use Rattle.gc_worker.specs.declared.task.Task.{Task}
use Rattle.gc_worker.specs.declared.task.Task.TheVariants.{Calls, Stops}
use Rattle.gc_worker.specs.Workers.Counted.{counted}
use Rattle.gc_worker.specs.Workers.Fits.{Fits}
use Rattle.forwarding.specs.Keeping as keeping
use Rattle.forwarding.specs.Keeping.{kept_word, reserved_word}
use Rattle.fault_duty.specs.Duty as duty
use Rattle.fault_duty.specs.declared.caller.Caller.TheVariants as callers
use Rattle.space_map.specs.Spaces.{Layout}
use Rattle.fault_duty.specs.declared.round_end.RoundEnd.{RoundEnd}
use Rattle.fault_duty.specs.declared.round_end.RoundEnd.TheVariants.{ScanPage, ScanInPlace, Marked, Traced, AllLeft, NothingNow}
use Rattle.gc_worker.specs.declared.stage.back.Back.{Back}
use Rattle.gc_worker.specs.declared.stage.back.Back.TheVariants.{ToSnap, ToScanner}
use Rattle.gc_worker.specs.Workers.Held.{Held, at_stage}
use Rattle.gc_worker.specs.Plain.Seen.{seen}
use Rattle.gc_worker.specs.Steps.Turned as turned

-- the task, kept flat: which kind it is, and beside it an instruction and an end
abbrev pub task_due : Due → Instr → End → Option Task
task_due due.Nothing instr end = None
task_due due.Call instr end = Some (Calls instr)
task_due due.Stop instr end = Some (Stops end)

-- the task is an instruction
abbrev pub IsCall : Option Task → Type 0
IsCall (Some (Calls instr)) = ⊤
IsCall (Some (Stops end)) = ⊥
IsCall None = ⊥

-- which one, or `halt` if it is none
abbrev pub instr_due : Option Task → Instr
instr_due (Some (Calls instr)) = instr
instr_due (Some (Stops end)) = Halt
instr_due None = Halt

-- The instructions that a mutator has executed are not counted by its code: on threads no number bounds them, and nobody reads
-- them there. So it holds this.
abbrev pub uncounted : Held → Held
uncounted x = counted 0 x

-- it looks at the gate, and has no task
abbrev pub awaits_at : Stage → Option Task → Bool
awaits_at Looks None = true
awaits_at stage task = false

abbrev pub awaits : Held → Bool
awaits x = awaits_at x.stage x.task

-- a worker fits a heap of its own layout
abbrev pub IsSound : Held → Type 0
IsSound x = Fits x.layout.pages x.mutators x.number x

-- a mutator that may print has room for the most numbers
abbrev pub HasRoomToPrint : (prints : Bool) → (number mutators capacity : ℕ) → Type 0
HasRoomToPrint prints number mutators capacity = prints ≡ true → nat_lt number mutators ≡ true → MOST_PRINTED ≤ capacity

-- the instruction prints a number, if it doesn't end its mutator
abbrev pub is_output : Instr → Bool
is_output (Out a) = true
is_output instr = false

-- what is asked of a heap, if anything is: its mutators may print
abbrev pub MayIf : (asks prints : Bool) → Type 0
MayIf true prints = prints ≡ true
MayIf false prints = ⊤

-- an instruction that prints is for a heap whose mutators may
abbrev pub MayExecute : (prints : Bool) → Instr → Type 0
MayExecute prints instr = MayIf (is_output instr) prints

-- the task of a worker: it prints only if the heap's mutators may
abbrev pub MayHave : (prints : Bool) → Option Task → Type 0
MayHave prints None = ⊤
MayHave prints (Some (Calls instr)) = MayExecute prints instr
MayHave prints (Some (Stops end)) = ⊤

-- what is told of a step of worker k
abbrev pub stepped_by : (k : ℕ) → turned.Told → Stepped
stepped_by k turned.Silent = Moved
stepped_by k turned.Empties = stepped.Traced
stepped_by k (turned.Answers task Done) = Effect k
stepped_by k (turned.Answers task (Trap end)) = Ended k end
stepped_by k (turned.Marks asked) = Flipped asked

-- ---- what is seen

-- the mutator that a worker sees in itself
abbrev pub seen_by : Held → Mutator
seen_by x = seen x.account x.registers

-- the number or address of a value that is seen fits a word
abbrev pub FitsValue : Value → Type 0
FitsValue (Number n) = n < NUMBERS
FitsValue (Reference i) = i.serial < 2 ^ 32

-- ---- which machine is at work

abbrev pub IsAtGate : Stage → Type 0
IsAtGate (Passes g after) = ⊤
IsAtGate _ = ⊥

abbrev pub IsFlipping : Stage → Type 0
IsFlipping (Flips f) = ⊤
IsFlipping _ = ⊥

abbrev pub IsForwarding : Stage → Type 0
IsForwarding (Forwards w) = ⊤
IsForwarding _ = ⊥

abbrev pub IsAtAccess : Stage → Type 0
IsAtAccess (Accesses a) = ⊤
IsAtAccess _ = ⊥

-- what an access comes to has no effect: it faults, awaits or fails
abbrev pub HasNoEffect : Accessed → Type 0
HasNoEffect (Brings into word) = ⊥
HasNoEffect Stored = ⊥
HasNoEffect accessed = ⊤

abbrev pub IsPlacing : Stage → Type 0
IsPlacing (Places p) = ⊤
IsPlacing _ = ⊥

abbrev pub IsServing : Stage → Type 0
IsServing (Serves d back) = ⊤
IsServing _ = ⊥

abbrev pub IsAtScan : Stage → Type 0
IsAtScan (Scans s back) = ⊤
IsAtScan _ = ⊥

abbrev pub IsEvacuating : Stage → Type 0
IsEvacuating (Evacuates v s back) = ⊤
IsEvacuating _ = ⊥

-- it copies the record that its scan asks for
abbrev pub IsCopyAsked : Stage → Type 0
IsCopyAsked (Evacuates v s back) = IsAsking s.stage
IsCopyAsked _ = ⊥

abbrev pub IsOpening : Stage → Type 0
IsOpening (Opens o s back) = ⊤
IsOpening _ = ⊥

abbrev pub IsRecalling : Stage → Type 0
IsRecalling (Recalls r after) = ⊤
IsRecalling _ = ⊥

abbrev pub IsGuarding : Stage → Type 0
IsGuarding (Guards g write) = ⊤
IsGuarding _ = ⊥

abbrev pub IsCheckpointing : Stage → Type 0
IsCheckpointing (Checkpoints r goal) = ⊤
IsCheckpointing _ = ⊥

abbrev pub IsBeginningCheckpoint : Stage → Type 0
IsBeginningCheckpoint (BeginsCheckpoint s) = ⊤
IsBeginningCheckpoint _ = ⊥

-- it does something for checkpoints
abbrev pub IsForCheckpoints : Stage → Type 0
IsForCheckpoints (Recalls r after) = ⊤
IsForCheckpoints (Guards g write) = ⊤
IsForCheckpoints (Checkpoints r goal) = ⊤
IsForCheckpoints (BeginsCheckpoint s) = ⊤
IsForCheckpoints _ = ⊥

-- it takes part in the collection: it is not at a look, an access or an allocation, and not gone
abbrev pub IsCollecting : Stage → Type 0
IsCollecting Looks = ⊥
IsCollecting (Accesses a) = ⊥
IsCollecting (Places p) = ⊥
IsCollecting Gone = ⊥
IsCollecting _ = ⊤

-- a register and where it leads
abbrev pub pointed : ℕ × ℕ → turned.Pointed
pointed p = record { register = p.0; addr = p.1 }

-- what the worker goes back to after its round
abbrev pub back_at : Stage → Back
back_at (Serves d back) = back
back_at _ = ToScanner

-- it goes back to the beginning of a checkpoint, or is a scanner
abbrev pub IsForCheckpoint : Back → Type 0
IsForCheckpoint ToSnap = ⊤
IsForCheckpoint ToScanner = ⊤
IsForCheckpoint _ = ⊥

-- a scanner's round is this worker's, beside so many mutators: so its next one is the same begun anew
abbrev pub MayBeginAnew : Layout → (mutators number : ℕ) → Stage → Type 0
MayBeginAnew layout mutators number (Serves d ToScanner) =
    duty.begun d.layout d.caller 0 d.worker ≡ duty.begun layout (callers.Scans mutators) 0 number
MayBeginAnew layout mutators number _ = ⊤

-- what a round of this epoch comes to
abbrev pub served_in : Held → (epoch : ℕ) → Back → RoundEnd → Held
served_in x epoch back (ScanPage page) = turned.scans (record x { epoch = epoch }) page false back
served_in x epoch back (ScanInPlace page) = turned.scans (record x { epoch = epoch }) page true back
served_in x epoch back Marked = turned.back_from (record x { epoch = epoch }) back
served_in x epoch back Traced = turned.traced_by (record x { epoch = epoch }) back
served_in x epoch back (NothingNow word) = turned.back_from (record x { epoch = epoch }) back
served_in x epoch back (AllLeft word) = at_stage x Gone

-- ---- what a worker keeps of a copy

-- the header that it keeps, as a word, or 0
abbrev pub header_kept : Stage → ℕ
header_kept (Forwards w) = kept_word (keeping.header_kept w.evac.stage)
header_kept (Evacuates v s back) = kept_word (keeping.header_kept v.stage)
header_kept _ = 0

-- the address that it has reserved and one more, or 0
abbrev pub place_kept : Stage → ℕ
place_kept (Forwards w) = reserved_word (keeping.address_reserved w.evac.stage)
place_kept (Evacuates v s back) = reserved_word (keeping.address_reserved v.stage)
place_kept _ = 0
