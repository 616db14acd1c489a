-- Calls of a mutator, and what one does to what it sees.
use Rattle.std.specs.Prelude.{◌≡◌, ◌≢◌, ℕ, ◌<◌, ◌⊎◌, length, List, [], ◌∷◌, None, Some, Ok, IsOk}
use Rattle.plain_state.specs.declared.end.End.{End}
use Rattle.plain_state.specs.declared.sizes.TheConstants.{REGISTERS}
use Rattle.plain_state.specs.declared.value.Identity.{Identity}
use Rattle.plain_state.specs.State.{Heap, Mutator, serial_of}
use Rattle.mutator_asm.specs.declared.instr.Instr.{Instr}
use Rattle.mutator_asm.specs.declared.instr.Instr.TheVariants.{Len, Snap}
use Rattle.plain_heap.specs.Action.{action}
use Rattle.plain_heap.specs.Call.{After, call}
use Rattle.plain_heap.specs.Records.{RecordShape, shape_of}
use Rattle.gc_worker.specs.declared.calls.did.Did.{Did}
use Rattle.gc_worker.specs.declared.calls.did.Did.TheVariants.{Done, Trap}
use Rattle.gc_worker.specs.declared.task.Task.TheVariants.{Calls}
use Rattle.gc_worker.specs.Plain.Answer.{MayEnd}
use Rattle.gc_worker.specs.Plain.Seen.{making_in}
use Rattle.ael_threads.specs.Calls.{Called}
use Rattle.ael_threads.specs.Seats.{Seated}
use Rattle.ael_runtime.specs.declared.root.TheConstants.{SCRATCH}
use Rattle.ael_runtime.specs.Reading.{heap_before, held, number, seen_heap, seen_mutator}

-- ---- calls one after another

-- an instruction, and what its call came to
pub record OneCall : Type 0 where
  pub instr : Instr
  pub did : Did

abbrev pub done : Instr → OneCall
done instr = record { instr = instr; did = Done }

abbrev pub trapped : Instr → End → OneCall
trapped instr end = record { instr = instr; did = Trap end }

-- just these calls were made
abbrev pub CalledAll : Seated → List OneCall → Seated → Type 0
CalledAll a [] b = b ≡ a
CalledAll a (c ∷ cs) b = (then : Seated) × (Called a (Calls c.instr) c.did then × CalledAll then cs b)

-- these had their effects, of a mutator that had no end and has none; of each register but this one, and that for scratch, the value stays
pub record HadEffects (a : Seated) (calls : List OneCall) (r : ℕ) (b : Seated) : Type 0 where
  pub called : CalledAll a calls b
  pub had_no_end : a.worker.account.end ≡ None
  pub no_end : b.worker.account.end ≡ None
  pub others : (j : ℕ) → j ≢ r → j ≢ SCRATCH → held b j ≡ held a j

-- so did these, after a look at the length of the record in a register, or without it if that is known
abbrev pub HadEffectsOnceSeen : Seated → (of : ℕ) → List OneCall → ℕ → Seated → Type 0
HadEffectsOnceSeen a of calls r b = HadEffects a calls r b ⊎ HadEffects a (done (Len SCRATCH of) ∷ calls) r b

-- The last of these calls was this end, and changed nothing else: the records and the board are as they were just before it, and so are the
-- registers, but for that for scratch.
pub record EndedBy (a : Seated) (calls : List OneCall) (end : End) (b : Seated) : Type 0 where
  pub called : CalledAll a calls b
  pub had_no_end : a.worker.account.end ≡ None
  pub ended : b.worker.account.end ≡ Some end
  pub heap : seen_heap b ≡ heap_before b
  pub others : (j : ℕ) → j ≢ SCRATCH → held b j ≡ held a j

-- so it was after a look at the length of the record in a register, or without it
abbrev pub EndedByOnceSeen : Seated → (of : ℕ) → List OneCall → End → Seated → Type 0
EndedByOnceSeen a of calls end b = EndedBy a calls end b ⊎ EndedBy a (done (Len SCRATCH of) ∷ calls) end b

-- ---- one call

-- each record of a heap is in a later one, with its kind and its length
abbrev pub KeepsShapes : Heap → Heap → Type 0
KeepsShapes heap later = (i : Identity) (known : RecordShape) → shape_of heap i ≡ Some known → shape_of later i ≡ Some known

-- what is so at a call: others may have made calls since, by which the mutator itself and the number of its records have not changed
pub record AtCall (a : Seated) (heap : Heap) : Type 0 where
  pub shapes : KeepsShapes (seen_heap a) heap
  pub serial : serial_of heap (number a) ≡ serial_of (seen_heap a) (number a)
  pub kept : number a < length heap.records
  pub registers : length (seen_mutator a).registers ≡ REGISTERS

-- An instruction had its effect: what the plain machine's call leaves on the heap at that point is what is seen after it.
pub record HadEffect (a : Seated) (instr : Instr) (b : Seated) : Type 0 where
  pub called : Called a (Calls instr) Done b
  pub had_no_end : a.worker.account.end ≡ None
  pub shapes : KeepsShapes (seen_heap a) (seen_heap b)
  pub heap : Heap
  pub at_call : AtCall a heap
  pub after : After
  pub is : call (number a) heap (seen_mutator a) instr ≡ Ok after
  pub before : heap_before b ≡ heap
  pub heap_is : seen_heap b ≡ after.heap
  pub mutator_is : seen_mutator b ≡ after.mutator
  pub number_is : number b ≡ number a
  pub serial_is : b.worker.account.serial ≡ serial_of (seen_heap b) (number b)

-- it had this end, and nothing else changed
pub record WasTrapped (a : Seated) (instr : Instr) (end : End) (b : Seated) : Type 0 where
  pub called : Called a (Calls instr) (Trap end) b
  pub had_no_end : a.worker.account.end ≡ None
  pub heap : Heap
  pub at_call : AtCall a heap
  pub may : MayEnd (number a) heap (seen_mutator a) instr end
  pub before : heap_before b ≡ heap
  pub heap_is : seen_heap b ≡ heap
  pub registers : (j : ℕ) → held b j ≡ held a j

-- The instruction has its effect on each heap that there may be at the call, and makes no record.
pub record IsSure (a : Seated) (instr : Instr) : Type 0 where
  pub other : instr ≢ Snap
  pub no_record : (k : Mutator) → making_in (action k instr) ≡ None
  pub ok : (heap : Heap) → AtCall a heap → IsOk (call (number a) heap (seen_mutator a) instr)
