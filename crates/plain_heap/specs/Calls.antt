-- Laws of one instruction: it leaves the other mutators as they were, makes the record whose room is counted, and begins a checkpoint
-- or leaves what is kept of the last one.
use Rattle.std.specs.Prelude.{◌≡◌, ◌≢◌, ℕ, List, length, Some, None, Result, Ok, slice_get}
use Rattle.std.specs.Option.{option_map}
use Rattle.plain_state.specs.declared.end.End.{End}
use Rattle.plain_state.specs.declared.kind.Kind.{Kind}
use Rattle.plain_state.specs.declared.value.Value.{Value}
use Rattle.plain_state.specs.State.{Record, Heap, Mutator, Plain, serial_of}
use Rattle.plain_state.specs.Writing.{took}
use Rattle.mutator_asm.specs.declared.instr.Instr.{Instr}
use Rattle.plain_heap.specs.declared.action.Action.{Action}
use Rattle.plain_heap.specs.declared.action.Action.TheVariants.{Makes, Snaps}
use Rattle.plain_heap.specs.Action.{action}
use Rattle.plain_heap.specs.Call.{After, allocated, filled, call}
use Rattle.plain_heap.specs.Step.{fetch, settled, new_record, pages_of, asked_if}

-- ---- the other mutators

-- an instruction of mutator m leaves every other mutator as it was
abbrev pub CallLeavesOthers : Type 0
CallLeavesOthers = (s : Plain) (m j : ℕ) (k : Mutator) (instr : Instr) → j ≢ m
    → slice_get (settled s m k (call m s.heap k instr)).mutators j ≡ slice_get s.mutators j

-- no mutator comes or goes
abbrev pub CallKeepsCount : Type 0
CallKeepsCount = (s : Plain) (m : ℕ) (k : Mutator) (instr : Instr) → length (settled s m k (call m s.heap k instr)).mutators ≡ length s.mutators

-- ---- new records

-- where the action of an instruction is to make a record, that record is allocated, and room is counted for it
abbrev pub CallMakesNewRecord : Type 0
CallMakesNewRecord = (m : ℕ) (heap : Heap) (k : Mutator) (instr : Instr) (kind : Kind) (d n : ℕ) (v : Value) → action k instr ≡ Ok (Makes kind d n v)
    → (call m heap k instr ≡ Ok (allocated m heap k kind d n v)) × (new_record k instr ≡ Some (filled kind n v))

-- the action is to make this record
pub record IsMadeBy (act : Result Action End) (r : Record) : Type 0 where
  pub kind : Kind
  pub register : ℕ
  pub len : ℕ
  pub value : Value
  pub makes : act ≡ Ok (Makes kind register len value)
  pub is : r ≡ filled kind len value

-- room is counted for no other
abbrev pub NewRecordIsMade : Type 0
NewRecordIsMade = (k : Mutator) (instr : Instr) (r : Record) → new_record k instr ≡ Some r → IsMadeBy (action k instr) r

-- where room is counted for none, each mutator has as many records as before
abbrev pub ElseNoneIsMade : Type 0
ElseNoneIsMade = (m j : ℕ) (heap : Heap) (k : Mutator) (instr : Instr) (after : After) → new_record k instr ≡ None → call m heap k instr ≡ Ok after
    → serial_of after.heap j ≡ serial_of heap j

-- the pages that a mutator without an end asks for are those of the record that its next instruction would make
abbrev pub AsksForNewRecord : Type 0
AsksForNewRecord = (code : List (List Instr)) (turns m : ℕ) (k : Mutator) (instr : Instr) → fetch code turns m k ≡ Ok instr
    → asked_if code turns m k None ≡ option_map pages_of (new_record k instr)

-- ---- checkpoints

-- the second heap has as many checkpoints as the first, and keeps the same one
pub record KeepsCheckpoint (heap next : Heap) : Type 0 where
  pub snaps : next.snaps ≡ heap.snaps
  pub snapped : next.snapped ≡ heap.snapped

-- an action to begin one does this alone to the heap, and any other keeps what there is
abbrev pub LeavesCheckpoint : Result Action End → (heap next : Heap) → Type 0
LeavesCheckpoint (Ok Snaps) heap next = next ≡ took heap
LeavesCheckpoint _ heap next = KeepsCheckpoint heap next

-- an instruction whose action it is begins a checkpoint, and no other does
abbrev pub OnlySnapBegins : Type 0
OnlySnapBegins = (m : ℕ) (heap : Heap) (k : Mutator) (instr : Instr) (after : After) → call m heap k instr ≡ Ok after
    → LeavesCheckpoint (action k instr) heap after.heap
