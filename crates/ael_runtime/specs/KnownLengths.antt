-- What is known of a record's length, and when it stays known.
use Rattle.std.specs.Prelude.{◌≡◌, ℕ, ◌≤◌, ⊤, Option, Some, None, Ok}
use Rattle.plain_state.specs.State.{Heap, Mutator}
use Rattle.mutator_asm.specs.declared.instr.Instr.{Instr}
use Rattle.plain_heap.specs.Action.{register}
use Rattle.plain_heap.specs.Call.{After, call}
use Rattle.gc_worker.specs.declared.calls.did.Did.{Did}
use Rattle.gc_worker.specs.declared.calls.did.Did.TheVariants.{Done}
use Rattle.ael_threads.specs.Seats.{Seated}
use Rattle.ael_runtime.specs.declared.measured.Measured.{Measured}
use Rattle.ael_runtime.specs.Reading.{held, len_of, seen_heap}

-- The record in a register has at least this length, and its mutator has no end.
abbrev pub IsKnown : Option Measured → Seated → Type 0
IsKnown None s = ⊤
IsKnown (Some known) s = (s.worker.account.end ≡ None) × (known.len ≤ len_of (seen_heap s) (held s known.register))

-- An instruction leaves what a register holds.
abbrev pub SparesRegister : Instr → ℕ → Type 0
SparesRegister instr r = (m : ℕ) (heap : Heap) (k : Mutator) (after : After) → call m heap k instr ≡ Ok after → register after.mutator r ≡ register k r

-- What is known after a call was known before, of a register that the call has left.
abbrev pub StaysKnown : Option Measured → Instr → Did → Option Measured → Type 0
StaysKnown before instr did None = ⊤
StaysKnown before instr did (Some known) = (before ≡ Some known) × (did ≡ Done) × SparesRegister instr known.register
