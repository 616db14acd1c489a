-- New records.
use Rattle.std.specs.Prelude.{◌≡◌, ℕ, ◌+◌, ◌-◌, ◌<◌, ◌==◌, ◌||◌, ◌∷◌, [], Bool, Some, None, nat_lt, if◌then◌else◌}
use Rattle.plain_state.specs.declared.kind.Kind.{Kind}
use Rattle.plain_state.specs.declared.kind.Kind.TheVariants.{Fields, Raw, Mixed}
use Rattle.plain_state.specs.declared.sizes.TheConstants.{LONGEST_RECORD}
use Rattle.plain_state.specs.declared.value.Identity.{Identity}
use Rattle.plain_state.specs.declared.value.Value.TheVariants.{Reference}
use Rattle.plain_state.specs.State.{record_of, serial_of}
use Rattle.plain_state.specs.Writing.{zeros}
use Rattle.mutator_asm.specs.declared.instr.Instr.{Instr}
use Rattle.mutator_asm.specs.declared.instr.Instr.TheVariants as instrs
use Rattle.mutator_asm.specs.declared.operand.Operand.TheVariants as operands
use Rattle.gc_worker.specs.declared.calls.did.Did.TheVariants.{Done}
use Rattle.gc_worker.specs.declared.task.Task.TheVariants.{Calls}
use Rattle.ael_threads.specs.declared.mutator.refused.TheConstants.{MOST_RECORDS}
use Rattle.ael_threads.specs.Calls.{Called}
use Rattle.ael_threads.specs.Seats.{Seated}
use Rattle.ael_runtime.specs.declared.root.TheConstants.{FRAMES, SCRATCH}
use Rattle.ael_runtime.specs.Calling.{HadEffects, done}
use Rattle.ael_runtime.specs.Reading.{held, len_of, number, seen_heap, record_word}

-- The kind of a record with these numbers of fields and of plain numbers behind them. One without plain numbers is of fields, and one of them alone is raw.
abbrev pub kind_for : (fields numbers : ℕ) → Kind
kind_for fields numbers = if numbers == 0 then Fields else (if fields == 0 then Raw else Mixed fields)

-- the instruction that makes it
abbrev pub making : (to fields numbers : ℕ) → Instr
making to fields numbers =
    if numbers == 0
    then instrs.New to (operands.Number fields)
    else (if fields == 0 then instrs.Raw to (operands.Number numbers) else instrs.Mix to (operands.Number fields) (operands.Number numbers))

-- the most words that it may have, in which a mixed one keeps the number of its fields
abbrev pub most_words : (fields numbers : ℕ) → ℕ
most_words fields numbers = if (numbers == 0) || (fields == 0) then LONGEST_RECORD else LONGEST_RECORD - 1

abbrev pub is_too_long : (fields numbers : ℕ) → Bool
is_too_long fields numbers = nat_lt (most_words fields numbers) (fields + numbers)

-- A register leads to a new record of this length, whose words are 0, which was not there before: it is the mutator's latest.
pub record HasMade (a : Seated) (kind : Kind) (len to : ℕ) (b : Seated) : Type 0 where
  pub identity : Identity
  pub leads : held b to ≡ Reference identity
  pub by : identity.mutator ≡ number a
  pub latest : identity.serial ≡ serial_of (seen_heap a) (number a) + 1
  pub is : record_of (seen_heap b) identity ≡ Some (zeros kind len)
  pub fresh : record_of (seen_heap a) identity ≡ None

-- A new frame with this number of slots is on top. It was made with all words 0, and then what was on top before was stored in its word 0.
pub record HasPushed (a : Seated) (slots : ℕ) (b : Seated) : Type 0 where
  pub short : slots < LONGEST_RECORD
  pub room : a.worker.account.serial < MOST_RECORDS
  pub effects : HadEffects a (done (instrs.Mov SCRATCH FRAMES) ∷ done (instrs.New FRAMES (operands.Number (slots + 1))) ∷ done (instrs.St FRAMES (operands.Number 0) SCRATCH) ∷ []) FRAMES b
  pub kept : Seated
  pub keeps : Called a (Calls (instrs.Mov SCRATCH FRAMES)) Done kept
  pub new : Seated
  pub makes : Called kept (Calls (instrs.New FRAMES (operands.Number (slots + 1)))) Done new
  pub made : HasMade kept Fields (slots + 1) FRAMES new
  pub links : Called new (Calls (instrs.St FRAMES (operands.Number 0) SCRATCH)) Done b
  pub top : held b FRAMES ≡ held new FRAMES
  pub len : len_of (seen_heap b) (held b FRAMES) ≡ slots + 1
  pub below : record_word (seen_heap b) (held b FRAMES) 0 ≡ held a FRAMES
