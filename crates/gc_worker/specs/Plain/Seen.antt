-- The plain machine's mutator as a worker sees it, whose values are those of its words: so an instruction's ends and action are the plain
-- machine's own.
use Rattle.std.specs.Prelude.{ℕ, List, map, Option, Some, None, Result, Ok}
use Rattle.plain_state.specs.declared.end.End.{End}
use Rattle.plain_state.specs.declared.kind.Kind.TheVariants.{Mixed}
use Rattle.plain_state.specs.declared.kind.Kind.TheVariants as kinds
use Rattle.plain_state.specs.declared.value.Value.TheVariants.{Number, Reference}
use Rattle.plain_state.specs.State.{Mutator}
use Rattle.mutator_asm.specs.declared.instr.Instr.{Instr}
use Rattle.mutator_asm.specs.declared.instr.Instr.TheVariants.{New, Raw, Mix, Weak}
use Rattle.mutator_asm.specs.declared.operand.Operand.{Operand}
use Rattle.plain_heap.specs.declared.action.Action.{Action}
use Rattle.plain_heap.specs.declared.action.Action.TheVariants.{Makes}
use Rattle.plain_heap.specs.Action.{◌>>=◌, length_of, mixed_length, operand, reference_in, register}
use Rattle.heap_state.specs.Known.{Account}
use Rattle.record_access.specs.Seen.{value_seen}
pub use Rattle.gc_worker.specs.declared.steps.allocating.Making.{Making}

-- the mutator that a worker sees in its own account and registers
abbrev pub seen : Account → List ℕ → Mutator
seen account registers = record {
  counter = account.counter;
  registers = map value_seen registers;
  printed = account.printed;
  executed = account.executed;
  end = account.end;
}

-- ---- new records

-- the length of a record that an operand names, if it is none too long
abbrev pub length_named : Mutator → Operand → Result ℕ End
length_named k x = operand k x >>= length_of

-- the fields and the length of a mixed record that two operands name, if it is none too long
abbrev pub mixed_named : Mutator → (fields raw : Operand) → Result (ℕ × ℕ) End
mixed_named k fields raw = do
  fields ← operand k fields
  raw ← operand k raw
  n ← mixed_length fields raw
  Ok (fields, n)

-- the record that an instruction makes: its kind, the register that gets it, and its length
abbrev pub making_in : Result Action End → Option Making
making_in (Ok (Makes kind d n v)) = Some (record { kind = kind; into = d; len = n })
making_in other = None

-- the register that is to lead to the record that an instruction makes, or 0 if it makes none
abbrev pub register_for : Instr → ℕ
register_for (New d x) = d
register_for (Raw d x) = d
register_for (Mix d fields raw) = d
register_for (Weak d a) = d
register_for instr = 0

-- the mixed record that two operands name
abbrev pub mixed_made : Mutator → (d : ℕ) → (fields raw : Operand) → Option Making
mixed_made k d fields raw = making_in (mixed_named k fields raw >>= (λ m. Ok (Makes (Mixed m.0) d m.1 (Number 0))))

-- the cell whose target a register names
abbrev pub cell_made : Mutator → (d a : ℕ) → Option Making
cell_made k d a = making_in (reference_in (register k a) >>= (λ i. Ok (Makes kinds.Weak d 1 (Reference i))))
