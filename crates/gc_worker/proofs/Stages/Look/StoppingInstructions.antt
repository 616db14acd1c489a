-- An instruction that ends its mutator: the registers alone never show that the heap is full.
use Rattle.std.proofs.Common.{◌≡◌, ℕ, ◌+◌, Bool, true, false, cond, nat_lt, nat_le, length, Result, Ok, Err, subst}
use Rattle.std.specs.Prelude.{⊤, ◌==◌}
use Rattle.plain_state.specs.declared.end.End.{End}
use Rattle.plain_state.specs.declared.end.End.TheVariants.{OutOfRange, OutputFull, ZeroDivisor}
use Rattle.plain_state.specs.declared.kind.Kind.{Kind}
use Rattle.plain_state.specs.declared.kind.Kind.TheVariants.{Fields, Raw}
use Rattle.plain_state.specs.declared.operation.Operation.{Operation}
use Rattle.plain_state.specs.declared.operation.Operation.TheVariants as operations
use Rattle.plain_state.specs.declared.sizes.TheConstants.{LONGEST_RECORD, MOST_PRINTED, BOARD_WORDS}
use Rattle.plain_state.specs.declared.value.Value.{Value}
use Rattle.plain_state.specs.declared.value.Value.TheVariants.{Number, Reference}
use Rattle.plain_state.specs.Operation.{applied}
use Rattle.plain_state.specs.State.{Mutator}
use Rattle.mutator_asm.specs.declared.instr.Instr.{Instr}
use Rattle.mutator_asm.specs.declared.instr.Instr.TheVariants as instrs
use Rattle.mutator_asm.specs.declared.operand.Operand.{Operand}
use Rattle.mutator_asm.specs.declared.operand.Operand.TheVariants as operands
use Rattle.plain_heap.specs.declared.action.Action.{Action}
use Rattle.plain_heap.specs.declared.action.Action.TheVariants.{Prints}
use Rattle.plain_heap.specs.Action.{◌>>=◌, register, as_number, reference_in, operand, length_of, mixed_length, on_board, board_place, computes, allocates, mixes, action}
use Rattle.gc_worker.specs.Workers.Fits.{MayStop}

-- where it has an end, it is not that the heap is full
abbrev pub Stops : {A : Type 0} → Result A End → Type 0
Stops (Ok a) = ⊤
Stops (Err why) = MayStop why

bind : {A B : Type 0} (o : Result A End) (f : A → Result B End) → Stops o → ((a : A) → Stops (f a)) → Stops (o >>= f)
bind (Ok a) f first next = next a
bind (Err why) f first next = first

number_stops : (v : Value) → Stops (as_number v)
number_stops (Number n) = tt
number_stops (Reference i) = tt

reference_stops : (v : Value) → Stops (reference_in v)
reference_stops (Number n) = tt
reference_stops (Reference i) = tt

if_else : {A : Type 0} (a : A) (why : End) (b : Bool) → MayStop why → Stops (cond b (Ok a) (Err why))
if_else a why true may = tt
if_else a why false may = may

divided_stops : (n : ℕ) (zero : Bool) → Stops (cond zero (Err ZeroDivisor) (Ok n))
divided_stops n true = tt
divided_stops n false = tt

applied_stops : (operation : Operation) (a b : ℕ) → Stops (applied operation a b)
applied_stops operations.Div a b = divided_stops _ (b == 0)
applied_stops operations.Rem a b = divided_stops _ (b == 0)
applied_stops _ a b = tt

module _ (m : Mutator) where
  operand_stops : (x : Operand) → Stops (operand m x)
  operand_stops (operands.Reg r) = number_stops (register m r)
  operand_stops (operands.Number n) = tt

  computes_stops : (operation : Operation) (d a b : ℕ) → Stops (computes operation m d a b)
  computes_stops operation d a b =
      bind (as_number (register m a)) _ (number_stops (register m a)) (λ x. bind (as_number (register m b)) _ (number_stops (register m b)) (λ y. bind (applied operation x y) _ (applied_stops operation x y) (λ n. tt)))

  allocates_stops : (kind : Kind) (d : ℕ) (x : Operand) → Stops (allocates m kind d x)
  allocates_stops kind d x =
      bind (operand m x) _ (operand_stops x) (λ n. bind (length_of n) _ (if_else n OutOfRange (nat_le n LONGEST_RECORD) tt) (λ len. tt))

  mixes_stops : (d : ℕ) (fields raw : Operand) → Stops (mixes m d fields raw)
  mixes_stops d fields raw =
      bind (operand m fields) _ (operand_stops fields) (λ f. bind (operand m raw) _ (operand_stops raw) (λ r.
      bind (mixed_length f r) _ (if_else (f + r) OutOfRange (nat_lt (f + r) LONGEST_RECORD) tt) (λ n. tt)))

  board_stops : (x : Operand) → Stops (board_place m x)
  board_stops x = bind (operand m x) on_board (operand_stops x) (λ n. if_else n OutOfRange (nat_lt n BOARD_WORDS) tt)

  pub action_stops : (i : Instr) → Stops (action m i)
  unfolding action
  action_stops (instrs.Add d a b) = computes_stops operations.Add d a b
  action_stops (instrs.Sub d a b) = computes_stops operations.Sub d a b
  action_stops (instrs.Mul d a b) = computes_stops operations.Mul d a b
  action_stops (instrs.Div d a b) = computes_stops operations.Div d a b
  action_stops (instrs.Rem d a b) = computes_stops operations.Rem d a b
  action_stops (instrs.Lt d a b) = computes_stops operations.Lt d a b
  action_stops (instrs.Jr a) = bind (as_number (register m a)) _ (number_stops (register m a)) (λ n. tt)
  action_stops (instrs.New d x) = allocates_stops Fields d x
  action_stops (instrs.Raw d x) = allocates_stops Raw d x
  action_stops (instrs.Mix d fields raw) = mixes_stops d fields raw
  action_stops (instrs.Weak d a) = bind (reference_in (register m a)) _ (reference_stops (register m a)) (λ i. tt)
  action_stops (instrs.Ld d a x) = bind (reference_in (register m a)) _ (reference_stops (register m a)) (λ i. bind (operand m x) _ (operand_stops x) (λ n. tt))
  action_stops (instrs.St a x b) = bind (reference_in (register m a)) _ (reference_stops (register m a)) (λ i. bind (operand m x) _ (operand_stops x) (λ n. tt))
  action_stops (instrs.Cas d a x b c) = bind (reference_in (register m a)) _ (reference_stops (register m a)) (λ i. bind (operand m x) _ (operand_stops x) (λ n. tt))
  action_stops (instrs.Len d a) = bind (reference_in (register m a)) _ (reference_stops (register m a)) (λ i. tt)
  action_stops (instrs.Get d x) = bind (board_place m x) _ (board_stops x) (λ n. tt)
  action_stops (instrs.Put x a) = bind (board_place m x) _ (board_stops x) (λ n. tt)
  action_stops (instrs.Swap d x) = bind (board_place m x) _ (board_stops x) (λ n. tt)
  action_stops (instrs.Out a) = bind (as_number (register m a)) _ (number_stops (register m a)) (λ n. if_else (Prints n) OutputFull (nat_lt (length m.printed) MOST_PRINTED) tt)
  action_stops _ = tt

-- an instruction that ends so by its registers
pub its_end : (m : Mutator) (i : Instr) (why : End) → action m i ≡ Err why → MayStop why
its_end m i why is = subst (λ (o : Result Action End). Stops o) is (action_stops m i)
