-- Of which instruction an action is: who makes a record is `new`, `raw`, `mix` or `weak`, the last of which makes a cell, and who begins a checkpoint is `snap`.
use Rattle.std.proofs.Common.{◌≡◌, ℕ, Bool, true, false, cond, nat_lt, length, Result, Ok, Err, refl}
use Rattle.std.specs.Bool.{⊤}
use Rattle.std.specs.Result.{IfOk}
use Rattle.plain_state.specs.declared.end.End.{End}
use Rattle.plain_state.specs.declared.end.End.TheVariants.{OutputFull}
use Rattle.plain_state.specs.declared.kind.Kind.{Kind}
use Rattle.plain_state.specs.declared.kind.Kind.TheVariants.{Fields, Raw}
use Rattle.plain_state.specs.declared.operation.Operation.{Operation}
use Rattle.plain_state.specs.declared.operation.Operation.TheVariants as operations
use Rattle.plain_state.specs.declared.sizes.TheConstants.{MOST_PRINTED}
use Rattle.plain_state.specs.declared.value.Value.TheVariants.{Number}
use Rattle.plain_state.specs.Operation.{applied}
use Rattle.plain_state.specs.State.{Mutator}
use Rattle.mutator_asm.specs.declared.instr.Instr.{Instr}
use Rattle.mutator_asm.specs.declared.instr.Instr.TheVariants as instrs
use Rattle.mutator_asm.specs.declared.operand.Operand.{Operand}
use Rattle.plain_heap.specs.declared.action.Action.{Action}
use Rattle.plain_heap.specs.declared.action.Action.TheVariants.{Prints, Makes, Snaps}
use Rattle.plain_heap.specs.Action.{◌>>=◌, action, allocates, as_number, board_place, computes, length_of, mixed_length, operand, reference_in, register}
use Rattle.plain_heap.specs.Call.{is_cell}
use Rattle.plain_heap.specs.Checkpoints.LastCheckpoint.{is_snap}
use Rattle.plain_heap.specs.Tracing.{is_weak}
use Rattle.plain_heap.proofs.Calls.CallOutcomes.{if_ok-bind}

-- the instruction makes a record
abbrev pub makes_record : Instr → Bool
makes_record (instrs.New d x) = true
makes_record (instrs.Raw d x) = true
makes_record (instrs.Mix d fields raw) = true
makes_record (instrs.Weak d a) = true
makes_record _ = false

-- the instruction may have the action
abbrev pub IsActionOf : Instr → Action → Type 0
IsActionOf i (Makes kind d n v) = (makes_record i ≡ true) × (is_cell kind ≡ is_weak i)
IsActionOf i Snaps = is_snap i ≡ true
IsActionOf i _ = ⊤

module _ (k : Mutator) (i : Instr) where
  abbrev May : Action → Type 0
  May = IsActionOf i

  -- whatever comes before
  next : {A : Type 0} (o : Result A End) (f : A → Result Action End) → ((a : A) → IfOk (f a) May) → IfOk (o >>= f) May
  next o f then = if_ok-bind May o f then

  computes_as : (operation : Operation) (d a b : ℕ) → IfOk (computes operation k d a b) May
  computes_as operation d a b = next (as_number (register k a)) _ (λ x. next (as_number (register k b)) _ (λ y. next (applied operation x y) _ (λ n. tt)))

  allocates_as : (kind : Kind) (d : ℕ) (x : Operand) → May (Makes kind d 0 (Number 0)) → IfOk (allocates k kind d x) May
  allocates_as kind d x is = next (operand k x) _ (λ y. next (length_of y) _ (λ n. is))

  prints_as : (n : ℕ) (few : Bool) → IfOk (cond few (Ok (Prints n)) (Err OutputFull)) May
  prints_as n true = tt
  prints_as n false = tt

module _ (k : Mutator) where
  pub is_action_of : (i : Instr) → IfOk (action k i) (IsActionOf i)
  unfolding action
  is_action_of (instrs.Add d a b) = computes_as k (instrs.Add d a b) operations.Add d a b
  is_action_of (instrs.Sub d a b) = computes_as k (instrs.Sub d a b) operations.Sub d a b
  is_action_of (instrs.Mul d a b) = computes_as k (instrs.Mul d a b) operations.Mul d a b
  is_action_of (instrs.Div d a b) = computes_as k (instrs.Div d a b) operations.Div d a b
  is_action_of (instrs.Rem d a b) = computes_as k (instrs.Rem d a b) operations.Rem d a b
  is_action_of (instrs.Lt d a b) = computes_as k (instrs.Lt d a b) operations.Lt d a b
  is_action_of (instrs.Jr a) = next k (instrs.Jr a) (as_number (register k a)) _ (λ n. tt)
  is_action_of (instrs.New d x) = allocates_as k (instrs.New d x) Fields d x (refl, refl)
  is_action_of (instrs.Raw d x) = allocates_as k (instrs.Raw d x) Raw d x (refl, refl)
  is_action_of (instrs.Mix d fields raw) =
      let i = instrs.Mix d fields raw in
      next k i (operand k fields) _ (λ f. next k i (operand k raw) _ (λ r. next k i (mixed_length f r) _ (λ n. (refl, refl))))
  is_action_of (instrs.Weak d a) = next k (instrs.Weak d a) (reference_in (register k a)) _ (λ j. (refl, refl))
  is_action_of (instrs.Ld d a x) = let i = instrs.Ld d a x in next k i (reference_in (register k a)) _ (λ j. next k i (operand k x) _ (λ y. tt))
  is_action_of (instrs.St a x b) = let i = instrs.St a x b in next k i (reference_in (register k a)) _ (λ j. next k i (operand k x) _ (λ y. tt))
  is_action_of (instrs.Cas d a x b c) = let i = instrs.Cas d a x b c in next k i (reference_in (register k a)) _ (λ j. next k i (operand k x) _ (λ y. tt))
  is_action_of (instrs.Len d a) = next k (instrs.Len d a) (reference_in (register k a)) _ (λ j. tt)
  is_action_of (instrs.Get d x) = next k (instrs.Get d x) (board_place k x) _ (λ y. tt)
  is_action_of (instrs.Put x a) = next k (instrs.Put x a) (board_place k x) _ (λ y. tt)
  is_action_of (instrs.Swap d x) = next k (instrs.Swap d x) (board_place k x) _ (λ y. tt)
  is_action_of (instrs.Out a) = next k (instrs.Out a) (as_number (register k a)) _ (λ n. prints_as k (instrs.Out a) n (nat_lt (length k.printed) MOST_PRINTED))
  is_action_of instrs.Snap = refl
  is_action_of _ = tt
