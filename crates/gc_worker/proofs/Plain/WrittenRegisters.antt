-- The register that an action writes is one of the eight.
use Rattle.std.proofs.Common.{◌≡◌, ℕ, ◌<◌, Bool, true, false, nat_lt, length, Result, refl}
use Rattle.std.specs.Prelude.{⊤, ◌&&◌, IsTrue}
use Rattle.std.specs.Result.{IfOk}
use Rattle.std.proofs.lemmas.Bool.{ltb-true, and_parts}
use Rattle.plain_state.specs.declared.end.End.{End}
use Rattle.plain_state.specs.declared.kind.Kind.{Kind}
use Rattle.plain_state.specs.declared.kind.Kind.TheVariants.{Fields, Raw}
use Rattle.plain_state.specs.declared.operation.Operation.{Operation}
use Rattle.plain_state.specs.declared.operation.Operation.TheVariants as operations
use Rattle.plain_state.specs.declared.sizes.TheConstants.{REGISTERS, MOST_PRINTED}
use Rattle.plain_state.specs.Operation.{applied}
use Rattle.plain_state.specs.State.{Mutator}
use Rattle.mutator_asm.specs.declared.instr.Instr.{Instr}
use Rattle.mutator_asm.specs.declared.instr.Instr.TheVariants as instrs
use Rattle.mutator_asm.specs.declared.operand.Operand.{Operand}
use Rattle.mutator_asm.specs.Program.{is_valid, is_register, is_operand}
use Rattle.plain_heap.specs.declared.action.Action.{Action}
use Rattle.plain_heap.specs.declared.action.Action.TheVariants.{Sets, Links, Makes, Measures, Loads, Compares, Gets, Swaps}
use Rattle.plain_heap.specs.Action.{register, as_number, reference_in, operand, length_of, board_place, computes, allocates, prints, action, mixed_length, mixes}
use Rattle.plain_heap.proofs.Calls.CallOutcomes.{if_ok-bind}

-- where it writes one
abbrev pub WritesRegister : Action → Type 0
WritesRegister (Sets d v) = d < REGISTERS
WritesRegister (Links d target) = d < REGISTERS
WritesRegister (Makes kind d n v) = d < REGISTERS
WritesRegister (Measures d i) = d < REGISTERS
WritesRegister (Loads d i x) = d < REGISTERS
WritesRegister (Compares d i x expected v) = d < REGISTERS
WritesRegister (Gets d x) = d < REGISTERS
WritesRegister (Swaps d x v) = d < REGISTERS
WritesRegister act = ⊤

abbrev Writes : Result Action End → Type 0
Writes o = IfOk o WritesRegister

first : (d : ℕ) (b : Bool) → (is_register d && b) ≡ true → d < REGISTERS
first d b valid = ltb-true d REGISTERS (and_parts (is_register d) b valid).0

first_of_three : (d a : ℕ) (b : Bool) → ((is_register d && is_register a) && b) ≡ true → d < REGISTERS
first_of_three d a b valid = first d (is_register a) (and_parts (is_register d && is_register a) b valid).0

module _ (q : Mutator) where
  computed : (operation : Operation) (d a b : ℕ) → d < REGISTERS → Writes (computes operation q d a b)
  computed operation d a b small =
      if_ok-bind WritesRegister (as_number (register q a)) _ (λ x. if_ok-bind WritesRegister (as_number (register q b)) _ (λ y. if_ok-bind WritesRegister (applied operation x y) _ (λ n. small)))

  allocated : (kind : Kind) (d : ℕ) (x : Operand) → d < REGISTERS → Writes (allocates q kind d x)
  allocated kind d x small = if_ok-bind WritesRegister (operand q x) _ (λ y. if_ok-bind WritesRegister (length_of y) _ (λ n. small))

  mixed : (d : ℕ) (fields raw : Operand) → d < REGISTERS → Writes (mixes q d fields raw)
  mixed d fields raw small =
      if_ok-bind WritesRegister (operand q fields) _ (λ f. if_ok-bind WritesRegister (operand q raw) _ (λ r. if_ok-bind WritesRegister (mixed_length f r) _ (λ n. small)))

  printed : (n : ℕ) (few : Bool) → nat_lt (length q.printed) MOST_PRINTED ≡ few → Writes (prints q n)
  printed n true few = rw few tt
  printed n false few = rw few tt

  pub writes_register : (i : Instr) → IsTrue (is_valid i) → IfOk (action q i) WritesRegister
  unfolding action
  writes_register (instrs.Li d n) valid = first d _ valid
  writes_register (instrs.Mov d a) valid = first d _ valid
  writes_register (instrs.Add d a b) valid = computed operations.Add d a b (first_of_three d a (is_register b) valid)
  writes_register (instrs.Sub d a b) valid = computed operations.Sub d a b (first_of_three d a (is_register b) valid)
  writes_register (instrs.Mul d a b) valid = computed operations.Mul d a b (first_of_three d a (is_register b) valid)
  writes_register (instrs.Div d a b) valid = computed operations.Div d a b (first_of_three d a (is_register b) valid)
  writes_register (instrs.Rem d a b) valid = computed operations.Rem d a b (first_of_three d a (is_register b) valid)
  writes_register (instrs.Lt d a b) valid = computed operations.Lt d a b (first_of_three d a (is_register b) valid)
  writes_register (instrs.Eq d a b) valid = first_of_three d a (is_register b) valid
  writes_register (instrs.Jal d target) valid = first d _ valid
  writes_register (instrs.Jr a) valid = if_ok-bind WritesRegister (as_number (register q a)) _ (λ n. tt)
  writes_register (instrs.New d x) valid = allocated Fields d x (first d _ valid)
  writes_register (instrs.Raw d x) valid = allocated Raw d x (first d _ valid)
  writes_register (instrs.Mix d fields raw) valid = mixed d fields raw (first d (is_operand fields) (and_parts (is_register d && is_operand fields) (is_operand raw) valid).0)
  writes_register (instrs.Weak d a) valid = if_ok-bind WritesRegister (reference_in (register q a)) _ (λ i. first d _ valid)
  writes_register (instrs.Ld d a x) valid = if_ok-bind WritesRegister (reference_in (register q a)) _ (λ i. if_ok-bind WritesRegister (operand q x) _ (λ y. first_of_three d a (is_operand x) valid))
  writes_register (instrs.St a x b) valid = if_ok-bind WritesRegister (reference_in (register q a)) _ (λ i. if_ok-bind WritesRegister (operand q x) _ (λ y. tt))
  writes_register (instrs.Cas d a x b c) valid =
      let l = and_parts (is_register d && is_register a && is_operand x && is_register b) (is_register c) valid in
      let n = and_parts (is_register d && is_register a && is_operand x) (is_register b) l.0 in
      if_ok-bind WritesRegister (reference_in (register q a)) _ (λ i. if_ok-bind WritesRegister (operand q x) _ (λ y. first_of_three d a (is_operand x) n.0))
  writes_register (instrs.Len d a) valid = if_ok-bind WritesRegister (reference_in (register q a)) _ (λ i. first d _ valid)
  writes_register (instrs.Isp d a) valid = first d _ valid
  writes_register (instrs.Get d x) valid = if_ok-bind WritesRegister (board_place q x) _ (λ y. first d _ valid)
  writes_register (instrs.Put x a) valid = if_ok-bind WritesRegister (board_place q x) _ (λ y. tt)
  writes_register (instrs.Swap d x) valid = if_ok-bind WritesRegister (board_place q x) _ (λ y. first d _ valid)
  writes_register (instrs.Out a) valid = if_ok-bind WritesRegister (as_number (register q a)) _ (λ n. printed n (nat_lt (length q.printed) MOST_PRINTED) refl)
  writes_register _ valid = tt
