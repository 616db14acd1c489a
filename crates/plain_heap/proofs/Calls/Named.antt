-- What holds of each value in a mutator's registers holds of each that an action names.
use Rattle.std.proofs.Common.{◌≡◌, ℕ, ◌+◌, ◌<◌, ◌≤◌, Bool, true, false, cond, nat_lt, nat_le, length, Result, refl, arith}
use Rattle.std.specs.Bool.{⊤}
use Rattle.std.specs.Result.{IfOk}
use Rattle.std.proofs.lemmas.Bool.{ltb-true, leb-true}
use Rattle.plain_state.specs.declared.end.End.{End}
use Rattle.plain_state.specs.declared.kind.Kind.{Kind}
use Rattle.plain_state.specs.declared.kind.Kind.TheVariants.{Fields, Raw, Mixed, Weak}
use Rattle.plain_state.specs.declared.operation.Operation.{Operation}
use Rattle.plain_state.specs.declared.operation.Operation.TheVariants as operations
use Rattle.plain_state.specs.declared.sizes.TheConstants.{MOST_PRINTED, LONGEST_RECORD, BOARD_WORDS}
use Rattle.plain_state.specs.declared.value.Identity.{Identity}
use Rattle.plain_state.specs.declared.value.Value.{Value}
use Rattle.plain_state.specs.declared.value.Value.TheVariants.{Number, Reference}
use Rattle.plain_state.specs.Operation.{one_if, applied}
use Rattle.plain_state.specs.State.{Mutator}
use Rattle.mutator_asm.specs.declared.instr.Instr.{Instr}
use Rattle.mutator_asm.specs.declared.instr.Instr.TheVariants as instrs
use Rattle.mutator_asm.specs.declared.operand.Operand.{Operand}
use Rattle.plain_heap.specs.declared.action.Action.{Action}
use Rattle.plain_heap.specs.declared.action.Action.TheVariants.{Sets, Jumps, Links, Prints, Makes, Measures, Loads, Stores, Compares, Gets, Puts, Swaps, Snaps}
use Rattle.plain_heap.specs.Action.{◌>>=◌, register, as_number, reference_in, is_zero, is_reference, are_same, operand, next_of, length_of, in_record, on_board, board_place, computes, allocates, mixed_length, mixes, prints, action}
use Rattle.plain_heap.specs.Alone.{leaves_board}
use Rattle.plain_heap.proofs.Calls.CallOutcomes.{if_ok-bind, if_ok-then}

-- P holds of the numbers that an instruction spells, and B where it names the board
abbrev pub Spells : (Value → Type 0) → Type 0 → Instr → Type 0
Spells P B (instrs.Li d n) = P (Number n)
Spells P B (instrs.Jmp target) = P (Number target)
Spells P B (instrs.Jz a target) = P (Number target)
Spells P B (instrs.Jal d target) = P (Number target)
Spells P B (instrs.Get d x) = B
Spells P B (instrs.Put x a) = B
Spells P B (instrs.Swap d x) = B
Spells P B _ = ⊤

-- an instruction that leaves the board alone spells numbers alone
pub spells_numbers : (P : Value → Type 0) (B : Type 0) → ((n : ℕ) → P (Number n)) → (i : Instr) → leaves_board i ≡ true → Spells P B i
spells_numbers P B number (instrs.Li d n) leaves = number n
spells_numbers P B number (instrs.Jmp target) leaves = number target
spells_numbers P B number (instrs.Jz a target) leaves = number target
spells_numbers P B number (instrs.Jal d target) leaves = number target
spells_numbers P B number (instrs.Get d x) leaves = cc
spells_numbers P B number (instrs.Put x a) leaves = cc
spells_numbers P B number (instrs.Swap d x) leaves = cc
spells_numbers P B number _ leaves = tt

-- a new record of this kind may have so many values: a mixed one has its fields among them, and a word more for their count; a cell has one
abbrev pub FitsKind : Kind → (values : ℕ) → Type 0
FitsKind (Mixed fields) values = (values < LONGEST_RECORD) × (fields ≤ values)
FitsKind Weak values = values ≡ 1
FitsKind _ values = values ≤ LONGEST_RECORD

pub fits-short : (kind : Kind) (values : ℕ) → FitsKind kind values → values ≤ LONGEST_RECORD
fits-short Fields values fits = fits
fits-short Raw values fits = fits
fits-short (Mixed fields) values fits = omega (arith, fits)
fits-short Weak values fits = omega (arith, fits)

-- each value of a new record of this kind is one of which P holds, if it is a cell, else the number 0
abbrev pub FillsKind : (Value → Type 0) → Kind → Value → Type 0
FillsKind P Weak v = P v
FillsKind P _ v = v ≡ Number 0

-- P holds of the values, targets and records that an action names, and B where it names the board;
-- lengths, words of the board and what is printed are in range
abbrev pub Names : (Value → Type 0) → Type 0 → Mutator → Action → Type 0
Names P B k (Sets d v) = P v
Names P B k (Jumps target) = P (Number target)
Names P B k (Links d target) = P (Number target)
Names P B k (Prints n) = P (Number n) × (length k.printed < MOST_PRINTED)
Names P B k (Makes kind d n v) = FitsKind kind n × FillsKind P kind v
Names P B k (Measures d i) = P (Reference i)
Names P B k (Loads d i x) = P (Reference i)
Names P B k (Stores i x v) = P (Reference i) × P v
Names P B k (Compares d i x expected new) = P (Reference i) × P expected × P new
Names P B k (Gets d x) = B × (x < BOARD_WORDS)
Names P B k (Puts x v) = B × (x < BOARD_WORDS) × P v
Names P B k (Swaps d x v) = B × (x < BOARD_WORDS) × P v
Names P B k Snaps = ⊤

length_of-short : (n : ℕ) (short : Bool) → nat_le n LONGEST_RECORD ≡ short → IfOk (length_of n) (λ n. n ≤ LONGEST_RECORD)
length_of-short n true is = rw is (leb-true n LONGEST_RECORD is)
length_of-short n false is = rw is tt

mixed_length-fits : (fields raw : ℕ) (short : Bool) → nat_lt (fields + raw) LONGEST_RECORD ≡ short → IfOk (mixed_length fields raw) (FitsKind (Mixed fields))
mixed_length-fits fields raw true is = rw is (ltb-true (fields + raw) LONGEST_RECORD is, omega arith)
mixed_length-fits fields raw false is = rw is tt

in_record-within : (len x : ℕ) (within : Bool) → nat_lt x len ≡ within → IfOk (in_record len x) (λ y. y < len)
in_record-within len x true is = rw is (ltb-true x len is)
in_record-within len x false is = rw is tt

module _ (P : Value → Type 0) (B : Type 0) (k : Mutator) (held : (r : ℕ) → P (register k r)) (next : P (Number (next_of k))) (truth : (b : Bool) → P (Number (one_if b)))
    (computed : (operation : Operation) (a b : ℕ) → P (Number a) → P (Number b) → IfOk (applied operation a b) (λ n. P (Number n))) where
  abbrev Named : Action → Type 0
  Named = Names P B k

  number_as : (v : Value) → P v → IfOk (as_number v) (λ n. P (Number n))
  number_as (Number n) is = is
  number_as (Reference i) is = tt

  reference_as : (v : Value) → P v → IfOk (reference_in v) (λ i. P (Reference i))
  reference_as (Number n) is = tt
  reference_as (Reference i) is = is

  with_number : (a : ℕ) (f : ℕ → Result Action End) → ((n : ℕ) → P (Number n) → IfOk (f n) Named) → IfOk (as_number (register k a) >>= f) Named
  with_number a f next = if_ok-then (λ n. P (Number n)) Named (as_number (register k a)) f (number_as (register k a) (held a)) next

  computes-named : (operation : Operation) (d a b : ℕ) → IfOk (computes operation k d a b) Named
  computes-named operation d a b =
      with_number a _ (λ x is_x. with_number b _ (λ y is_y. if_ok-then (λ n. P (Number n)) Named (applied operation x y) _ (computed operation x y is_x is_y) (λ n is. is)))

  allocates-named : (kind : Kind) (d : ℕ) (x : Operand) → ((n : ℕ) → n ≤ LONGEST_RECORD → FitsKind kind n × FillsKind P kind (Number 0)) → IfOk (allocates k kind d x) Named
  allocates-named kind d x fits =
      if_ok-bind Named (operand k x) _ (λ y. if_ok-then (λ n. n ≤ LONGEST_RECORD) Named (length_of y) _ (length_of-short y (nat_le y LONGEST_RECORD) refl) fits)

  mixes-named : (d : ℕ) (fields raw : Operand) → IfOk (mixes k d fields raw) Named
  mixes-named d fields raw =
      if_ok-bind Named (operand k fields) _ (λ f. if_ok-bind Named (operand k raw) _ (λ r.
      if_ok-then (FitsKind (Mixed f)) Named (mixed_length f r) _ (mixed_length-fits f r (nat_lt (f + r) LONGEST_RECORD) refl) (λ n fits. (fits, refl))))

  with_reference : (a : ℕ) (f : Identity → Result Action End) → ((i : Identity) → P (Reference i) → IfOk (f i) Named) → IfOk (reference_in (register k a) >>= f) Named
  with_reference a f next = if_ok-then (λ i. P (Reference i)) Named (reference_in (register k a)) f (reference_as (register k a) (held a)) next

  on_board-within : (x : Operand) → IfOk (board_place k x) (λ y. y < BOARD_WORDS)
  on_board-within x = if_ok-bind (λ y. y < BOARD_WORDS) (operand k x) on_board (λ y. in_record-within BOARD_WORDS y (nat_lt y BOARD_WORDS) refl)

  with_board_place : (x : Operand) (f : ℕ → Result Action End) → ((y : ℕ) → y < BOARD_WORDS → IfOk (f y) Named) → IfOk (board_place k x >>= f) Named
  with_board_place x f next = if_ok-then (λ y. y < BOARD_WORDS) Named (board_place k x) f (on_board-within x) next

  prints_as : (n : ℕ) (few : Bool) → P (Number n) → nat_lt (length k.printed) MOST_PRINTED ≡ few → IfOk (prints k n) Named
  prints_as n true is few = rw few (is, ltb-true (length k.printed) MOST_PRINTED few)
  prints_as n false is few = rw few tt

  target_as : (target : ℕ) (b : Bool) → P (Number target) → P (Number (cond b target (next_of k)))
  target_as target true is = is
  target_as target false is = next

  pub named : (i : Instr) → Spells P B i → IfOk (action k i) Named
  unfolding action
  named (instrs.Mov d a) is = held a
  named (instrs.Add d a b) is = computes-named operations.Add d a b
  named (instrs.Sub d a b) is = computes-named operations.Sub d a b
  named (instrs.Mul d a b) is = computes-named operations.Mul d a b
  named (instrs.Div d a b) is = computes-named operations.Div d a b
  named (instrs.Rem d a b) is = computes-named operations.Rem d a b
  named (instrs.Lt d a b) is = computes-named operations.Lt d a b
  named (instrs.Eq d a b) is = truth (are_same (register k a) (register k b))
  named (instrs.Jz a target) is = target_as target (is_zero (register k a)) is
  named (instrs.Jr a) is = with_number a _ (λ n is_n. is_n)
  named (instrs.New d x) is = allocates-named Fields d x (λ n short. (short, refl))
  named (instrs.Raw d x) is = allocates-named Raw d x (λ n short. (short, refl))
  named (instrs.Mix d fields raw) is = mixes-named d fields raw
  named (instrs.Weak d a) is = with_reference a _ (λ i is_i. (refl, is_i))
  named (instrs.Ld d a x) is = with_reference a _ (λ i is_i. if_ok-bind Named (operand k x) _ (λ y. is_i))
  named (instrs.St a x b) is = with_reference a _ (λ i is_i. if_ok-bind Named (operand k x) _ (λ y. (is_i, held b)))
  named (instrs.Cas d a x b c) is = with_reference a _ (λ i is_i. if_ok-bind Named (operand k x) _ (λ y. (is_i, held b, held c)))
  named (instrs.Len d a) is = with_reference a _ (λ i is_i. is_i)
  named (instrs.Isp d a) is = truth (is_reference (register k a))
  named (instrs.Get d x) is = with_board_place x _ (λ y within. (is, within))
  named (instrs.Put x a) is = with_board_place x _ (λ y within. (is, within, held a))
  named (instrs.Swap d x) is = with_board_place x _ (λ y within. (is, within, held d))
  named (instrs.Out a) is = with_number a _ (λ n is_n. prints_as n (nat_lt (length k.printed) MOST_PRINTED) is_n refl)
  named instrs.Snap is = tt
  named instrs.Halt is = tt
  named _ is = is
