-- What a worker sees of its registers leads to the plain machine's own action, with identities in place of addresses.
use Rattle.std.proofs.Common.{◌≡◌, ℕ, ◌<◌, ◌&&◌, Bool, true, false, cond, nat_lt, length, Result, Ok, Err, refl, ap, ◌∙◌}
use Rattle.std.specs.Prelude.{IsTrue}
use Rattle.std.proofs.lemmas.Bool.{ltb-true, and_parts}
use Rattle.plain_state.specs.declared.end.End.{End}
use Rattle.plain_state.specs.declared.end.End.TheVariants.{OutputFull}
use Rattle.plain_state.specs.declared.kind.Kind.{Kind}
use Rattle.plain_state.specs.declared.kind.Kind.TheVariants.{Fields, Raw}
use Rattle.plain_state.specs.declared.operation.Operation.{Operation}
use Rattle.plain_state.specs.declared.operation.Operation.TheVariants as operations
use Rattle.plain_state.specs.declared.sizes.TheConstants.{REGISTERS, MOST_PRINTED}
use Rattle.plain_state.specs.declared.value.Identity.{Identity}
use Rattle.plain_state.specs.declared.value.Value.{Value}
use Rattle.plain_state.specs.declared.value.Value.TheVariants.{Number, Reference}
use Rattle.plain_state.specs.Operation.{applied, one_if}
use Rattle.plain_state.specs.State.{Mutator}
use Rattle.mutator_asm.specs.declared.instr.Instr.{Instr}
use Rattle.mutator_asm.specs.declared.instr.Instr.TheVariants as instrs
use Rattle.mutator_asm.specs.declared.operand.Operand.{Operand}
use Rattle.mutator_asm.specs.declared.operand.Operand.TheVariants as operands
use Rattle.mutator_asm.specs.Program.{is_valid, is_register, is_operand}
use Rattle.plain_heap.specs.declared.action.Action.{Action}
use Rattle.plain_heap.specs.declared.action.Action.TheVariants.{Sets, Jumps, Links, Prints, Makes, Measures, Loads, Stores, Compares, Gets, Puts, Swaps, Snaps}
use Rattle.plain_heap.specs.Action.{◌>>=◌, register, as_number, reference_in, is_zero, is_reference, are_same, operand, next_of, length_of, on_board, board_place, computes, allocates, prints, action, mixed_length, mixes}

-- ---- what the plain machine has for what a worker sees

abbrev pub plain_value : (ℕ → Identity) → Value → Value
plain_value identity (Number n) = Number n
plain_value identity (Reference i) = Reference (identity i.serial)

abbrev pub plain_action : (ℕ → Identity) → Action → Action
plain_action identity (Sets d v) = Sets d (plain_value identity v)
plain_action identity (Jumps target) = Jumps target
plain_action identity (Links d target) = Links d target
plain_action identity (Prints n) = Prints n
plain_action identity Snaps = Snaps
plain_action identity (Makes kind d n v) = Makes kind d n (plain_value identity v)
plain_action identity (Measures d i) = Measures d (identity i.serial)
plain_action identity (Loads d i x) = Loads d (identity i.serial) x
plain_action identity (Stores i x v) = Stores (identity i.serial) x (plain_value identity v)
plain_action identity (Compares d i x expected v) = Compares d (identity i.serial) x (plain_value identity expected) (plain_value identity v)
plain_action identity (Gets d x) = Gets d x
plain_action identity (Puts x v) = Puts x (plain_value identity v)
plain_action identity (Swaps d x v) = Swaps d x (plain_value identity v)

abbrev pub plain_outcome : (ℕ → Identity) → Result Action End → Result Action End
plain_outcome identity (Ok act) = Ok (plain_action identity act)
plain_outcome identity (Err why) = Err why

-- ---- of two mutators alike

module _ (identity : ℕ → Identity) (v : Value) where
  same_number : as_number (plain_value identity v) ≡ as_number v
  same_number = by_value v
    where
      by_value : (u : Value) → as_number (plain_value identity u) ≡ as_number u
      by_value (Number n) = refl
      by_value (Reference i) = refl

  same_zero : is_zero (plain_value identity v) ≡ is_zero v
  same_zero = by_value v
    where
      by_value : (u : Value) → is_zero (plain_value identity u) ≡ is_zero u
      by_value (Number n) = refl
      by_value (Reference i) = refl

  same_reference : is_reference (plain_value identity v) ≡ is_reference v
  same_reference = by_value v
    where
      by_value : (u : Value) → is_reference (plain_value identity u) ≡ is_reference u
      by_value (Number n) = refl
      by_value (Reference i) = refl

-- The registers of q hold what those of m do, with identities in place of addresses; which of them are the same is the same; and both are at
-- the same instruction, and have printed as many numbers.
pub record AreAlikeBy (identity : ℕ → Identity) (m q : Mutator) : Type 0 where
  pub values : (r : ℕ) → r < REGISTERS → register q r ≡ plain_value identity (register m r)
  pub same : (a b : ℕ) → a < REGISTERS → b < REGISTERS → are_same (register q a) (register q b) ≡ are_same (register m a) (register m b)
  pub next : next_of q ≡ next_of m
  pub printed : length q.printed ≡ length m.printed

module _ (identity : ℕ → Identity) (m q : Mutator) (alike : AreAlikeBy identity m q) where
  -- the second outcome is the first one's
  abbrev Same : Result Action End → Result Action End → Type 0
  Same o p = p ≡ plain_outcome identity o

  through : {A : Type 0} (o : Result A End) (f g : A → Result Action End) → ((a : A) → Same (f a) (g a)) → Same (o >>= f) (o >>= g)
  through (Ok a) f g next = next a
  through (Err why) f g next = refl

  number_as : (a : ℕ) → a < REGISTERS → as_number (register q a) ≡ as_number (register m a)
  number_as a small = ap as_number (alike.values a small) ∙ same_number identity (register m a)

  with_number : (a : ℕ) → a < REGISTERS → (f g : ℕ → Result Action End) → ((n : ℕ) → Same (f n) (g n))
      → Same (as_number (register m a) >>= f) (as_number (register q a) >>= g)
  with_number a small f g next = ap (λ (o : Result ℕ End). o >>= g) (number_as a small) ∙ through (as_number (register m a)) f g next

  operand_as : (x : Operand) → is_operand x ≡ true → operand q x ≡ operand m x
  operand_as (operands.Reg r) valid = number_as r (ltb-true r REGISTERS valid)
  operand_as (operands.Number n) valid = refl

  with_operand : (x : Operand) → is_operand x ≡ true → (f g : ℕ → Result Action End) → ((n : ℕ) → Same (f n) (g n))
      → Same (operand m x >>= f) (operand q x >>= g)
  with_operand x valid f g next = ap (λ (o : Result ℕ End). o >>= g) (operand_as x valid) ∙ through (operand m x) f g next

  by_reference : (v : Value) (f g : Identity → Result Action End) → ((i : Identity) → Same (f i) (g (identity i.serial)))
      → Same (reference_in v >>= f) (reference_in (plain_value identity v) >>= g)
  by_reference (Number n) f g next = refl
  by_reference (Reference i) f g next = next i

  with_reference : (a : ℕ) → a < REGISTERS → (f g : Identity → Result Action End) → ((i : Identity) → Same (f i) (g (identity i.serial)))
      → Same (reference_in (register m a) >>= f) (reference_in (register q a) >>= g)
  with_reference a small f g next = ap (λ (v : Value). reference_in v >>= g) (alike.values a small) ∙ by_reference (register m a) f g next

  with_board_place : (x : Operand) → is_operand x ≡ true → (f g : ℕ → Result Action End) → ((n : ℕ) → Same (f n) (g n))
      → Same (board_place m x >>= f) (board_place q x >>= g)
  with_board_place x valid f g next = ap (λ (o : Result ℕ End). o >>= on_board >>= g) (operand_as x valid) ∙ through (board_place m x) f g next

  computed : (operation : Operation) (d a b : ℕ) → a < REGISTERS → b < REGISTERS → Same (computes operation m d a b) (computes operation q d a b)
  computed operation d a b small_a small_b = with_number a small_a _ _ (λ x. with_number b small_b _ _ (λ y. through (applied operation x y) _ _ (λ n. refl)))

  allocated : (kind : Kind) (d : ℕ) (x : Operand) → is_operand x ≡ true → Same (allocates m kind d x) (allocates q kind d x)
  allocated kind d x valid = with_operand x valid _ _ (λ n. through (length_of n) _ _ (λ len. refl))

  mixed : (d : ℕ) (fields raw : Operand) → is_operand fields ≡ true → is_operand raw ≡ true → Same (mixes m d fields raw) (mixes q d fields raw)
  mixed d fields raw valid_fields valid_raw =
      with_operand fields valid_fields _ _ (λ f. with_operand raw valid_raw _ _ (λ r. through (mixed_length f r) _ _ (λ len. refl)))

  printing : (n : ℕ) (few : Bool) → Same (cond few (Ok (Prints n)) (Err OutputFull)) (cond few (Ok (Prints n)) (Err OutputFull))
  printing n true = refl
  printing n false = refl

  printed : (n : ℕ) → Same (prints m n) (prints q n)
  printed n = ap (λ (l : ℕ). cond (nat_lt l MOST_PRINTED) (Ok (Prints n)) (Err OutputFull)) alike.printed ∙ printing n (nat_lt (length m.printed) MOST_PRINTED)

  -- ---- by instructions

  is_small : (r : ℕ) → is_register r ≡ true → r < REGISTERS
  is_small r valid = ltb-true r REGISTERS valid

  second : (d : ℕ) (b : Bool) → (is_register d && b) ≡ true → b ≡ true
  second d b valid = (and_parts (is_register d) b valid).1

  computed_of : (operation : Operation) (d a b : ℕ) → (is_register d && is_register a && is_register b) ≡ true → Same (computes operation m d a b) (computes operation q d a b)
  computed_of operation d a b valid = let l = and_parts (is_register d && is_register a) (is_register b) valid in
      computed operation d a b (is_small a (second d (is_register a) l.0)) (is_small b l.1)

  pub acts_alike : (i : Instr) → IsTrue (is_valid i) → action q i ≡ plain_outcome identity (action m i)
  unfolding action
  acts_alike (instrs.Mov d a) valid = ap (λ (v : Value). Ok (Sets d v)) (alike.values a (is_small a (second d _ valid)))
  acts_alike (instrs.Add d a b) valid = computed_of operations.Add d a b valid
  acts_alike (instrs.Sub d a b) valid = computed_of operations.Sub d a b valid
  acts_alike (instrs.Mul d a b) valid = computed_of operations.Mul d a b valid
  acts_alike (instrs.Div d a b) valid = computed_of operations.Div d a b valid
  acts_alike (instrs.Rem d a b) valid = computed_of operations.Rem d a b valid
  acts_alike (instrs.Lt d a b) valid = computed_of operations.Lt d a b valid
  acts_alike (instrs.Eq d a b) valid = let l = and_parts (is_register d && is_register a) (is_register b) valid in
      ap (λ (same : Bool). Ok (Sets d (Number (one_if same)))) (alike.same a b (is_small a (second d (is_register a) l.0)) (is_small b l.1))
  acts_alike (instrs.Jz a target) valid =
      let l = and_parts (is_register a) _ valid in
      let zero_is = ap is_zero (alike.values a (is_small a l.0)) ∙ same_zero identity (register m a) in
      λ i. Ok (Jumps (cond (zero_is i) target (alike.next i)))
  acts_alike (instrs.Jr a) valid = with_number a (is_small a valid) _ _ (λ n. refl)
  acts_alike (instrs.New d x) valid = allocated Fields d x (second d _ valid)
  acts_alike (instrs.Raw d x) valid = allocated Raw d x (second d _ valid)
  acts_alike (instrs.Mix d fields raw) valid = let l = and_parts (is_register d && is_operand fields) (is_operand raw) valid in mixed d fields raw (second d (is_operand fields) l.0) l.1
  acts_alike (instrs.Weak d a) valid = with_reference a (is_small a (second d _ valid)) _ _ (λ i. refl)
  acts_alike (instrs.Ld d a x) valid = let l = and_parts (is_register d && is_register a) (is_operand x) valid in
      with_reference a (is_small a (second d (is_register a) l.0)) _ _ (λ i. with_operand x l.1 _ _ (λ n. refl))
  acts_alike (instrs.St a x b) valid =
      let l = and_parts (is_register a && is_operand x) (is_register b) valid in
      let n = and_parts (is_register a) (is_operand x) l.0 in
      with_reference a (is_small a n.0) _ _ (λ i. with_operand x n.1 _ _ (λ y. ap (λ (v : Value). Ok (Stores (identity i.serial) y v)) (alike.values b (is_small b l.1))))
  acts_alike (instrs.Cas d a x b c) valid =
      let all = and_parts (is_register d && is_register a && is_operand x && is_register b) (is_register c) valid in
      let l = and_parts (is_register d && is_register a && is_operand x) (is_register b) all.0 in
      let n = and_parts (is_register d && is_register a) (is_operand x) l.0 in
      with_reference a (is_small a (second d (is_register a) n.0)) _ _ (λ i. with_operand x n.1 _ _ (λ y.
      λ t. Ok (Compares d (identity i.serial) y (alike.values b (is_small b l.1) t) (alike.values c (is_small c all.1) t))))
  acts_alike (instrs.Len d a) valid = with_reference a (is_small a (second d _ valid)) _ _ (λ i. refl)
  acts_alike (instrs.Isp d a) valid =
      ap (λ (is : Bool). Ok (Sets d (Number (one_if is)))) (ap is_reference (alike.values a (is_small a (second d _ valid))) ∙ same_reference identity (register m a))
  acts_alike (instrs.Get d x) valid = with_board_place x (second d _ valid) _ _ (λ n. refl)
  acts_alike (instrs.Put x a) valid = let l = and_parts (is_operand x) (is_register a) valid in
      with_board_place x l.0 _ _ (λ n. ap (λ (v : Value). Ok (Puts n v)) (alike.values a (is_small a l.1)))
  acts_alike (instrs.Swap d x) valid = let l = and_parts (is_register d) (is_operand x) valid in
      with_board_place x l.1 _ _ (λ n. ap (λ (v : Value). Ok (Swaps d n v)) (alike.values d (is_small d l.0)))
  acts_alike (instrs.Out a) valid = with_number a (is_small a valid) _ _ (λ n. printed n)
  acts_alike _ valid = refl
