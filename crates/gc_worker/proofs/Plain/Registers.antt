-- What a running mutator sees of its registers is what the plain machine's registers have, with identities in place of addresses.
use Rattle.std.proofs.Common.{◌≡◌, ℕ, ◌+◌, ◌-◌, ◌*◌, ◌/◌, ◌%◌, ◌<◌, ◌≤◌, ◌==◌, Bool, true, false, nat_lt, nat_le, List, length, map, slice_get, slice_index, Some, None, Result, Ok, refl, ap, sym, subst, ◌∙◌, ◌⊎◌, inl, inr, arith}
use Rattle.std.specs.Prelude.{⊤, IsTrue}
use Rattle.std.specs.Result.{IfOk}
use Rattle.std.proofs.lemmas.Bool.{ltb-true, leb-true, and_parts, and_from, eqb-true, eq-eqb, cases_lt}
use Rattle.std.proofs.lemmas.List.{get_or-map, get_or_past, length-map}
use Rattle.std.proofs.lemmas.Option.{get_or_from_slice_get}
use Rattle.std.proofs.Math.Nat.{div-le_self, mod-le}
use Rattle.heap_words.specs.Decoded.{Decoded, NumberWord, PointerWord, decode}
use Rattle.heap_words.specs.Word.{number_word, pointer_word}
use Rattle.heap_words.proofs.Decoding.{decode-number_word}
use Rattle.heap_words.proofs.Ranges.{number_bounds}
use Rattle.heap_words.proofs.Spelling.{pointer_word-decode}
use Rattle.plain_state.specs.declared.end.End.{End}
use Rattle.plain_state.specs.declared.operation.Operation.{Operation}
use Rattle.plain_state.specs.declared.operation.Operation.TheVariants as operations
use Rattle.plain_state.specs.declared.sizes.TheConstants.{NUMBERS, REGISTERS}
use Rattle.plain_state.specs.declared.value.Identity.{Identity}
use Rattle.plain_state.specs.declared.value.Value.{Value}
use Rattle.plain_state.specs.declared.value.Value.TheVariants.{Number, Reference}
use Rattle.plain_state.specs.Operation.{one_if, divided_by, applied}
use Rattle.plain_state.specs.State.{Mutator, Plain}
use Rattle.mutator_asm.specs.declared.instr.Instr.{Instr}
use Rattle.mutator_asm.specs.declared.instr.Instr.TheVariants as instrs
use Rattle.mutator_asm.specs.Program.{is_valid, is_register, is_number}
use Rattle.plain_heap.specs.declared.action.Action.{Action}
use Rattle.plain_heap.specs.Action.{register, are_same, action}
use Rattle.plain_heap.proofs.Calls.Named.{Spells, Names, named}
use Rattle.heap_state.specs.Configuration.{Configuration, Stands, era, memory, team}
use Rattle.heap_state.specs.Meaning.Values.{value_of, value_said}
use Rattle.heap_state.specs.Known.{is_running}
use Rattle.heap_state.proofs.Puts.{none≢some}
use Rattle.heap_laws.specs.Fields.Effects.{RegisterHolds}
use Rattle.heap_laws.specs.Fields.Held.{HoldsValue}
use Rattle.heap_laws.proofs.Fields.SameWords.{same_words}
use Rattle.heap_laws.proofs.Fields.Shown.{numbers_are_held}
use Rattle.gc_worker.specs.Steps.Goes.{Is}
use Rattle.gc_worker.specs.Workers.Held.{Held}
use Rattle.gc_worker.specs.Workers.Knows.{post_in}
use Rattle.record_access.specs.Seen.{IsValueWord, IsValueAs, seen_as, value_seen, word_for}
use Rattle.gc_worker.specs.Plain.Seen.{seen}
use Rattle.gc_worker.proofs.Plain.Actions.{plain_value, plain_outcome, AreAlikeBy, acts_alike}
use Rattle.gc_worker.proofs.Plain.AnswerSteps.{IsIts, holds}
use Rattle.record_access.proofs.Read.{word_of_value_seen}
use Rattle.gc_worker.proofs.Words.RowSteps.{prepared}
use Rattle.gc_worker.proofs.Plain.WrittenRegisters.{WritesRegister, writes_register}

-- ---- words

-- a word that denotes a value is a number's or a pointer's
pub is_value : (identity : ℕ → Identity) (w : ℕ) (y : Value) → value_of identity w ≡ Some y → IsValueWord w
unfolding value_of
is_value identity w y e = by_word (decode w) e
  where
    by_word : (d : Decoded) → value_said identity d ≡ Some y → IsValueAs d
    by_word (NumberWord n) e = tt
    by_word (PointerWord a) e = tt
    by_word _ e = none≢some e

-- a number's word that denotes it is one of a number of the language
counts : (identity : ℕ → Identity) (n : ℕ) → value_of identity (number_word n) ≡ Some (Number n) → n < NUMBERS
unfolding value_of
counts identity n e = by_word (decode (number_word n)) refl e
  where
    by_word : (d : Decoded) → decode (number_word n) ≡ d → value_said identity d ≡ Some (Number n) → n < NUMBERS
    by_word (NumberWord m) is e = let l = number_bounds (number_word n) m is in let same : m ≡ n = cc in omega (arith, l, same)
    by_word (PointerWord a) is e = absurd (let e = e in cc)
    by_word _ is e = none≢some e

-- a pointer's word that denotes a reference is one
pub points : (identity : ℕ → Identity) (a : ℕ) (i : Identity) → value_of identity (pointer_word a) ≡ Some (Reference i) → decode (pointer_word a) ≡ PointerWord a
unfolding value_of pointer_word
points identity a i e = by_word (decode (pointer_word a)) refl e
  where
    by_word : (d : Decoded) → decode (pointer_word a) ≡ d → value_said identity d ≡ Some (Reference i) → decode (pointer_word a) ≡ PointerWord a
    by_word (NumberWord n) is e = absurd (let e = e in cc)
    by_word (PointerWord b) is e = let same = pointer_word-decode (pointer_word a) b is in is ∙ ap PointerWord (let z : b ≡ a = omega (arith, same) in z)
    by_word _ is e = none≢some e

-- ---- values

pub are_same-true : (v y : Value) → are_same v y ≡ true → v ≡ y
are_same-true (Number m) (Number n) e = ap Number (eqb-true m n e)
are_same-true (Number m) (Reference j) e = absurd (let e = e in cc)
are_same-true (Reference i) (Number n) e = absurd (let e = e in cc)
are_same-true (Reference i) (Reference j) e =
    let l = and_parts (i.mutator == j.mutator) (i.serial == j.serial) e in
    let mutator = eqb-true i.mutator j.mutator l.0 in
    let serial = eqb-true i.serial j.serial l.1 in
    λ t. Reference (record { mutator = mutator t; serial = serial t })

pub same-are : (v : Value) → are_same v v ≡ true
same-are (Number n) = eq-eqb n n refl
same-are (Reference i) = and_from (i.mutator == i.mutator) (i.serial == i.serial) (eq-eqb i.mutator i.mutator refl) (eq-eqb i.serial i.serial refl)

both_or_none : (a b : Bool) → (a ≡ true → b ≡ true) → (b ≡ true → a ≡ true) → a ≡ b
both_or_none true b to from = sym (to refl)
both_or_none false true to from = from refl
both_or_none false false to from = refl

-- ---- a running mutator

module _ (c : Configuration) (p : Plain) (s : Stands c p) (k : ℕ) (x : Held) (is : Is c k x) (running : is_running (post_in x x.stage) ≡ true) (unended : x.account.end ≡ None) where
  abbrev identity : ℕ → Identity
  identity = s.ghost.identity

  abbrev word : ℕ → ℕ
  word r = slice_index x.registers r

  -- the mutator that it sees
  abbrev pub sight : Mutator
  sight = seen x.account x.registers

  sees : (r : ℕ) → r < REGISTERS → register sight r ≡ value_seen (word r)
  sees r small = get_or-map value_seen x.registers r 0 (Number 0) (let n = is.fits.eight in omega (arith, n, small))

  module _ (q : Mutator) (its : IsIts c p s k x q) where
    -- what a register holds, and the plain one has
    abbrev held_by : (r : ℕ) → r < REGISTERS → (y : Value) × (slice_get q.registers r ≡ Some y) × RegisterHolds (era c) s.ghost (word r) y
    held_by r small = holds c p s k x is running unended q its r small

    plain_register : (r : ℕ) (small : r < REGISTERS) → register q r ≡ (held_by r small).0
    plain_register r small = get_or_from_slice_get q.registers r (held_by r small).0 (Number 0) (held_by r small).1

    denoted : (w : ℕ) (y : Value) → IsValueWord w → RegisterHolds (era c) s.ghost w y → y ≡ plain_value identity (value_seen w)
    denoted w y is hold = by_word (decode w) refl is
      where
        by_word : (d : Decoded) → decode w ≡ d → IsValueAs d → y ≡ plain_value identity (seen_as d)
        by_word (NumberWord n) e is = hold.number n e
        by_word (PointerWord a) e is = hold.reference a e
        by_word _ e is = absurd is

    value_as : (r : ℕ) (small : r < REGISTERS) → (held_by r small).0 ≡ plain_value identity (value_seen (word r))
    value_as r small = denoted (word r) (held_by r small).0 (is.fits.registers r small) (held_by r small).2

    values : (r : ℕ) → r < REGISTERS → register q r ≡ plain_value identity (register sight r)
    values r small = plain_register r small ∙ (value_as r small ∙ ap (plain_value identity) (sym (sees r small)))

    -- which are the same: those that hold the same word
    same_value : (a b : ℕ) → a < REGISTERS → b < REGISTERS → register q a ≡ register q b → register sight a ≡ register sight b
    same_value a b small_a small_b e =
        let y = held_by a small_a in
        let z = held_by b small_b in
        let words = same_words (era c) (memory c) (team c) s.ghost k (word a) (word b) y.0 z.0 (prepared c p s k x is) y.2.holds z.2.holds in
        sees a small_a ∙ (ap value_seen (words.1 (sym (plain_register a small_a) ∙ (e ∙ plain_register b small_b))) ∙ sym (sees b small_b))

    same_plain : (a b : ℕ) → a < REGISTERS → b < REGISTERS → register sight a ≡ register sight b → register q a ≡ register q b
    same_plain a b small_a small_b e = values a small_a ∙ (ap (plain_value identity) e ∙ sym (values b small_b))

    pub are_alike : AreAlikeBy identity sight q
    are_alike = record {
      values = values;
      same = λ a b small_a small_b. both_or_none (are_same (register q a) (register q b)) (are_same (register sight a) (register sight b))
          (λ t. subst (λ (v : Value). are_same (register sight a) v ≡ true) (same_value a b small_a small_b (are_same-true (register q a) (register q b) t)) (same-are (register sight a)))
          (λ t. subst (λ (v : Value). are_same (register q a) v ≡ true) (same_plain a b small_a small_b (are_same-true (register sight a) (register sight b) t)) (same-are (register q a)));
      next = ap (λ (n : ℕ). (n + 1) % NUMBERS) (sym its.same.account.counter);
      printed = ap (λ (l : List ℕ). length l) (sym its.same.account.printed);
    }

    -- the plain machine's action is what the worker sees, with identities in place of addresses
    pub alike : (i : Instr) → IsTrue (is_valid i) → action q i ≡ plain_outcome identity (action sight i)
    alike i valid = acts_alike identity sight q are_alike i valid

    -- ---- what an action names

    -- what is seen of a value holds it
    abbrev pub Holds : Value → Type 0
    Holds v = HoldsValue (era c) s.ghost (word_for v) (plain_value identity v)

    pub holds_number : (n : ℕ) → n < NUMBERS → Holds (Number n)
    unfolding value_of
    holds_number n small = record {
      held = numbers_are_held (era c) s.ghost.size s.ghost.writer (number_word n) n (decode-number_word n small);
      denotes = rw (decode-number_word n small) refl;
    }

    pub small_number : (n : ℕ) → Holds (Number n) → n < NUMBERS
    small_number n holds = counts identity n holds.denotes

    held_word : (r : ℕ) (small : r < REGISTERS) → Holds (value_seen (word r))
    held_word r small =
        subst (λ (w : ℕ). HoldsValue (era c) s.ghost w (plain_value identity (value_seen (word r)))) (sym (word_of_value_seen (word r) (is.fits.registers r small)))
        (subst (HoldsValue (era c) s.ghost (word r)) (value_as r small) (held_by r small).2.holds)

    held_register : (r : ℕ) → (r < REGISTERS) ⊎ (REGISTERS ≤ r) → Holds (register sight r)
    held_register r (inl small) = subst Holds (sym (sees r small)) (held_word r small)
    held_register r (inr large) =
        subst Holds (sym (get_or_past (map value_seen x.registers) r (Number 0) (let n = is.fits.eight in let l = length-map x.registers value_seen in omega (arith, n, l, large)))) (holds_number 0 (omega arith))

    below : (n : ℕ) → Holds (Number (n % NUMBERS))
    below n = holds_number (n % NUMBERS) (omega arith)

    truth : (b : Bool) → Holds (Number (one_if b))
    truth true = holds_number 1 (omega arith)
    truth false = holds_number 0 (omega arith)

    divided : (b n : ℕ) (zero : Bool) → (b == 0) ≡ zero → n < NUMBERS → IfOk (divided_by b n) (λ m. Holds (Number m))
    divided b n true e small = rw e tt
    divided b n false e small = rw e (holds_number n small)

    computed : (operation : Operation) (a b : ℕ) → Holds (Number a) → Holds (Number b) → IfOk (applied operation a b) (λ n. Holds (Number n))
    computed operations.Add a b holds_a holds_b = below (a + b)
    computed operations.Sub a b holds_a holds_b = below (a + (NUMBERS - b % NUMBERS))
    computed operations.Mul a b holds_a holds_b = below (a * b)
    computed operations.Div a b holds_a holds_b = divided b (a / b) (b == 0) refl (let small = small_number a holds_a in let l = div-le_self a b in omega (arith, small, l))
    computed operations.Rem a b holds_a holds_b = divided b (a % b) (b == 0) refl (let small = small_number a holds_a in let l = mod-le a b in omega (arith, small, l))
    computed operations.Lt a b holds_a holds_b = truth (nat_lt a b)

    target : (n : ℕ) → nat_le n 65536 ≡ true → Holds (Number n)
    target n short = let l = leb-true n 65536 short in holds_number n (omega (arith, l))

    spells : (i : Instr) → IsTrue (is_valid i) → Spells Holds ⊤ i
    spells (instrs.Li d n) valid = holds_number n (ltb-true n NUMBERS (and_parts (is_register d) (is_number n) valid).1)
    spells (instrs.Jmp t) valid = target t valid
    spells (instrs.Jz a t) valid = target t (and_parts (is_register a) (nat_le t 65536) valid).1
    spells (instrs.Jal d t) valid = target t (and_parts (is_register d) (nat_le t 65536) valid).1
    spells _ valid = tt

    -- each value and record that it names is held; lengths and words of the board are in range, and there is room to print
    pub held : (i : Instr) → IsTrue (is_valid i) → IfOk (action sight i) (Names Holds ⊤ sight)
    held i valid = named Holds ⊤ sight (λ r. held_register r (cases_lt r REGISTERS)) (below (x.account.counter + 1)) truth computed i (spells i valid)

    -- the same of one action, which writes one of the eight registers, if any
    pub names : (i : Instr) → IsTrue (is_valid i) → (act : Action) → action sight i ≡ Ok act → Names Holds ⊤ sight act
    names i valid act is_act = subst (λ (o : Result Action End). IfOk o (Names Holds ⊤ sight)) is_act (held i valid)

    pub writes : (i : Instr) → IsTrue (is_valid i) → (act : Action) → action sight i ≡ Ok act → WritesRegister act
    writes i valid act is_act = subst (λ (o : Result Action End). IfOk o WritesRegister) is_act (writes_register sight i valid)
