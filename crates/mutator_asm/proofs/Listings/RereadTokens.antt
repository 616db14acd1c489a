-- Each token of a listing is read back as what it lists.
use Rattle.std.proofs.Common.{◌≡◌, ℕ, ◌+◌, ◌-◌, ◌^◌, ◌<◌, ◌≤◌, true, false, List, [], ◌∷◌, ◌++◌, length, get_or, take, eqb, leb, Some, Ok, Err, refl, ap, ◌∙◌, arith, append_assoc}
use Rattle.std.proofs.Math.Bool.{and-false}
use Rattle.std.specs.Prelude.{codes, decimal}
use Rattle.std.specs.List.{list_any}
use Rattle.std.specs.Int.{IsInRange}
use Rattle.std.specs.Char.{is_ascii_digit}
use Rattle.std.proofs.Math.Seq.{take-append_seam, get_or-append_seam}
use Rattle.std.proofs.lemmas.Bool.{and_from, cond_both, or_left, le-leb, leb-true, lt-ltb, ltb-true, ne_eqb, eqb-true}
use Rattle.std.proofs.lemmas.List.{length-append}
use Rattle.std.proofs.lemmas.List.Folds.{list_any-append, list_any_none}
use Rattle.std.proofs.lemmas.Fmt.{decimal_is_IsNumeral, decimal_nonempty, decimal_digit}
use Rattle.std.proofs.lemmas.Str.Parse.{digit_at}
use Rattle.plain_state.specs.declared.sizes.TheConstants.{LAST_WORKER}
use Rattle.mutator_asm.specs.declared.item.TheConstants.{TIMES_MAX}
use Rattle.mutator_asm.specs.declared.item.Item.{Item}
use Rattle.mutator_asm.specs.declared.mistake.Mistake.TheVariants.{BadOperand}
use Rattle.mutator_asm.specs.declared.operand.Operand.{Operand}
use Rattle.mutator_asm.specs.declared.operand.Operand.TheVariants.{Reg, Number}
use Rattle.mutator_asm.specs.Program.{is_register, is_number, is_operand, is_item}
use Rattle.mutator_asm.specs.Token.{is_in_name, is_name, label_of, register_of, number_of, operand_of}
use Rattle.mutator_asm.specs.Item.{is_star, within, item_of}
use Rattle.mutator_asm.specs.Listing.{register_token, operand_token, label_name, item_token}
use Rattle.mutator_asm.proofs.Lists.Firsts.{before_behind, after_behind}
use Rattle.mutator_asm.proofs.Tokens.Numerals.{decimal_all, decimal_passes}
use Rattle.mutator_asm.proofs.Lists.Tests.{three_parts}

-- ---- numbers

digit_passes : (c : ℕ) → IsInRange 48 57 c → is_ascii_digit c ≡ true
digit_passes c r = and_from (leb 48 c) (leb c 57) (le-leb 48 c r.0) (le-leb c 57 r.1)

below_64_bits : (n : ℕ) → is_number n ≡ true → n < 2 ^ 64
below_64_bits n h = omega (arith, ltb-true n (2 ^ 62) h)

-- the digits of a number say the number
pub number_reread : (n : ℕ) → is_number n ≡ true → number_of (decimal n) ≡ Ok n
unfolding number_of
number_reread n h =
    let lt = below_64_bits n h in
    let full = decimal_nonempty n lt in
    rw (ne_eqb (length (decimal n)) 0 (λ e. omega arith), decimal_passes is_ascii_digit digit_passes n lt, (decimal_is_IsNumeral n lt).1, h) refl

-- ---- registers

-- a register's name says the register
pub register_reread : (r : ℕ) → is_register r ≡ true → register_of (register_token r) ≡ Ok r
unfolding register_of
register_reread r h =
    let small : r < 8 = ltb-true r 8 h in
    let low : leb 48 (48 + r) ≡ true = le-leb 48 (48 + r) (omega arith) in
    let high : leb (48 + r) 55 ≡ true = le-leb (48 + r) 55 (omega arith) in
    let back : 48 + r - 48 ≡ r = omega arith in
    rw (decimal_digit r (omega arith), low, high, back) refl

-- ---- operands

no_register : (t : List ℕ) → eqb (get_or t 0 0) 114 ≡ false → register_of t ≡ Err BadOperand
unfolding register_of
no_register t other = rw (other, and-false (eqb (length t) 2)) refl

-- an operand's token says the operand
pub operand_reread : (x : Operand) → is_operand x ≡ true → operand_of (operand_token x) ≡ Ok x
operand_reread (Reg r) h = rw (register_reread r h) refl
operand_reread (Number n) h =
    let numeral = (decimal_is_IsNumeral n (below_64_bits n h)).0 in
    let range = digit_at (decimal n) 0 numeral.1 numeral.0 in
    rw (no_register (decimal n) (ne_eqb (get_or (decimal n) 0 0) 114 (λ e. omega (arith, range.1))), number_reread n h) refl

-- ---- labels

digit_in_name : (c : ℕ) → IsInRange 48 57 c → is_in_name c ≡ true
digit_in_name c r = or_left _ _ (or_left _ _ (or_left _ _ (digit_passes c r)))

-- the name of a label is one
pub label_is_name : (k : ℕ) → k < 2 ^ 64 → is_name (label_name k) ≡ true
label_is_name k h = decimal_passes is_in_name digit_in_name k h

label_if : (t name : List ℕ) → 0 < length t → get_or t (length t - 1) 0 ≡ 58 → take (length t - 1) t ≡ name → is_name name ≡ true → label_of t ≡ Some name
unfolding label_of
label_if t name some colon front h = rw (lt-ltb 0 (length t) some, colon, front, h) refl

-- a name with a colon behind it is a label
pub label_reread : (name : List ℕ) → is_name name ≡ true → label_of (name ++ codes ":") ≡ Some name
label_reread name h =
    let last : length (name ++ codes ":") - 1 ≡ length name = omega (arith, length-append name (codes ":")) in
    label_if (name ++ codes ":") name (omega (arith, length-append name (codes ":")))
    (ap (λ (n : ℕ). get_or (name ++ codes ":") n 0) last ∙ get_or-append_seam name 58 [] 0)
    (ap (λ (n : ℕ). take n (name ++ codes ":")) last ∙ take-append_seam name (codes ":"))
    h

-- ---- items

no_star : (n : ℕ) → n < 2 ^ 64 → list_any is_star (decimal n) ≡ false
no_star n h = list_any_none is_star (decimal n) (decimal_all (λ c. is_star c ≡ false) (λ c r. ne_eqb c 42 (λ e. omega (arith, r.0))) n h)

within_reread : (low high n : ℕ) → low ≤ n → n ≤ high → high < 2 ^ 62 → within low high (number_of (decimal n)) ≡ Some n
within_reread low high n le most small =
    rw (number_reread n (lt-ltb n (2 ^ 62) (omega (arith, most, small))), le-leb low n le, le-leb n high most) refl

one_step : (worker times : ℕ) → worker ≤ LAST_WORKER → times ≡ 1 → item_of (decimal worker) ≡ Some (record { worker = worker; times = times })
unfolding item_of
one_step worker times few one = rw (no_star worker (omega (arith, few)), within_reread 0 LAST_WORKER worker (omega arith) few (omega arith), one) refl

some_steps : (worker times : ℕ) → worker ≤ LAST_WORKER → 1 ≤ times → times ≤ TIMES_MAX → item_of (decimal worker ++ 42 ∷ decimal times) ≡ Some (record { worker = worker; times = times })
unfolding item_of
some_steps worker times few some most =
    let none = no_star worker (omega (arith, few)) in
    let starred : list_any is_star (decimal worker ++ 42 ∷ decimal times) ≡ true = rw (list_any-append is_star (decimal worker) (42 ∷ decimal times), none) refl in
    rw (
      starred,
      before_behind is_star (decimal worker) 42 (decimal times) none refl,
      after_behind is_star (decimal worker) 42 (decimal times) none refl,
      within_reread 0 LAST_WORKER worker (omega arith) few (omega arith),
      within_reread 1 TIMES_MAX times some most (omega arith),
    ) refl

-- an item's token says the item
pub item_reread : (item : Item) → is_item item ≡ true → item_of (item_token item) ≡ Some item
item_reread item h =
    let parts = three_parts (leb item.worker LAST_WORKER) (leb 1 item.times) (leb item.times TIMES_MAX) h in
    let few = leb-true item.worker LAST_WORKER parts.0 in
    let some = leb-true 1 item.times parts.1 in
    let most = leb-true item.times TIMES_MAX parts.2 in
    cond_both (eqb item.times 1) (decimal item.worker) (decimal item.worker ++ codes "*" ++ decimal item.times) (λ t. item_of t ≡ Some item)
    (λ e. one_step item.worker item.times few (eqb-true item.times 1 e))
    (λ e. ap item_of (append_assoc (decimal item.worker) (codes "*") (decimal item.times)) ∙ some_steps item.worker item.times few some most)
