-- The tokens of a listing have from 1 to 24 bytes, and none that ends a token.
use Rattle.std.proofs.Common.{◌≡◌, ℕ, ◌+◌, ◌^◌, ◌<◌, ◌≤◌, true, leb, eqb, List, [], ◌∷◌, ◌++◌, length, refl, ◌∙◌, arith}
use Rattle.std.specs.Prelude.{codes, decimal}
use Rattle.std.specs.Int.{IsInRange}
use Rattle.std.specs.List.{list_all}
use Rattle.std.proofs.lemmas.Bool.{and_parts, and_from, le-leb, leb-true, ltb-true}
use Rattle.std.proofs.lemmas.Bool.Decides.{nat_tests}
use Rattle.std.proofs.lemmas.Fmt.{decimal_nonempty, length-decimal-le}
use Rattle.std.proofs.lemmas.List.{length-append}
use Rattle.std.proofs.lemmas.List.Folds.{list_all-append}
use Rattle.plain_state.specs.declared.sizes.TheConstants.{LAST_WORKER, MOST_INSTRS}
use Rattle.mutator_asm.specs.declared.item.TheConstants.{TIMES_MAX}
use Rattle.mutator_asm.specs.declared.instr.Instr.{Instr}
use Rattle.mutator_asm.specs.declared.instr.Instr.TheVariants.{Halt}
use Rattle.mutator_asm.specs.declared.item.Item.{Item}
use Rattle.mutator_asm.specs.declared.operand.Operand.{Operand}
use Rattle.mutator_asm.specs.declared.operand.Operand.TheVariants.{Reg, Number}
use Rattle.mutator_asm.specs.Listing.{register_token, operand_token, label_name, item_token, instr_tokens}
use Rattle.mutator_asm.specs.Program.{is_register, is_number, is_operand, is_target, is_valid, is_item}
use Rattle.mutator_asm.proofs.Tokens.Numerals.{decimal_passes}
use Rattle.mutator_asm.proofs.Lists.Tests.{if_passes, three_parts}
use Rattle.mutator_asm.proofs.Listings.Split.{is_inner, is_token}

-- from 1 to n bytes, which may stand in a token
record IsPiece (t : List ℕ) (n : ℕ) : Type 0 where
  inner : list_all is_inner t ≡ true
  some : 1 ≤ length t
  few : length t ≤ n

two_pieces : {t u : List ℕ} {m n : ℕ} → IsPiece t m → IsPiece u n → IsPiece (t ++ u) (m + n)
two_pieces {t} {u} p q = record {
  inner = list_all-append is_inner t u ∙ and_from _ _ p.inner q.inner;
  some = omega (arith, length-append t u);
  few = omega (arith, length-append t u);
}

token_from : {t : List ℕ} {n : ℕ} → IsPiece t n → n ≤ 24 → is_token t ≡ true
token_from {t} p le = and_from _ _ (and_from _ _ (le-leb 1 (length t) p.some) (le-leb (length t) 24 (omega arith))) p.inner

letter : (c : ℕ) → is_inner c ≡ true → IsPiece (c ∷ []) 1
letter c h = record { inner = and_from (is_inner c) true h refl; some = omega arith; few = omega arith }

-- ---- numbers

digit_inner : (c : ℕ) → IsInRange 48 57 c → is_inner c ≡ true
digit_inner c range = grind (arith, nat_tests, range.0, range.1)

number_piece : (n d : ℕ) → 0 < d → n < 10 ^ d → n < 2 ^ 64 → IsPiece (decimal n) d
number_piece n d some few lt = record { inner = decimal_passes is_inner digit_inner n lt; some = decimal_nonempty n lt; few = length-decimal-le d n some few lt }

number_is_token : (n : ℕ) → is_number n ≡ true → is_token (decimal n) ≡ true
number_is_token n h =
    let lt = ltb-true n (2 ^ 62) h in
    token_from (number_piece n 19 (omega arith) (omega arith) (omega arith)) (omega arith)

-- ---- registers, operands and labels

register_is_token : (r : ℕ) → is_register r ≡ true → is_token (register_token r) ≡ true
register_is_token r h =
    let lt = ltb-true r 8 h in
    token_from (two_pieces (letter 114 refl) (number_piece r 1 (omega arith) (omega arith) (omega arith))) (omega arith)

operand_is_token : (x : Operand) → is_operand x ≡ true → is_token (operand_token x) ≡ true
operand_is_token (Reg r) h = register_is_token r h
operand_is_token (Number n) h = number_is_token n h

name_piece : (k : ℕ) → k ≤ MOST_INSTRS → IsPiece (label_name k) 6
name_piece k le = two_pieces (letter 76 refl) (number_piece k 5 (omega arith) (omega arith) (omega arith))

target_is_token : (t : ℕ) → is_target t ≡ true → is_token (label_name t) ≡ true
target_is_token t h = token_from (name_piece t (leb-true t MOST_INSTRS h)) (omega arith)

pub label_is_token : (k : ℕ) → k ≤ MOST_INSTRS → is_token (label_name k ++ codes ":") ≡ true
label_is_token k le = token_from (two_pieces (name_piece k le) (letter 58 refl)) (omega arith)

-- ---- items and instructions

pub item_is_token : (item : Item) → is_item item ≡ true → is_token (item_token item) ≡ true
item_is_token item h =
    let parts = three_parts (leb item.worker LAST_WORKER) (leb 1 item.times) (leb item.times TIMES_MAX) h in
    let few = leb-true item.worker LAST_WORKER parts.0 in
    let most = leb-true item.times TIMES_MAX parts.2 in
    let worker = number_piece item.worker 2 (omega arith) (omega arith) (omega arith) in
    let times = number_piece item.times 7 (omega arith) (omega arith) (omega arith) in
    if_passes is_token (eqb item.times 1) (decimal item.worker) (decimal item.worker ++ codes "*" ++ decimal item.times) (token_from worker (omega arith)) (token_from (two_pieces (two_pieces worker (letter 42 refl)) times) (omega arith))

-- an instruction is made of tokens
pub instr_is_tokens : (instr : Instr) → is_valid instr ≡ true → list_all is_token (instr_tokens instr) ≡ true
instr_is_tokens Halt h = refl
instr_is_tokens instr h = grind (arith, and_parts, and_from, register_is_token, operand_is_token, target_is_token, number_is_token)
