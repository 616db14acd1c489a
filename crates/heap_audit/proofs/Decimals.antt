-- A number below a limit, in decimal digits: it is read by its text, where no digit stands behind it, and what is read has that text.
use Rattle.std.proofs.Common.{◌≡◌, ℕ, ◌^◌, ◌<◌, ◌≤◌, false, cond, eqb, ltb, decimal, List, [], ◌∷◌, ◌++◌, length, get_or, Some, None, subst, arith}
use Rattle.std.proofs.lemmas.Bool.{and_parts, ltb-true, lt-ltb}
use Rattle.std.proofs.lemmas.Bool.Decides.{nat_tests}
use Rattle.std.proofs.lemmas.Fmt.{decimal_nonempty, digits_decimal}
use Rattle.std.specs.Char.{is_ascii_digit}
use Rattle.std.specs.List.{list_all}
use Rattle.plain_state.proofs.Numerals.{AreDigits, in_range, numerals}
use Rattle.dump_text.specs.Pieces.{numeral_at}
use Rattle.dump_text.proofs.Numerals.{Stops, numeral_takes, numeral_again}
use Rattle.dump_text.proofs.Options.{some_bind, some_if}
use Rattle.heap_audit.specs.Texts.Pieces.{decimal_at}

pub decimal_takes : (limit : ℕ) (bytes : List ℕ) (n : ℕ) (rest : List ℕ) → decimal_at limit bytes ≡ Some (n, rest) → (bytes ≡ decimal n ++ rest) × (n < limit)
unfolding decimal_at
decimal_takes limit bytes n rest e =
    let a = some_bind (numeral_at 19 bytes) (λ number. cond (ltb number.0 limit) (Some (number.0, number.1)) None) (n, rest) e in
    let b = some_if {A = ℕ × List ℕ} (ltb a.0.0 limit) (a.0.0, a.0.1) (n, rest) a.2 in
    let P : ℕ × List ℕ → Type 0 = λ p. (bytes ≡ decimal p.0 ++ p.1) × (p.0 < limit) in
    subst P b.1 ((numeral_takes 19 bytes a.0.0 a.0.1 (omega arith) a.1).0, ltb-true a.0.0 limit b.0)

pub decimal_again : (limit n : ℕ) (rest : List ℕ) → limit ≤ 10 ^ 19 → n < limit → Stops rest → decimal_at limit (decimal n ++ rest) ≡ Some (n, rest)
unfolding decimal_at
decimal_again limit n rest most below stop = rw (numeral_again 19 n rest (omega arith) (omega (arith, most, below)) (omega (arith, most, below)) stop, lt-ltb n limit below)

-- ---- the first digit

low_of : (ds rest : List ℕ) → 0 < length ds → AreDigits ds → (0 < length (ds ++ rest)) × (get_or (ds ++ rest) 0 0 < 58)
low_of [] rest some h = absurd (omega (arith, some))
low_of (d ∷ ds) rest some h = (omega arith, let r = in_range d (and_parts (is_ascii_digit d) (list_all is_ascii_digit ds) h).0 in omega (arith, r.0, r.1))

-- it is no letter
pub first_digit : (b : ℕ) → b < 58 → (eqb b 70 ≡ false) × (eqb b 88 ≡ false) × (eqb b 84 ≡ false)
first_digit b low = (grind (arith, nat_tests), grind (arith, nat_tests), grind (arith, nat_tests))

pub first_low : (n : ℕ) (rest : List ℕ) → n < 2 ^ 64 → (0 < length (decimal n ++ rest)) × (get_or (decimal n ++ rest) 0 0 < 58)
first_low n rest lt = low_of (decimal n) rest (decimal_nonempty n lt) (digits_decimal numerals n lt)
