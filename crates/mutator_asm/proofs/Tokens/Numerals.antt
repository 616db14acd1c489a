-- The number that digits write, digit by digit.
use Rattle.std.proofs.Common.{◌≡◌, ℕ, ◌^◌, ◌<◌, ◌≤◌, Bool, true, false, Err, decimal, List, take, ltb, arith, refl}
use Rattle.std.specs.Int.{IsInRange}
use Rattle.std.specs.List.{All, list_all}
use Rattle.std.specs.Str.Parse.{digits_value}
use Rattle.std.proofs.lemmas.Bool.{le-ltb}
use Rattle.std.proofs.lemmas.Fmt.{decimal_is_IsNumeral}
use Rattle.std.proofs.lemmas.List.Elements.{All-from_get_or}
use Rattle.std.proofs.lemmas.List.Sums.{list_all-from_AllPass}
use Rattle.std.proofs.lemmas.Str.Parse.{digits_value-take-le, digit_at as digit_of}
use Rattle.mutator_asm.specs.declared.mistake.Mistake.TheVariants.{NumberTooBig}
use Rattle.mutator_asm.specs.Token.{number_or}

-- digits whose first ones write too much write no number of the language
pub number_or-err : (digits : List ℕ) (i : ℕ) → 2 ^ 62 ≤ digits_value 10 (take i digits) → number_or digits ≡ Err NumberTooBig
number_or-err digits i large =
    let le = digits_value-take-le 10 digits i (omega arith) in
    let e : ltb (digits_value 10 digits) (2 ^ 62) ≡ false = le-ltb _ _ (omega (arith, le)) in
    rw e refl

-- ---- the digits of a number

-- what holds of each byte from 48 to 57 holds of the digits of a number
pub decimal_all : (P : ℕ → Type 0) → ((c : ℕ) → IsInRange 48 57 c → P c) → (n : ℕ) → n < 2 ^ 64 → All P (decimal n)
decimal_all P h n lt = All-from_get_or P (decimal n) 0 (λ i inside. h _ (digit_of (decimal n) i (decimal_is_IsNumeral n lt).0.1 inside))

pub decimal_passes : (p : ℕ → Bool) → ((c : ℕ) → IsInRange 48 57 c → p c ≡ true) → (n : ℕ) → n < 2 ^ 64 → list_all p (decimal n) ≡ true
decimal_passes p h n lt = list_all-from_AllPass p (decimal n) (decimal_all (λ c. p c ≡ true) h n lt)
