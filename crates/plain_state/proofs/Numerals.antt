-- Decimal digits, and the number that they write.
use Rattle.std.proofs.Common.{◌≡◌, ℕ, ◌+◌, ◌-◌, ◌*◌, ◌<◌, true, List, ◌++◌, length, get_or, take, drop, refl, sym, ◌∙◌, arith}
use Rattle.std.proofs.lemmas.Bool.{and_from, and_parts}
use Rattle.std.proofs.lemmas.Bool.Decides.{nat_tests}
use Rattle.std.proofs.lemmas.Int.Digits.{digits_value_more}
use Rattle.std.proofs.lemmas.List.{take-append-drop}
use Rattle.std.proofs.lemmas.List.Folds.{list_all-append}
use Rattle.std.proofs.lemmas.List.Sums.{AllPass-from_list_all}
use Rattle.std.proofs.lemmas.Str.{digit_value_digit}
use Rattle.std.proofs.lemmas.Str.Parse.{IsDigitsTest, IsNumeralModel, numerals_by_value}
use Rattle.std.specs.Char.{is_ascii_digit}
use Rattle.std.specs.Int.{IsInRange}
use Rattle.std.specs.List.{list_all}
use Rattle.std.specs.Str.Parse.{digits_value}

abbrev pub AreDigits : List ℕ → Type 0
AreDigits ds = list_all is_ascii_digit ds ≡ true

-- a digit is a byte from 48 to 57
pub in_range : (c : ℕ) → is_ascii_digit c ≡ true → IsInRange 48 57 c
in_range c h = (grind (arith, nat_tests), grind (arith, nat_tests))

in_digits : (c : ℕ) → IsInRange 48 57 c → is_ascii_digit c ≡ true
in_digits c r = grind (arith, nat_tests, r.0, r.1)

tells_numerals : IsDigitsTest AreDigits
tells_numerals = record {
  empty = refl;
  parts = λ c cs h. let b = and_parts (is_ascii_digit c) (list_all is_ascii_digit cs) h in (in_range c b.0, b.1);
  more = λ c cs r h. and_from (is_ascii_digit c) (list_all is_ascii_digit cs) (in_digits c r) h;
}

-- digits write the number that they are worth
pub numerals : IsNumeralModel AreDigits (digits_value 10)
numerals = numerals_by_value AreDigits tells_numerals

-- each of them is from 48 to 57
pub digit_at : (ds : List ℕ) (i : ℕ) → AreDigits ds → i < length ds → IsInRange 48 57 (get_or ds i 0)
digit_at ds i h lt = in_range _ (AllPass-from_list_all is_ascii_digit ds h i 0 lt)

-- one more digit
pub value_more : (ds : List ℕ) (i : ℕ) → AreDigits ds → i < length ds → digits_value 10 (take (i + 1) ds) ≡ digits_value 10 (take i ds) * 10 + (get_or ds i 0 - 48)
value_more ds i h lt =
    let range = digit_at ds i h lt in
    omega (arith, digits_value_more 10 ds i lt, digit_value_digit (get_or ds i 0) range, range.0)

-- the first ones are digits too
pub first_digits : (ds : List ℕ) (i : ℕ) → AreDigits ds → AreDigits (take i ds)
first_digits ds i h =
    let split : AreDigits (take i ds ++ drop i ds) = rw (take-append-drop i ds) h in
    (and_parts (list_all is_ascii_digit (take i ds)) (list_all is_ascii_digit (drop i ds)) (sym (list_all-append is_ascii_digit (take i ds) (drop i ds)) ∙ split)).0
