-- An area word says what it was made from, and nothing else is made as that word.
use Rattle.std.proofs.Common.{◌≡◌, ℕ, ◌+◌, ◌*◌, ◌/◌, ◌%◌, ◌^◌, ◌<◌, ◌≤◌, Bool, true, false, cond, nat_lt, Some, None, refl, arith}
use Rattle.std.proofs.lemmas.Bool.{ltb-true}
use Rattle.std.proofs.lemmas.Bool.Decides.{nat_tests}
use Rattle.space_map.specs.declared.area_word.AreaWord.{AreaWord}
use Rattle.space_map.specs.AreaWord.{AreaFits, area_in, decode_area, encode_area}

pub decode_area-short : (w : ℕ) → w < 2 ^ 54 → decode_area w ≡ Some (area_in w)
unfolding decode_area
decode_area-short w short = let test : nat_lt w (2 ^ 54) ≡ true = grind (arith, nat_tests) in rw test

pub decode_area-long : (w : ℕ) → 2 ^ 54 ≤ w → decode_area w ≡ None
unfolding decode_area
decode_area-long w long = let test : nat_lt w (2 ^ 54) ≡ false = grind (arith, nat_tests) in rw test

pub area_in-encode_area : (area : AreaWord) → AreaFits area → area_in (encode_area area) ≡ area
unfolding area_in encode_area
area_in-encode_area area fits =
    let w : ℕ = area.front + 2 ^ 18 * area.low + 2 ^ 36 * area.owed in
    let front : w % 2 ^ 18 ≡ area.front = omega arith in
    let low : w / 2 ^ 18 % 2 ^ 18 ≡ area.low = omega arith in
    let owed : w / 2 ^ 36 ≡ area.owed = omega arith in
    rw (front, low, owed) refl

pub encode_area-lt : (area : AreaWord) → AreaFits area → encode_area area < 2 ^ 54
unfolding encode_area
encode_area-lt area fits = omega arith

pub encode_area-area_in : (w : ℕ) → encode_area (area_in w) ≡ w
unfolding area_in encode_area
encode_area-area_in w = omega arith

pub AreaFits-area_in : (w : ℕ) → w < 2 ^ 54 → AreaFits (area_in w)
unfolding area_in
AreaFits-area_in w short = record { front_fits = omega arith; low_fits = omega arith; owed_fits = omega arith }

pub decode_area-encode_area : (area : AreaWord) → AreaFits area → decode_area (encode_area area) ≡ Some area
decode_area-encode_area area fits =
    rw (decode_area-short (encode_area area) (encode_area-lt area fits), area_in-encode_area area fits) refl

-- ---- from the word decoded

decoded_if : (b : Bool) (parts area : AreaWord) → cond b (Some parts) None ≡ Some area → (b ≡ true) × (parts ≡ area)
decoded_if true parts area is = (refl, cc)
decoded_if false parts area is = cc

pub encode_area-decode_area : (w : ℕ) (area : AreaWord) → decode_area w ≡ Some area → encode_area area ≡ w
unfolding decode_area
encode_area-decode_area w area is =
    let parts = decoded_if (nat_lt w (2 ^ 54)) (area_in w) area is in
    rw (← parts.1) (encode_area-area_in w)

pub AreaFits-decode_area : (w : ℕ) (area : AreaWord) → decode_area w ≡ Some area → AreaFits area
unfolding decode_area
AreaFits-decode_area w area is =
    let parts = decoded_if (nat_lt w (2 ^ 54)) (area_in w) area is in
    rw (← parts.1) (AreaFits-area_in w (ltb-true w (2 ^ 54) parts.0))
