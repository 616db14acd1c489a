-- A number in decimal digits: it is read by its text, where no digit stands behind it, and what is read has that text.
use Rattle.std.proofs.Common.{◌≡◌, ℕ, zero, suc, ◌^◌, ◌<◌, ◌≤◌, Bool, true, false, ◌||◌, ◌&&◌, cond, eqb, ltb, decimal, List, [], ◌∷◌, ◌++◌, length, get_or, take, drop, Some, None, refl, sym, ap, subst, ◌∙◌, arith}
use Rattle.std.proofs.lemmas.Bool.{and_parts, and_right, le-ltb, ltb-false, or_parts}
use Rattle.std.proofs.lemmas.Bool.Decides.{nat_tests}
use Rattle.std.proofs.lemmas.Fmt.{decimal-digits_value, decimal_nonempty, digits_decimal, digits_value-decimal, first_decimal, length-decimal-le}
use Rattle.std.proofs.lemmas.List.{length-take-le, take_at, drop_at, take-append-drop}
use Rattle.std.proofs.lemmas.Str.Parse.{digits_value_short}
use Rattle.std.specs.Char.{is_ascii_digit}
use Rattle.std.specs.List.{list_all}
use Rattle.std.specs.Str.Parse.{digits_value}
use Rattle.plain_state.proofs.Numerals.{AreDigits, first_digits, numerals}
use Rattle.dump_text.specs.Pieces.{◌>>=◌, byte_at, digit_count, numeral_at, number_at}
use Rattle.dump_text.proofs.Digits.{count_fits}
use Rattle.dump_text.proofs.Options.{some_bind, some_unless, some_is}
use Rattle.dump_text.proofs.Pieces.{byte_takes, byte_again}

-- the digits before one more
pub value_room : (ds : List ℕ) (i : ℕ) → AreDigits ds → length ds ≤ 19 → i < length ds → digits_value 10 (take i ds) < 10 ^ 18
value_room ds i h few lt = digits_value_short numerals (take i ds) 18 (first_digits ds i h) (omega (arith, few, lt, length-take-le i ds (omega (arith, lt))))

-- ---- the digits at the front

pub front_digits : (bytes : List ℕ) → AreDigits (take (digit_count bytes) bytes)
front_digits [] = refl
front_digits (b ∷ bytes) =
    let P : Bool → Type 0 = λ t. is_ascii_digit b ≡ t → list_all is_ascii_digit (take (cond t (suc (digit_count bytes)) 0) (b ∷ bytes)) ≡ true in
    elim (is_ascii_digit b) as P [ true ↦ λ e. rw (e, front_digits bytes) refl | false ↦ λ _. refl ] refl

-- no digit stands at the front
abbrev pub Stops : List ℕ → Type 0
Stops rest = digit_count rest ≡ 0

count_again : (ds rest : List ℕ) → AreDigits ds → Stops rest → digit_count (ds ++ rest) ≡ length ds
count_again [] rest h stop = stop
count_again (d ∷ ds) rest h stop =
    let t = and_parts (is_ascii_digit d) (list_all is_ascii_digit ds) h in
    rw (t.0, count_again ds rest t.1 stop) refl

-- ---- a number

positive : (n : ℕ) → eqb n 0 ≡ false → 0 < n
positive n e = grind (arith, nat_tests)

one_digit : (first count : ℕ) → (eqb first 48 && ltb 1 count) ≡ false → 0 < count → first ≡ 48 → count ≡ 1
one_digit first count e some h = grind (arith, nat_tests)

get_or_front : (bytes : List ℕ) (n : ℕ) → 0 < n → get_or (take n bytes) 0 0 ≡ get_or bytes 0 0
get_or_front [] zero lt = refl
get_or_front [] (suc n) lt = refl
get_or_front (b ∷ bytes) zero lt = absurd (omega (arith, lt))
get_or_front (b ∷ bytes) (suc n) lt = refl

-- as many digits as 64 bits have room for
pub numeral_takes : (most : ℕ) (bytes : List ℕ) (n : ℕ) (rest : List ℕ) → most ≤ 19 → numeral_at most bytes ≡ Some (n, rest) → (bytes ≡ decimal n ++ rest) × (n < 10 ^ most)
unfolding numeral_at
numeral_takes most bytes n rest fits e =
    let count = digit_count bytes in
    let ds = take count bytes in
    let value = digits_value 10 ds in
    let long = eqb (get_or bytes 0 0) 48 && ltb 1 count in
    let a = some_unless {A = ℕ × List ℕ} ((eqb count 0 || ltb most count) || long) (Some (value, drop count bytes)) (n, rest) e in
    let tests = or_parts (eqb count 0 || ltb most count) long a.0 in
    let counts = or_parts (eqb count 0) (ltb most count) tests.0 in
    let pair = some_is {A = ℕ × List ℕ} (value, drop count bytes) (n, rest) a.1 in
    let some : 0 < count = positive count counts.0 in
    let few : count ≤ most = ltb-false most count counts.1 in
    let len : length ds ≡ count = length-take-le count bytes (count_fits bytes) in
    let digits = front_digits bytes in
    let first : get_or ds 0 0 ≡ 48 → length ds ≡ 1 = λ h. len ∙ one_digit (get_or bytes 0 0) count tests.1 some (sym (get_or_front bytes count some) ∙ h) in
    let small : value < 10 ^ most = digits_value_short numerals ds most digits (omega (arith, len, few)) in
    let fits_word : value < 10 ^ 19 = digits_value_short numerals ds 19 digits (omega (arith, len, few, fits)) in
    let text : decimal value ≡ ds = decimal-digits_value numerals ds digits (omega (arith, len, some)) first (omega (arith, fits_word)) in
    let whole : bytes ≡ decimal value ++ drop count bytes = sym (take-append-drop count bytes) ∙ ap (λ (xs : List ℕ). xs ++ drop count bytes) (sym text) in
    let P : ℕ × List ℕ → Type 0 = λ p. (bytes ≡ decimal p.0 ++ p.1) × (p.0 < 10 ^ most) in
    subst P pair (whole, small)

not_nothing : (n : ℕ) → 0 < n → eqb n 0 ≡ false
not_nothing n lt = grind (arith, nat_tests)

front_of : (ds more : List ℕ) → 0 < length ds → get_or (ds ++ more) 0 0 ≡ get_or ds 0 0
front_of [] more some = absurd (omega (arith, some))
front_of (d ∷ ds) more some = refl

above : (first count : ℕ) → 48 < first → (eqb first 48 && ltb 1 count) ≡ false
above first count lt = grind (arith, nat_tests)

not_long : (n first : ℕ) → n < 2 ^ 64 → (0 < n → first ≡ get_or (decimal n) 0 0) → (eqb first 48 && ltb 1 (length (decimal n))) ≡ false
not_long zero first lt h = and_right (eqb first 48) (ltb 1 (length (decimal 0))) (le-ltb 1 (length (decimal 0)) (length-decimal-le 1 0 (omega arith) (omega arith) lt))
not_long (suc n) first lt h = above first (length (decimal (suc n))) (omega (arith, h (omega arith), first_decimal (suc n) (omega arith) lt))

pub numeral_again : (most n : ℕ) (rest : List ℕ) → 0 < most → n < 10 ^ most → n < 2 ^ 64 → Stops rest → numeral_at most (decimal n ++ rest) ≡ Some (n, rest)
unfolding numeral_at
numeral_again most n rest room small lt stop =
    let ds = decimal n in
    let some : 0 < length ds = decimal_nonempty n lt in
    let count : digit_count (ds ++ rest) ≡ length ds = count_again ds rest (digits_decimal numerals n lt) stop in
    let none : eqb (length ds) 0 ≡ false = not_nothing (length ds) some in
    let few : ltb most (length ds) ≡ false = le-ltb most (length ds) (length-decimal-le most n room small lt) in
    let first : (eqb (get_or (ds ++ rest) 0 0) 48 && ltb 1 (length ds)) ≡ false = not_long n (get_or (ds ++ rest) 0 0) lt (λ _. front_of ds rest some) in
    rw (count, none, few, first, take_at ds rest (length ds) refl, drop_at ds rest (length ds) refl, digits_value-decimal numerals n lt) refl

-- ---- and the byte behind it

pub number_takes : (wanted : ℕ) (bytes : List ℕ) (n : ℕ) (rest : List ℕ) → number_at wanted bytes ≡ Some (n, rest) → bytes ≡ decimal n ++ wanted ∷ rest
unfolding number_at
number_takes wanted bytes n rest e =
    let a = some_bind (numeral_at 4 bytes) (λ number. cond (eqb number.0 0) None (byte_at wanted number.1 >>= λ rest. Some (number.0, rest))) (n, rest) e in
    let b = some_unless {A = ℕ × List ℕ} (eqb a.0.0 0) (byte_at wanted a.0.1 >>= λ rest. Some (a.0.0, rest)) (n, rest) a.2 in
    let c = some_bind (byte_at wanted a.0.1) (λ rest. Some (a.0.0, rest)) (n, rest) b.1 in
    let pair = some_is {A = ℕ × List ℕ} (a.0.0, c.0) (n, rest) c.2 in
    let whole : bytes ≡ decimal a.0.0 ++ wanted ∷ c.0 = (numeral_takes 4 bytes a.0.0 a.0.1 (omega arith) a.1).0 ∙ ap (λ (xs : List ℕ). decimal a.0.0 ++ xs) (byte_takes wanted a.0.1 c.0 c.1) in
    let P : ℕ × List ℕ → Type 0 = λ p. bytes ≡ decimal p.0 ++ wanted ∷ p.1 in
    subst P pair whole

stops_at : (b : ℕ) (rest : List ℕ) → is_ascii_digit b ≡ false → Stops (b ∷ rest)
stops_at b rest stop = rw stop refl

-- a number is read by its digits
pub number_again : (wanted n : ℕ) (rest : List ℕ) → is_ascii_digit wanted ≡ false → 0 < n → n < 10000 → number_at wanted (decimal n ++ wanted ∷ rest) ≡ Some (n, rest)
unfolding number_at
number_again wanted n rest stop some small =
    rw (numeral_again 4 n (wanted ∷ rest) (omega arith) (omega (arith, small)) (omega (arith, small)) (stops_at wanted rest stop), not_nothing n some, byte_again wanted rest) refl
