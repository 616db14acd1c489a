-- A word of a state in 2 bits, a worker in 8 and, past 6 bits 0, a number in 32: it says what its parts say, and nothing else is made
-- as that word.
use Rattle.std.proofs.Common.{◌≡◌, ◌≢◌, ℕ, ◌+◌, ◌*◌, ◌/◌, ◌%◌, ◌^◌, ◌-◌, ◌<◌, ◌≤◌, Bool, true, false, cond, ◌&&◌, nat_lt, bit_and, bit_or, Option, Some, None, Result, IfSome, IfNone, refl, sym, arith}
use Rattle.std.proofs.lemmas.Bool.Decides.{nat_tests}
use Rattle.std.proofs.lemmas.Nat.{and_mask}
use Rattle.std.specs.Result.{OkIff, result_ok}
use Rattle.space_map.proofs.Bits.{or_above}
use Rattle.space_map.proofs.Narrowed.{too_big, kept}

-- ---- the word of its parts

pub packed-without_worker : (state number : ℕ) → state < 4 → number < 2 ^ 32 → bit_or state (number * 2 ^ 16 % 2 ^ 64) ≡ state + 2 ^ 16 * number
packed-without_worker state number state_fits number_fits =
    let whole : number * 2 ^ 16 % 2 ^ 64 ≡ number * 2 ^ 16 = omega arith in
    rw (whole, or_above state number 16 (omega arith)) (omega arith)

pub packed : (state worker number : ℕ) → state < 4 → worker < 2 ^ 8 → number < 2 ^ 32
    → bit_or (bit_or state (worker * 2 ^ 2 % 2 ^ 64)) (number * 2 ^ 16 % 2 ^ 64) ≡ state + 4 * worker + 2 ^ 16 * number
packed state worker number state_fits worker_fits number_fits =
    let worker_whole : worker * 2 ^ 2 % 2 ^ 64 ≡ worker * 2 ^ 2 = omega arith in
    let number_whole : number * 2 ^ 16 % 2 ^ 64 ≡ number * 2 ^ 16 = omega arith in
    rw (
      worker_whole,
      number_whole,
      or_above state worker 2 state_fits,
      or_above (state + worker * 2 ^ 2) number 16 (omega arith),
    ) (omega arith)

-- ---- by the tests of a word

none_if : {A : Type 0} (a b : Bool) (said : Option A) → b ≡ false → cond (a && b) said None ≡ None
none_if true b said test = rw test refl
none_if false b said test = refl

said_if : {A : Type 0} (b : Bool) (said : Option A) (x : A) → cond b said None ≡ Some x → (b ≡ true) × (said ≡ Some x)
said_if true said x is = (refl, is)
said_if false said x is = cc

-- both tests of such a word hold
record Tests (w : ℕ) : Type 0 where
  narrow : w / 4 % 2 ^ 14 < 2 ^ 8
  short : w < 2 ^ 48

tested : (w : ℕ) → nat_lt (w / 4 % 2 ^ 14) (2 ^ 8) && nat_lt w (2 ^ 48) ≡ true → Tests w
tested w tests = record { narrow = grind (arith, nat_tests); short = grind (arith, nat_tests) }

module _ {A : Type 0} (said : (state worker number : ℕ) → Option A) where
  -- what a word says, if it is such a word
  abbrev pub read : ℕ → Option A
  read w = cond (nat_lt (w / 4 % 2 ^ 14) (2 ^ 8) && nat_lt w (2 ^ 48)) (said (w % 4) (w / 4 % 2 ^ 14) (w / 2 ^ 16)) None

  read-said : (w : ℕ) → w < 2 ^ 48 → w / 4 % 2 ^ 14 < 2 ^ 8 → read w ≡ said (w % 4) (w / 4 % 2 ^ 14) (w / 2 ^ 16)
  read-said w is_short is_narrow =
      let narrow : nat_lt (w / 4 % 2 ^ 14) (2 ^ 8) ≡ true = grind (arith, nat_tests) in
      let short : nat_lt w (2 ^ 48) ≡ true = grind (arith, nat_tests) in
      rw (narrow, short) refl

  read-long : (w : ℕ) → 2 ^ 48 ≤ w → read w ≡ None
  read-long w long =
      let test : nat_lt w (2 ^ 48) ≡ false = grind (arith, nat_tests) in
      none_if (nat_lt (w / 4 % 2 ^ 14) (2 ^ 8)) _ (said (w % 4) (w / 4 % 2 ^ 14) (w / 2 ^ 16)) test

  read-wide : (w : ℕ) → 2 ^ 8 ≤ w / 4 % 2 ^ 14 → read w ≡ None
  read-wide w wide = let test : nat_lt (w / 4 % 2 ^ 14) (2 ^ 8) ≡ false = grind (arith, nat_tests) in rw test refl

  -- a word by its parts, if they are in range
  pub read-parts : (w state worker number : ℕ) → w ≡ state + 4 * worker + 2 ^ 16 * number → state < 4 → worker < 2 ^ 8
      → number < 2 ^ 32 → read w ≡ said state worker number
  read-parts w state worker number is state_fits worker_fits number_fits =
      let worker_is : w / 4 % 2 ^ 14 ≡ worker = omega arith in
      let number_is : w / 2 ^ 16 ≡ number = omega arith in
      let state_is : w % 4 ≡ state = omega arith in
      rw (read-said w (omega arith) (omega arith), worker_is, number_is, state_is) refl

  -- ---- what a word says, by its parts as they are narrowed

  pub read-no_number : {E : Type 0} (w : ℕ) (r : Result ℕ E) → OkIff r (w / 2 ^ 16 < 2 ^ 32) (w / 2 ^ 16) → None ≡ result_ok r → read w ≡ None
  read-no_number w r narrowed none = let long = too_big r (w / 2 ^ 16) (2 ^ 32) narrowed none in read-long w (omega arith)

  pub read-no_worker : {E : Type 0} (w : ℕ) (r : Result ℕ E) → OkIff r (bit_and (w / 4) (2 ^ 14 - 1) < 2 ^ 8) (bit_and (w / 4) (2 ^ 14 - 1)) → None ≡ result_ok r
      → read w ≡ None
  read-no_worker w r narrowed none =
      let wide = too_big r (bit_and (w / 4) (2 ^ 14 - 1)) (2 ^ 8) narrowed none in read-wide w (rw (← and_mask (w / 4) 14) wide)

  pub read-both : {D E : Type 0} (w worker number : ℕ) (r : Result ℕ D) (s : Result ℕ E) → OkIff r (w / 2 ^ 16 < 2 ^ 32) (w / 2 ^ 16) → Some number ≡ result_ok r
      → OkIff s (bit_and (w / 4) (2 ^ 14 - 1) < 2 ^ 8) (bit_and (w / 4) (2 ^ 14 - 1)) → Some worker ≡ result_ok s → read w ≡ said (bit_and w (2 ^ 2 - 1)) worker number
  read-both w worker number r s number_fits number_is worker_fits worker_is =
      let of_number = kept r (w / 2 ^ 16) (2 ^ 32) number number_fits number_is in
      let of_worker = kept s (bit_and (w / 4) (2 ^ 14 - 1)) (2 ^ 8) worker worker_fits worker_is in
      let narrow : w / 4 % 2 ^ 14 < 2 ^ 8 = rw (← and_mask (w / 4) 14) of_worker.below in
      let short : w < 2 ^ 48 = let below = of_number.below in omega arith in
      rw (read-said w short narrow, of_worker.same, of_number.same, and_mask w 2, and_mask (w / 4) 14) refl

-- ---- from the word decoded

-- what is said is made as the word of these parts, and fits if they are in range
pub record Parts {A : Type 0} (encode : A → ℕ) (Fits : A → Type 0) (x : A) (state worker number : ℕ) : Type 0 where
  pub spelled : encode x ≡ state + 4 * worker + 2 ^ 16 * number
  pub fits : worker < 2 ^ 8 → number < 2 ^ 32 → Fits x

module _ {A : Type 0} (said : (state worker number : ℕ) → Option A) (encode : A → ℕ) (Fits : A → Type 0) (parts_said : (state worker number : ℕ) (x : A) → said state worker number ≡ Some x → Parts encode Fits x state worker number) where
  pub encode-read : (w : ℕ) (x : A) → read said w ≡ Some x → encode x ≡ w
  encode-read w x is =
      let by_tests = said_if _ (said (w % 4) (w / 4 % 2 ^ 14) (w / 2 ^ 16)) x is in
      let parts = parts_said (w % 4) (w / 4 % 2 ^ 14) (w / 2 ^ 16) x by_tests.1 in
      omega (arith, parts.spelled)

  pub Fits-read : (w : ℕ) (x : A) → read said w ≡ Some x → Fits x
  Fits-read w x is =
      let by_tests = said_if _ (said (w % 4) (w / 4 % 2 ^ 14) (w / 2 ^ 16)) x is in
      let parts = parts_said (w % 4) (w / 4 % 2 ^ 14) (w / 2 ^ 16) x by_tests.1 in
      let tests = tested w by_tests.0 in
      let short = tests.short in
      parts.fits tests.narrow (omega arith)

-- ---- from what was read

pub spelled : {A : Type 0} (decode : ℕ → Option A) (encode : A → ℕ) → ((w : ℕ) (x : A) → decode w ≡ Some x → encode x ≡ w)
    → (w : ℕ) (said : Option A) → said ≡ decode w → IfSome said (λ x. encode x ≡ w)
spelled decode encode encode-decode w (Some x) is = encode-decode w x (sym is)
spelled decode encode encode-decode w None is = tt

pub no_word : {A : Type 0} (decode : ℕ → Option A) (encode : A → ℕ) (Fits : A → Type 0) → ((x : A) → Fits x → decode (encode x) ≡ Some x)
    → (w : ℕ) (said : Option A) → said ≡ decode w → IfNone said ((x : A) → Fits x → encode x ≢ w)
no_word decode encode Fits decode-encode w (Some x) is = tt
no_word decode encode Fits decode-encode w None is = λ x fits same.
    let reads : decode (encode x) ≡ Some x = decode-encode x fits in
    let at_w : decode w ≡ Some x = rw (← same) reads in
    cc
