-- Letters that are written into a record one by one, and compared one by one.
use Rattle.std.proofs.Common.{◌≡◌, ℕ, zero, suc, ◌<◌, ◌≤◌, List, [], ◌∷◌, map, length, replicate, get_or, slice_set, refl, ap, ap₂, arith}
use Rattle.plain_state.specs.declared.value.Value.{Value}
use Rattle.plain_state.specs.declared.value.Value.TheVariants.{Number}

-- so many of the letters are written, and the rest is 0
abbrev pub written : List ℕ → (count : ℕ) → List Value
written [] count = []
written (x ∷ xs) zero = Number 0 ∷ written xs zero
written (x ∷ xs) (suc count) = Number x ∷ written xs count

pub none_written : (word : List ℕ) → replicate (length word) (Number 0) ≡ written word 0
none_written [] = refl
none_written (x ∷ xs) = ap (λ (vs : List Value). Number 0 ∷ vs) (none_written xs)

pub all_written : (word : List ℕ) (count : ℕ) → length word ≤ count → written word count ≡ map Number word
all_written [] count all = refl
all_written (x ∷ xs) zero all = absurd (omega arith)
all_written (x ∷ xs) (suc count) all = ap (λ (vs : List Value). Number x ∷ vs) (all_written xs count (omega arith))

pub one_written : (word : List ℕ) (count : ℕ) → slice_set (written word count) count (Number (get_or word count 0)) ≡ written word (suc count)
one_written [] count = refl
one_written (x ∷ xs) zero = refl
one_written (x ∷ xs) (suc count) = ap (λ (vs : List Value). Number x ∷ vs) (one_written xs count)

pub length_written : (word : List ℕ) (count : ℕ) → length (written word count) ≡ length word
length_written [] count = refl
length_written (x ∷ xs) zero = ap suc (length_written xs zero)
length_written (x ∷ xs) (suc count) = ap suc (length_written xs count)

-- ---- compared

pub letter_at : (letters : List ℕ) (i : ℕ) → get_or (map Number letters) i (Number 0) ≡ Number (get_or letters i 0)
letter_at [] i = refl
letter_at (x ∷ xs) zero = refl
letter_at (x ∷ xs) (suc i) = letter_at xs i

-- the first letters are the same
abbrev pub AgreesTo : List ℕ → List ℕ → (count : ℕ) → Type 0
AgreesTo xs ys count = (i : ℕ) → i < count → get_or xs i 0 ≡ get_or ys i 0

pub agree_all : (xs ys : List ℕ) → length xs ≡ length ys → AgreesTo xs ys (length ys) → xs ≡ ys
agree_all [] [] same agrees = refl
agree_all [] (y ∷ ys) same agrees = absurd (omega arith)
agree_all (x ∷ xs) [] same agrees = absurd (omega arith)
agree_all (x ∷ xs) (y ∷ ys) same agrees = ap₂ (λ (z : ℕ) (zs : List ℕ). z ∷ zs) (agrees 0 (omega arith)) (agree_all xs ys (omega arith) (λ i within. agrees (suc i) (omega arith)))
