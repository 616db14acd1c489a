-- The first words of a table, which a dump tells.
use Rattle.std.proofs.Common.{◌≡◌, ℕ, ◌<◌, zero, suc, List, [], ◌∷◌, Some, length, take, slice_get, arith}

-- each of them is the table's
pub word_taken : (n : ℕ) (words : List ℕ) (place word : ℕ) → place < length (take n words) → slice_get words place ≡ Some word → slice_get (take n words) place ≡ Some word
word_taken zero words place word within is = absurd (omega (arith, within))
word_taken (suc n) [] place word within is = is
word_taken (suc n) (x ∷ words) zero word within is = is
word_taken (suc n) (x ∷ words) (suc place) word within is = word_taken n words place word (omega (arith, within)) is
