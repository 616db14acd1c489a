-- The least of the first numbers at which two things aren't so is the first at which they aren't both.
use Rattle.std.proofs.Common.{◌≡◌, ℕ, ◌<◌, ◌≤◌, Option, Some, None, arith, ⊎_elim}
use Rattle.std.proofs.lemmas.Bool.{cases_lt, lt-ltb, le-ltb}
use Rattle.heap_audit.specs.Firsts.{TellsFirst, least}

pub first_least : (S T : ℕ → Type 0) (x y : Option ℕ) → TellsFirst S x → TellsFirst T y → TellsFirst (λ a. S a × T a) (least x y)
first_least S T None None s t = λ a. (s a, t a)
first_least S T None (Some b) s t = (λ both. t.0 both.1, λ a l. (s a, t.1 a l))
first_least S T (Some a) None s t = (λ both. s.0 both.0, λ c l. (s.1 c l, t c))
first_least S T (Some a) (Some b) s t = ⊎_elim
    (λ (l : b < a). rw (lt-ltb b a l) (λ (both : S b × T b). t.0 both.1, λ c k. (s.1 c (omega arith), t.1 c k)))
    (λ (l : a ≤ b). rw (le-ltb b a l) (λ (both : S a × T a). s.0 both.0, λ c k. (s.1 c k, t.1 c (omega arith))))
    (cases_lt b a)

-- what is so exactly where something else is has the same first number
pub first_same : (S T : ℕ → Type 0) (x : Option ℕ) → ((a : ℕ) → S a → T a) → ((a : ℕ) → T a → S a) → TellsFirst S x → TellsFirst T x
first_same S T None to from s = λ a. to a (s a)
first_same S T (Some b) to from s = (λ t. s.0 (from b t), λ a l. to a (s.1 a l))

-- one number is the first that isn't another
pub first_of : (o : Option ℕ) → TellsFirst (λ a. o ≡ Some a → ⊥) o
first_of None = λ a e. cc
first_of (Some b) = (λ no. no (λ i. Some b), λ a l e. absurd (let q : b ≡ a = cc in omega arith))
