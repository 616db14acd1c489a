-- Texts that are put together piece by piece.
use Rattle.std.proofs.Common.{◌≡◌, ℕ, zero, suc, ◌+◌, List, ◌++◌, length, refl, sym, ap, ◌∙◌, arith}
use Rattle.std.proofs.lemmas.List.{append_assoc, length_push}
use Rattle.checkpoint_text.specs.Records.{value_read, values_read}

-- one piece behind the others
pub onto : (t u v x y : List ℕ) → u ≡ t ++ x → v ≡ u ++ y → v ≡ t ++ (x ++ y)
onto t u v x y first second = second ∙ ap (λ (w : List ℕ). w ++ y) first ∙ append_assoc t x y

-- three pieces that are put together from behind
pub onto_three : (t u v x a b d : List ℕ) → u ≡ t ++ x → v ≡ u ++ (a ++ (b ++ d)) → v ≡ t ++ (x ++ a ++ b ++ d)
onto_three t u v x a b d first second =
    onto t u v x (a ++ (b ++ d)) first second ∙ ap (λ (w : List ℕ). t ++ w) (sym (append_assoc x a (b ++ d)) ∙ sym (append_assoc (x ++ a) b d))

pub length_values : (heap : ℕ → ℕ) (first fields count : ℕ) → length (values_read heap first fields count) ≡ count
length_values heap first fields zero = refl
length_values heap first fields (suc x) = omega (arith, length_push (values_read heap first fields x) (value_read heap (first + x) x fields), length_values heap first fields x)
