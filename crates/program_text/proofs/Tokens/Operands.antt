-- A list of tokens, as code takes it apart.
use Rattle.std.proofs.Common.{◌≡◌, ℕ, ◌-◌, ◌<◌, ◌≤◌, List, [], ◌∷◌, length, take, drop, Bor, slice_index_or, refl, sym, ap, arith}
use Rattle.std.proofs.lemmas.List.{take_all}
use Rattle.program_text.specs.Read.{tokens_view}

-- what an index past the end gives
abbrev nowhere : Bor (List ℕ)
nowhere = record { ref_ptr = (0, 0); now = [] }

-- the first token and the others
pub first : (o : List (Bor (List ℕ))) → 1 ≤ length o → tokens_view o ≡ (slice_index_or o 0 nowhere).now ∷ tokens_view (take (length o - 1) (drop 1 o))
first (a ∷ o) least = ap (λ (r : List (Bor (List ℕ))). a.now ∷ tokens_view r) (sym (take_all (length (a ∷ o) - 1) o (omega arith)))
first [] least = absurd (omega arith)

-- two tokens
pub two : (o : List (Bor (List ℕ))) → 2 ≤ length o → length o < 3 → tokens_view o ≡ (slice_index_or o 0 nowhere).now ∷ (slice_index_or o 1 nowhere).now ∷ []
two (a ∷ b ∷ []) least below = refl
two [] least below = absurd (omega arith)
two (a ∷ []) least below = absurd (omega arith)
two (a ∷ b ∷ c ∷ o) least below = absurd (omega arith)

-- three tokens
pub three : (o : List (Bor (List ℕ))) → 3 ≤ length o → length o < 4 → tokens_view o ≡ (slice_index_or o 0 nowhere).now ∷ (slice_index_or o 1 nowhere).now ∷ (slice_index_or o 2 nowhere).now ∷ []
three (a ∷ b ∷ c ∷ []) least below = refl
three [] least below = absurd (omega arith)
three (a ∷ []) least below = absurd (omega arith)
three (a ∷ b ∷ []) least below = absurd (omega arith)
three (a ∷ b ∷ c ∷ d ∷ o) least below = absurd (omega arith)

-- five tokens
pub five : (o : List (Bor (List ℕ))) → 5 ≤ length o → length o < 6
    → tokens_view o ≡ (slice_index_or o 0 nowhere).now ∷ (slice_index_or o 1 nowhere).now ∷ (slice_index_or o 2 nowhere).now ∷ (slice_index_or o 3 nowhere).now ∷ (slice_index_or o 4 nowhere).now ∷ []
five (a ∷ b ∷ c ∷ d ∷ e ∷ []) least below = refl
five [] least below = absurd (omega arith)
five (a ∷ []) least below = absurd (omega arith)
five (a ∷ b ∷ []) least below = absurd (omega arith)
five (a ∷ b ∷ c ∷ []) least below = absurd (omega arith)
five (a ∷ b ∷ c ∷ d ∷ []) least below = absurd (omega arith)
five (a ∷ b ∷ c ∷ d ∷ e ∷ f ∷ o) least below = absurd (omega arith)
