-- Names by their letters.
use Rattle.std.proofs.Common.{◌≡◌, ℕ, List, [], ◌∷◌, length, get_or, refl, ap, arith, Result, Ok, Err, MatchResult, IsOkAnd}
use Rattle.mutator_asm.specs.declared.mistake.Mistake.{Mistake}
use Rattle.mutator_asm.specs.Instr.{made}

-- a name of two letters
pub two_letters : (name : List ℕ) (a b : ℕ) → (length name ≡ 2) × (get_or name 0 0 ≡ a) × (get_or name 1 0 ≡ b) → name ≡ a ∷ b ∷ []
two_letters (x ∷ y ∷ []) a b (l, h, i) = rw (h, i) refl
two_letters [] a b (l, h, i) = absurd (omega arith)
two_letters (x ∷ []) a b (l, h, i) = absurd (omega arith)
two_letters (x ∷ y ∷ z ∷ r) a b (l, h, i) = absurd (omega arith)

-- a name of three letters
pub three_letters : (name : List ℕ) (a b c : ℕ) → (length name ≡ 3) × (get_or name 0 0 ≡ a) × (get_or name 1 0 ≡ b) × (get_or name 2 0 ≡ c) → name ≡ a ∷ b ∷ c ∷ []
three_letters (x ∷ name) a b c (l, h, i, j) = grind (arith, two_letters name b c)
three_letters [] a b c (l, h, i, j) = absurd (omega arith)

-- a name of four letters
pub four_letters : (name : List ℕ) (a b c d : ℕ) → (length name ≡ 4) × (get_or name 0 0 ≡ a) × (get_or name 1 0 ≡ b) × (get_or name 2 0 ≡ c) × (get_or name 3 0 ≡ d) → name ≡ a ∷ b ∷ c ∷ d ∷ []
four_letters (x ∷ name) a b c d (l, h, i, j, k) = grind (arith, three_letters name b c d)
four_letters [] a b c d (l, h, i, j, k) = absurd (omega arith)

-- a name of eight letters
pub eight_letters : (name : List ℕ) (a b c d e f g h : ℕ) → (length name ≡ 8) × (get_or name 0 0 ≡ a) × (get_or name 1 0 ≡ b) × (get_or name 2 0 ≡ c) × (get_or name 3 0 ≡ d) × (get_or name 4 0 ≡ e) × (get_or name 5 0 ≡ f) × (get_or name 6 0 ≡ g) × (get_or name 7 0 ≡ h) → name ≡ a ∷ b ∷ c ∷ d ∷ e ∷ f ∷ g ∷ h ∷ []
eight_letters (w ∷ x ∷ y ∷ z ∷ name) a b c d e f g h (l, i, j, k, m, n, o, p, q) = rw (i, j, k, m, four_letters name e f g h (search arith)) refl
eight_letters [] a b c d e f g h (l, i, j, k, m, n, o, p, q) = absurd (omega arith)
eight_letters (w ∷ []) a b c d e f g h (l, i, j, k, m, n, o, p, q) = absurd (omega arith)
eight_letters (w ∷ x ∷ []) a b c d e f g h (l, i, j, k, m, n, o, p, q) = absurd (omega arith)
eight_letters (w ∷ x ∷ y ∷ []) a b c d e f g h (l, i, j, k, m, n, o, p, q) = absurd (omega arith)

-- a name of nine letters
pub nine_letters : (name : List ℕ) (a b c d e f g h i : ℕ) → (length name ≡ 9) × (get_or name 0 0 ≡ a) × (get_or name 1 0 ≡ b) × (get_or name 2 0 ≡ c) × (get_or name 3 0 ≡ d) × (get_or name 4 0 ≡ e) × (get_or name 5 0 ≡ f) × (get_or name 6 0 ≡ g) × (get_or name 7 0 ≡ h) × (get_or name 8 0 ≡ i) → name ≡ a ∷ b ∷ c ∷ d ∷ e ∷ f ∷ g ∷ h ∷ i ∷ []
nine_letters (x ∷ name) a b c d e f g h i (l, j, k, m, n, o, p, q, r, s) = rw (j, eight_letters name b c d e f g h i (search arith)) refl
nine_letters [] a b c d e f g h i (l, j, k, m, n, o, p, q, r, s) = absurd (omega arith)

-- what is made of the operands that were read
pub made_of : {A B : Type 0} {f : A → B} {P : A → B → Type 0} (read : Result A Mistake) (r : Result B Mistake) → MatchResult read (λ o. IsOkAnd r (P o)) (λ e. r ≡ Err e) → ((o : A) (x : B) → P o x → x ≡ f o) → r ≡ made f read
made_of (Ok o) (Ok x) h k = ap Ok (k o x h)
made_of (Ok o) (Err e) h k = absurd h
made_of (Err e) r h k = h
