-- Parts of a text, and the rest that is cut next.
use Rattle.std.proofs.Common.{◌≡◌, ◌⊎◌, ⊎_elim, inl, inr, List, [], ◌∷◌, ◌++◌, flat_map, refl, sym, ap, ◌∙◌, append_assoc, append-nil}
use Rattle.std.specs.List.{AllByRecursion}
use Rattle.concordance_text.specs.declared.part.Part.{Part}
use Rattle.concordance_text.specs.Parts.{AreCutAtLineEnds, EndsWithLine, bytes_of}

pub all_append : {A : Type 0} (P : A → Type 0) (xs ys : List A) → AllByRecursion P xs → AllByRecursion P ys → AllByRecursion P (xs ++ ys)
all_append P [] ys a b = b
all_append P (x ∷ xs) ys a b = (a.0, all_append P xs ys a.1 b)

pub all_push : {A : Type 0} (P : A → Type 0) (xs : List A) (y : A) → AllByRecursion P xs → P y → AllByRecursion P (xs ++ y ∷ [])
all_push P xs y all last = all_append P xs (y ∷ []) all (last, tt)

pub flat_map_last : {A X : Type 0} (f : A → List X) (xs : List A) (y : A) (zs : List X) → flat_map f (xs ++ y ∷ []) ++ zs ≡ flat_map f xs ++ (f y ++ zs)
flat_map_last f [] y zs = ap (λ l. l ++ zs) (append-nil (f y))
flat_map_last f (x ∷ xs) y zs = append_assoc (f x) _ zs ∙ ap (λ l. f x ++ l) (flat_map_last f xs y zs) ∙ sym (append_assoc (f x) _ _)

-- a rest that is cut has the same elements
pub same_elements : {X : Type 0} (f : Part → List X) (ps : List Part) (rest p q : Part) → f p ++ f q ≡ f rest → flat_map f ((ps ++ p ∷ []) ++ q ∷ []) ≡ flat_map f (ps ++ rest ∷ [])
same_elements f [] rest p q e = sym (append_assoc (f p) (f q) []) ∙ ap (λ l. l ++ []) e
same_elements f (x ∷ ps) rest p q e = ap (λ l. f x ++ l) (same_elements f ps rest p q e)

pub cut_once_more : (ps : List Part) (rest p q : Part) → bytes_of p ++ bytes_of q ≡ bytes_of rest → EndsWithLine (bytes_of p) ⊎ (bytes_of q ≡ []) → AreCutAtLineEnds (ps ++ rest ∷ []) → AreCutAtLineEnds ((ps ++ p ∷ []) ++ q ∷ [])
cut_once_more [] rest p q e there cut = (⊎_elim (λ h. inl h) (λ h. inr (append-nil (bytes_of q) ∙ h)) there, (inr refl, tt))
cut_once_more (x ∷ ps) rest p q e there cut = (⊎_elim (λ h. inl h) (λ h. inr (same_elements bytes_of ps rest p q e ∙ h)) cut.0, cut_once_more ps rest p q e there cut.1)

front_of_nothing : {X : Type 0} (xs ys : List X) → xs ++ ys ≡ [] → xs ≡ []
front_of_nothing [] ys e = refl
front_of_nothing (x ∷ xs) ys e = absurd (let h : x ∷ (xs ++ ys) ≡ [] = e in cc)

pub without_rest : (ps : List Part) (rest : Part) → AreCutAtLineEnds (ps ++ rest ∷ []) → AreCutAtLineEnds ps
without_rest [] rest cut = tt
without_rest (p ∷ ps) rest cut = (
  ⊎_elim (λ h. inl h) (λ h. inr (front_of_nothing (flat_map bytes_of ps) (bytes_of rest ++ []) (sym (flat_map_last bytes_of ps rest []) ∙ append-nil _ ∙ h))) cut.0,
  without_rest ps rest cut.1,
)
