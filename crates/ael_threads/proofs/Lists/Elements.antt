-- Facts of each element of a list, beginnings of lists, and lists made of others one by one.
use Rattle.std.proofs.Common.{◌≡◌, ℕ, ◌+◌, ◌<◌, ◌≤◌, List, [], ◌∷◌, ◌++◌, map, take, get_or, length, refl, subst, sym, ◌∙◌, ap, append_assoc, append-nil, arith}
use Rattle.std.proofs.lemmas.List.{map_more, take_all}
use mathlib.Core.List.{IsPrefix}
use Rattle.ael_threads.specs.Histories.{Each}

module _ {A : Type 0} where
  pub each_map : (P Q : A → Type 0) → ((x : A) → P x → Q x) → (xs : List A) → Each P xs → Each Q xs
  each_map P Q f [] h = tt
  each_map P Q f (x ∷ xs) h = (f x h.0, each_map P Q f xs h.1)

  pub each_append : (P : A → Type 0) → (xs ys : List A) → Each P xs → Each P ys → Each P (xs ++ ys)
  each_append P [] ys h k = k
  each_append P (x ∷ xs) ys h k = (h.0, each_append P xs ys h.1 k)

  pub each_apart : (P : A → Type 0) → (xs ys : List A) → Each P (xs ++ ys) → Each P xs × Each P ys
  each_apart P [] ys h = (tt, h)
  each_apart P (x ∷ xs) ys h = let both = each_apart P xs ys h.1 in ((h.0, both.0), both.1)

  pub each_of_map : {B : Type 0} (P : B → Type 0) (f : A → B) (xs : List A) → Each P (map f xs) → Each (λ (x : A). P (f x)) xs
  each_of_map P f [] h = tt
  each_of_map P f (x ∷ xs) h = (h.0, each_of_map P f xs h.1)

  pub each_to_map : {B : Type 0} (P : B → Type 0) (f : A → B) (xs : List A) → Each (λ (x : A). P (f x)) xs → Each P (map f xs)
  each_to_map P f [] h = tt
  each_to_map P f (x ∷ xs) h = (h.0, each_to_map P f xs h.1)

  pub each_both : (P Q : A → Type 0) (xs : List A) → Each P xs → Each Q xs → Each (λ (x : A). P x × Q x) xs
  each_both P Q [] h k = tt
  each_both P Q (x ∷ xs) h k = ((h.0, k.0), each_both P Q xs h.1 k.1)

  pub each_at : (P : A → Type 0) (xs ys : List A) (y : A) → Each P (xs ++ y ∷ ys) → P y
  each_at P [] ys y h = h.0
  each_at P (x ∷ xs) ys y h = each_at P xs ys y h.1

  pub not_empty : (xs ys : List A) (x : A) → xs ++ x ∷ ys ≡ [] → ⊥
  not_empty [] ys x e = cc
  not_empty (z ∷ zs) ys x e = cc

  -- a list with one more at its end tells both
  pub one_less : (xs ys : List A) (x y : A) → xs ++ x ∷ [] ≡ ys ++ y ∷ [] → (x ≡ y) × (xs ≡ ys)
  one_less [] [] x y e = let q : x ≡ y = cc in (q, refl)
  one_less [] (z ∷ ys) x y e = let q : [] ≡ ys ++ y ∷ [] = cc in absurd (not_empty ys [] y (sym q))
  one_less (z ∷ xs) [] x y e = let q : xs ++ x ∷ [] ≡ [] = cc in absurd (not_empty xs [] x q)
  one_less (z ∷ xs) (w ∷ ys) x y e =
      let rest : xs ++ x ∷ [] ≡ ys ++ y ∷ [] = cc in
      let r = one_less xs ys x y rest in
      let first : z ≡ w = cc in
      (r.0, λ i. first i ∷ r.1 i)

  pub prefix_more : (xs ys zs : List A) → IsPrefix xs ys → IsPrefix xs (ys ++ zs)
  prefix_more xs ys zs h = (h.0 ++ zs, sym (append_assoc xs h.0 zs) ∙ ap (λ (z : List A). z ++ zs) h.1)

  pub prefix_self : (xs : List A) → IsPrefix xs xs
  prefix_self xs = ([], append-nil xs)

  pub prefix_trans : (xs ys zs : List A) → IsPrefix xs ys → IsPrefix ys zs → IsPrefix xs zs
  prefix_trans xs ys zs h k = (h.0 ++ k.0, sym (append_assoc xs h.0 k.0) ∙ (ap (λ z. z ++ k.0) h.1 ∙ k.1))

-- there is room for one more
pub has_room : (count i all room : ℕ) → count ≡ i → i < all → all ≤ room → count < room
has_room count i all room is more fits = omega (arith, is, more, fits)

-- after some, what is made of each element of a list, which was also read under another name
module _ {A B : Type 0} (f : A → B) (before : List B) (xs ys : List A) (same : ys ≡ xs) where
  -- so far, and of one more
  pub made_more : (i : ℕ) (x : A) (y : B) (made later : List B) → i < length ys → x ≡ get_or ys i x → y ≡ f x → made ≡ before ++ map f (take i xs) → later ≡ made ++ y ∷ [] → later ≡ before ++ map f (take (i + 1) xs)
  made_more i x y made later below at is so_far grown =
      let within : i < length xs = subst (λ (z : List A). i < length z) same below in
      let last : y ≡ f (get_or xs i x) = is ∙ ap f (at ∙ ap (λ (z : List A). get_or z i x) same) in
      grown ∙ ((λ j. so_far j ++ last j ∷ []) ∙ (append_assoc before (map f (take i xs)) _ ∙ ap (λ (z : List B). before ++ z) (sym (map_more f xs i x within))))

  -- of all
  pub made_all : (i : ℕ) (made : List B) → length ys ≤ i → made ≡ before ++ map f (take i xs) → made ≡ before ++ map f xs
  made_all i made all so_far = so_far ∙ ap (λ (z : List A). before ++ map f z) (take_all i xs (subst (λ (z : List A). length z ≤ i) same all))
