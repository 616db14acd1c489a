-- Elements of lists.
use Rattle.std.proofs.Common.{◌≡◌, ◌⊎◌, ⊎_elim, inl, inr, List, [], ◌∷◌, ◌++◌, refl, sym, ap, subst}
use Rattle.std.specs.List.{AllByRecursion}
use Rattle.concordance_text.specs.Rows.{IsElementOf}

module _ {A : Type 0} where
  pub all_at : (P : A → Type 0) (xs : List A) (x : A) → AllByRecursion P xs → IsElementOf x xs → P x
  all_at P [] x all at = absurd at
  all_at P (y ∷ ys) x all (inl e) = subst P (sym e) all.0
  all_at P (y ∷ ys) x all (inr at) = all_at P ys x all.1 at

  pub all_by : (P : A → Type 0) (xs : List A) → ((x : A) → IsElementOf x xs → P x) → AllByRecursion P xs
  all_by P [] each = tt
  all_by P (x ∷ xs) each = (each x (inl refl), all_by P xs (λ y at. each y (inr at)))

  pub all_map : (P Q : A → Type 0) (xs : List A) → ((x : A) → IsElementOf x xs → P x → Q x) → AllByRecursion P xs → AllByRecursion Q xs
  all_map P Q xs each all = all_by Q xs (λ x at. each x at (all_at P xs x all at))

  -- ---- lists with more at the end

  pub in_front : (x : A) (xs ys : List A) → IsElementOf x xs → IsElementOf x (xs ++ ys)
  in_front x [] ys at = absurd at
  in_front x (z ∷ zs) ys (inl e) = inl e
  in_front x (z ∷ zs) ys (inr at) = inr (in_front x zs ys at)

  pub in_back : (x : A) (xs ys : List A) → IsElementOf x ys → IsElementOf x (xs ++ ys)
  in_back x [] ys at = at
  in_back x (z ∷ zs) ys at = inr (in_back x zs ys at)

  pub in_either : (x : A) (xs ys : List A) → IsElementOf x (xs ++ ys) → IsElementOf x xs ⊎ IsElementOf x ys
  in_either x [] ys at = inr at
  in_either x (z ∷ zs) ys (inl e) = inl (inl e)
  in_either x (z ∷ zs) ys (inr at) = ⊎_elim (λ f. inl (inr f)) (λ b. inr b) (in_either x zs ys at)

  pub in_last : (x y : A) (xs : List A) → IsElementOf x (xs ++ y ∷ []) → IsElementOf x xs ⊎ (x ≡ y)
  in_last x y xs at = ⊎_elim (λ f. inl f) (λ b. ⊎_elim (λ e. inr e) (λ none. absurd none) b) (in_either x xs (y ∷ []) at)

  pub all_append : (P : A → Type 0) (xs ys : List A) → AllByRecursion P xs → AllByRecursion P ys → AllByRecursion P (xs ++ ys)
  all_append P [] ys all more = more
  all_append P (x ∷ xs) ys all more = (all.0, all_append P xs ys all.1 more)

  pub all_apart : (P : A → Type 0) (xs ys : List A) → AllByRecursion P (xs ++ ys) → AllByRecursion P xs × AllByRecursion P ys
  all_apart P [] ys h = (tt, h)
  all_apart P (x ∷ xs) ys h = let both = all_apart P xs ys h.1 in ((h.0, both.0), both.1)

  -- ---- one element among others

  -- where it stands
  pub record StandsIn (x : A) (xs : List A) : Type 0 where
    pub front : List A
    pub back : List A
    pub is : xs ≡ front ++ x ∷ back

  pub stands_in : (x : A) (xs : List A) → IsElementOf x xs → StandsIn x xs
  stands_in x [] at = absurd at
  stands_in x (y ∷ ys) (inl e) = record { front = []; back = ys; is = ap (λ z. z ∷ ys) (sym e) }
  stands_in x (y ∷ ys) (inr at) = let s = stands_in x ys at in record { front = y ∷ s.front; back = s.back; is = ap (λ zs. y ∷ zs) s.is }

  -- another in its place
  pub all_replaced : (P : A → Type 0) (front back : List A) (x y : A) → (P x → P y) → AllByRecursion P (front ++ x ∷ back) → AllByRecursion P (front ++ y ∷ back)
  all_replaced P [] back x y turn all = (turn all.0, all.1)
  all_replaced P (z ∷ zs) back x y turn all = (all.0, all_replaced P zs back x y turn all.1)
