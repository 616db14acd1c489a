-- Sums over lists whose elements have partners.
use Rattle.std.proofs.Common.{◌≡◌, ◌≢◌, ◌⊎◌, inl, inr, ℕ, ◌+◌, ◌<◌, ◌≤◌, List, [], ◌∷◌, length, refl, sym, ap, ◌∙◌, arith}
use Rattle.std.specs.Prelude.{⊤}
use Rattle.std.specs.List.{AllByRecursion, sum_by}
use Rattle.std.proofs.lemmas.List.Sums.{sum_by-cons}
use Rattle.concordance_text.specs.Rows.{IsElementOf}
use Rattle.concordance.specs.Notes.Invariant.{AreFalling}
use Rattle.concordance.proofs.Lists.Elements.{all_by, all_map}

-- no key stands twice
abbrev pub IsOnceBy : {A K : Type 0} → (A → K) → List A → Type 0
IsOnceBy key [] = ⊤
IsOnceBy key (x ∷ xs) = AllByRecursion (λ y. key y ≢ key x) xs × IsOnceBy key xs

-- among others there is one with the same key, and no less weight
pub record HasPartner {X Y K : Type 0} (kx : X → K) (f : X → ℕ) (ky : Y → K) (g : Y → ℕ) (ys : List Y) (x : X) : Type 0 where
  pub partner : Y
  pub is : IsElementOf partner ys
  pub same : ky partner ≡ kx x
  pub less : f x ≤ g partner

-- the list without one of its elements
record Without {Y : Type 0} (g : Y → ℕ) (y : Y) (ys : List Y) : Type 0 where
  rest : List Y
  sum : sum_by g ys ≡ g y + sum_by g rest
  others : (z : Y) → IsElementOf z ys → (z ≡ y) ⊎ IsElementOf z rest

later : {Y : Type 0} (y z w : Y) (rest : List Y) → (w ≡ y) ⊎ IsElementOf w rest → (w ≡ y) ⊎ ((w ≡ z) ⊎ IsElementOf w rest)
later y z w rest (inl e) = inl e
later y z w rest (inr i) = inr (inr i)

module _ {Y : Type 0} (g : Y → ℕ) where
  without : (y : Y) (ys : List Y) → IsElementOf y ys → Without g y ys
  without y [] at = absurd at
  without y (z ∷ zs) (inl e) = record {
    rest = zs;
    sum = sum_by-cons g z zs ∙ ap (λ (v : Y). g v + sum_by g zs) (sym e);
    others = λ w i. first w i;
  }
    where
      first : (w : Y) → IsElementOf w (z ∷ zs) → (w ≡ y) ⊎ IsElementOf w zs
      first w (inl f) = inl (f ∙ sym e)
      first w (inr i) = inr i
  without y (z ∷ zs) (inr at) =
      let o = without y zs at in
      let s = o.sum in
      let c = sum_by-cons g z zs in
      let d = sum_by-cons g z o.rest in record {
        rest = z ∷ o.rest;
        sum = omega (arith, s, c, d);
        others = λ w i. next o w i;
      }
    where
      next : (o : Without g y zs) (w : Y) → IsElementOf w (z ∷ zs) → (w ≡ y) ⊎ ((w ≡ z) ⊎ IsElementOf w o.rest)
      next o w (inl e) = inr (inl e)
      next o w (inr i) = later y z w o.rest (o.others w i)

module _ {X Y K : Type 0} (kx : X → K) (f : X → ℕ) (ky : Y → K) (g : Y → ℕ) where
  -- the others keep their partners
  still : (x : X) (y : Y) (ys : List Y) (o : Without g y ys) → ky y ≡ kx x → (xs : List X) → AllByRecursion (λ z. kx z ≢ kx x) xs → AllByRecursion (HasPartner kx f ky g ys) xs → AllByRecursion (HasPartner kx f ky g o.rest) xs
  still x y ys o same [] other has = tt
  still x y ys o same (z ∷ zs) other has = (one has.0 (o.others has.0.partner has.0.is), still x y ys o same zs other.1 has.1)
    where
      one : (p : HasPartner kx f ky g ys z) → (p.partner ≡ y) ⊎ IsElementOf p.partner o.rest → HasPartner kx f ky g o.rest z
      one p (inl e) = absurd (other.0 (sym p.same ∙ (ap ky e ∙ same)))
      one p (inr i) = record { partner = p.partner; is = i; same = p.same; less = p.less }

  -- where no key stands twice, and each element has a partner, the sum is no more than that of the others
  pub partners_sum_to_more : (xs : List X) (ys : List Y) → IsOnceBy kx xs → AllByRecursion (HasPartner kx f ky g ys) xs → sum_by f xs ≤ sum_by g ys
  partners_sum_to_more [] ys once has = omega arith
  partners_sum_to_more (x ∷ xs) ys once has =
      let p = has.0 in
      let o = without g p.partner ys p.is in
      let rest = partners_sum_to_more xs o.rest once.1 (still x p.partner ys o p.same xs once.0 has.1) in
      let c = sum_by-cons f x xs in
      let s = o.sum in
      let l = p.less in
      omega (arith, rest, c, s, l)

-- ---- lengths

length_is_sum : (xs : List ℕ) → sum_by (λ (x : ℕ). 1) xs ≡ length xs
length_is_sum [] = refl
length_is_sum (x ∷ xs) =
    let c = sum_by-cons (λ (y : ℕ). 1) x xs in
    let rest = length_is_sum xs in
    omega (arith, c, rest)

falling_once : (ns : List ℕ) → AreFalling ns → IsOnceBy (λ (n : ℕ). n) ns
falling_once [] falling = tt
falling_once (n ∷ ns) falling = (all_map (λ k. k < n) (λ k. k ≢ n) ns (λ k at less same. absurd (omega arith)) falling.0, falling_once ns falling.1)

-- numbers that fall, and all stand among others, are no more than these
pub falling_are_fewer : (ns ks : List ℕ) → AreFalling ns → ((n : ℕ) → IsElementOf n ns → IsElementOf n ks) → length ns ≤ length ks
falling_are_fewer ns ks falling among =
    let sums = partners_sum_to_more (λ (n : ℕ). n) (λ (n : ℕ). 1) (λ (n : ℕ). n) (λ (n : ℕ). 1) ns ks (falling_once ns falling)
    (all_by (HasPartner (λ (n : ℕ). n) (λ (n : ℕ). 1) (λ (n : ℕ). n) (λ (n : ℕ). 1) ks) ns (λ n at. record { partner = n; is = among n at; same = refl; less = omega arith })) in
    let a = length_is_sum ns in
    let b = length_is_sum ks in
    omega (arith, sums, a, b)
