-- What a walk over both parts of a space comes to next.
use Rattle.std.proofs.Common.{◌≡◌, ℕ, ◌+◌, ◌-◌, ◌≤◌, inl, inr, ◌↔◌, List, [], ◌∷◌, ◌++◌, refl, sym, ap, ◌∙◌, arith, max}
use Rattle.heap_state.specs.Kept.{Kept, reserved_in}
use Rattle.heap_state.specs.Memory.Table.{Table}
use Rattle.heap_state.specs.Memory.Walk.{Walked, walk}
use Rattle.heap_state.proofs.Walks.Walking.{walk_end}
use Rattle.crossing_map.specs.declared.area.Area.{Area}
use Rattle.crossing_map.specs.declared.walked.Walked.{Walked as Next}
use Rattle.crossing_map.specs.declared.walked.Walked.TheVariants as next
use Rattle.crossing_map.specs.Theorems.{EndsInPart, IsBrokenAt, IsOrdered}
use Rattle.crossing_map.specs.Walking.{ReadsFrom, next_in, next_walked, nothing_reserved, or_next, passes_closed, passes_none, walk_from}
use Rattle.crossing_map.proofs.WalkedParts.{item, is_first, is_ended, is_broken}

nothing_left : (xs ys : List Walked) → xs ++ ys ≡ [] → (xs ≡ []) × (ys ≡ [])
nothing_left [] ys is = (refl, is)
nothing_left (x ∷ xs) ys is = absurd (cc)

module _ (t : Table) (kept : List Kept) (epoch : ℕ) (area : Area) (at : ℕ) (ordered : IsOrdered area at) where
  abbrev copies : ℕ → List Walked
  copies x = walk (area.front - x) passes_none (reserved_in kept) t.heap area.front x

  abbrev new_ones : ℕ → List Walked
  new_ones x = walk (area.end - x) (passes_closed t epoch) nothing_reserved t.heap area.end x

  abbrev next_copy : Next
  next_copy = next_in (area.front - at) passes_none (reserved_in kept) t.heap area.front at

  abbrev next_new : Next
  next_new = next_in (area.end - max at area.low) (passes_closed t epoch) nothing_reserved t.heap area.end (max at area.low)

  -- ---- a record

  abbrev IsFirst : ℕ → ℕ → Type 0
  IsFirst a size =
      (copies at ++ new_ones (max at area.low) ≡ item a size ∷ (copies (a + size) ++ new_ones (max (a + size) area.low))) × EndsInPart area a size

  first : (a size : ℕ) (c : Next) → next_copy ≡ c → or_next c next_new ≡ next.Record a size → IsFirst a size
  first a size next.Ended copy is =
      let none = (is_ended passes_none (reserved_in kept) t.heap area.front at).0 copy in
      let z = is_first (passes_closed t epoch) nothing_reserved t.heap area.end (max at area.low) a size is in
      let order = ordered.low_behind in
      let past : copies (a + size) ≡ [] = walk_end passes_none (reserved_in kept) t.heap area.front (area.front - (a + size)) (a + size) (omega (arith, z.1)) in
      let on : max (a + size) area.low ≡ a + size = omega (arith, z.1) in (
        ap (λ xs. xs ++ new_ones (max at area.low)) none.0 ∙ z.0
            ∙ ap (λ xs. item a size ∷ xs) (sym (ap (λ xs. xs ++ new_ones (max (a + size) area.low)) past ∙ ap new_ones on)),
        inr (omega (arith, z.1), z.3),
      )
  first a size (next.Record b s) copy is =
      let z = is_first passes_none (reserved_in kept) t.heap area.front at a size (copy ∙ is) in
      let order = ordered.low_behind in
      let here : max at area.low ≡ area.low = omega (arith, z.1, z.2) in
      let there : max (a + size) area.low ≡ area.low = omega (arith, z.3) in (
        ap (λ xs. xs ++ new_ones (max at area.low)) z.0
            ∙ ap (λ x. item a size ∷ (copies (a + size) ++ new_ones x)) (here ∙ sym there),
        inl (z.2, z.3),
      )
  first a size (next.Broken b) copy is = absurd (cc)

  pub is_next : (a size : ℕ) → next_walked t kept epoch area at ≡ next.Record a size → IsFirst a size
  is_next a size is = first a size next_copy refl is

  -- ---- the end

  ends : (c : Next) → next_copy ≡ c → or_next c next_new ≡ next.Ended → (walk_from t kept epoch area at ≡ []) × ReadsFrom t kept epoch area at
  ends next.Ended copy is =
      let c = (is_ended passes_none (reserved_in kept) t.heap area.front at).0 copy in
      let n = (is_ended (passes_closed t epoch) nothing_reserved t.heap area.end (max at area.low)).0 is in
      (ap (λ xs. xs ++ new_ones (max at area.low)) c.0 ∙ n.0, (c.1, n.1))
  ends (next.Record b s) copy is = absurd (cc)
  ends (next.Broken b) copy is = absurd (cc)

  pub ends_with_walk : (next_walked t kept epoch area at ≡ next.Ended) ↔ ((walk_from t kept epoch area at ≡ []) × ReadsFrom t kept epoch area at)
  ends_with_walk = (
    λ is. ends next_copy refl is,
    λ none.
        let both = nothing_left (copies at) (new_ones (max at area.low)) none.0 in
        let c = (is_ended passes_none (reserved_in kept) t.heap area.front at).1 (both.0, none.1.0) in
        let n = (is_ended (passes_closed t epoch) nothing_reserved t.heap area.end (max at area.low)).1 (both.1, none.1.1) in
        ap (λ c. or_next c next_new) c ∙ n,
  )

  -- ---- what is broken

  abbrev BreaksAt : ℕ → Type 0
  BreaksAt a = IsBrokenAt t kept epoch area a × (at ≤ a) × (walk_from t kept epoch area at ≡ walk_from t kept epoch area a)

  breaks : (a : ℕ) (c : Next) → next_copy ≡ c → or_next c next_new ≡ next.Broken a → BreaksAt a
  breaks a next.Ended copy is =
      let none = (is_ended passes_none (reserved_in kept) t.heap area.front at).0 copy in
      let z = is_broken (passes_closed t epoch) nothing_reserved t.heap area.end (max at area.low) a is in
      let order = ordered.low_behind in
      let past : copies a ≡ [] = walk_end passes_none (reserved_in kept) t.heap area.front (area.front - a) a (omega (arith, z.0)) in
      let on : max a area.low ≡ a = omega (arith, z.0) in (
        inr (omega (arith, z.0), z.2),
        omega (arith, z.0),
        ap (λ xs. xs ++ new_ones (max at area.low)) none.0 ∙ z.3 ∙ sym (ap (λ xs. xs ++ new_ones (max a area.low)) past ∙ ap new_ones on),
      )
  breaks a (next.Record b s) copy is = absurd (cc)
  breaks a (next.Broken b) copy is =
      let z = is_broken passes_none (reserved_in kept) t.heap area.front at a (copy ∙ is) in
      let order = ordered.low_behind in
      let here : max at area.low ≡ area.low = omega (arith, z.0, z.1) in
      let there : max a area.low ≡ area.low = omega (arith, z.1) in
      (inl (z.1, z.2), z.0, ap (λ xs. xs ++ new_ones (max at area.low)) z.3 ∙ ap (λ x. copies a ++ new_ones x) (here ∙ sym there))

  pub breaks_at_words : (a : ℕ) → next_walked t kept epoch area at ≡ next.Broken a → BreaksAt a
  breaks_at_words a is = breaks a next_copy refl is
