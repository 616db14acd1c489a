-- What is walked of a space is what stands there.
use Rattle.std.proofs.Common.{◌≡◌, ℕ, ◌+◌, ◌-◌, ◌<◌, ◌≤◌, Bool, true, false, List, [], ◌∷◌, ◌++◌, zero-add, refl, sym, arith, ⊎_elim, ◌⊎◌, inl, inr}
use Rattle.std.specs.List.{Contains}
use Rattle.std.proofs.lemmas.Bool.{cases_lt}
use Rattle.std.proofs.lemmas.List.Elements.{All-append, All-contains, All-weaker, Contains-append_left, Contains-append_right}
use Rattle.space_map.specs.declared.page_word.PageWord.{PageWord}
use Rattle.heap_state.specs.Functions.{sum_below}
use Rattle.heap_state.specs.Sums.{sum_of_sizes}
use Rattle.heap_state.specs.Memory.Walk.{Walked, walk, walk_space, ReadsSpace, is_protected}
use Rattle.heap_state.proofs.Walks.Walking.{IsItem, item, sound, reads_all, complete, sum_sound, sum_below-head}
use Rattle.heap_state.proofs.Walks.SpaceWalks.{SpaceSaysSizes, TellsReserved, IsClear, OnWalk, copied_part, copied_start, new_part}

-- a walked record of the space
pub record IsOf (start front low end : ℕ) (size writer : ℕ → ℕ) (w : Walked) : Type 0 where
  pub inside : (start ≤ w.at) × (w.at < end)
  pub part : (w.at < front) ⊎ (low ≤ w.at)
  pub sized : (0 < w.size) × (size w.at ≡ w.size)
  pub written : writer w.at ≡ 0

module _ (start front low end epoch : ℕ) (size writer heap reserved : ℕ → ℕ) (page : ℕ → PageWord) (told : SpaceSaysSizes start front low end epoch size writer heap page)
    (tells : TellsReserved start front size writer reserved) (clear : IsClear size low) where
  abbrev space : List Walked
  space = walk_space (λ p. is_protected epoch (page p)) reserved heap start front low end

  low_of : (w : Walked) → IsItem start front size writer w → IsOf start front low end size writer w
  low_of w i = record { inside = (i.inside.0, omega (arith, i.inside, told.space.order)); part = inl i.inside.1; sized = i.sized; written = i.written }

  high_of : (w : Walked) → IsItem low end size writer w → IsOf start front low end size writer w
  high_of w i = record { inside = (omega (arith, i.inside, told.space.order), i.inside.1); part = inr i.inside.0; sized = i.sized; written = i.written }

  begins : OnWalk size low
  begins = (clear, inl told.space.aligned)

  pub space_sound : (w : Walked) → Contains space w → IsOf start front low end size writer w
  space_sound w h =
      let lower = sound _ _ _ _ _ _ _ _ (copied_part start front low end epoch size writer heap page told reserved tells) (front - start) start (omega arith) (copied_start start front low end epoch size writer heap page told reserved tells) in
      let upper = sound _ _ _ _ _ _ _ _ (new_part start front low end epoch size writer heap page told) (end - low) low (omega arith) begins in
      All-contains (IsOf start front low end size writer) space w (All-append (IsOf start front low end size writer) _ _ (All-weaker _ _ low_of _ lower) (All-weaker _ _ high_of _ upper)) h

  pub space_read : ReadsSpace (λ p. is_protected epoch (page p)) reserved heap start front low end
  space_read = (
    reads_all _ _ _ _ _ _ _ _ (copied_part start front low end epoch size writer heap page told reserved tells) (front - start) start (omega arith) (copied_start start front low end epoch size writer heap page told reserved tells),
    reads_all _ _ _ _ _ _ _ _ (new_part start front low end epoch size writer heap page told) (end - low) low (omega arith) begins,
  )

  pub space_complete : (a : ℕ) → start ≤ a → a < end → 0 < size a → writer a ≡ 0 → Contains space (item a (size a))
  space_complete a f l st w = ⊎_elim
      (λ (b : a < front). Contains-append_left _ _ (item a (size a))
      (complete _ _ _ _ _ _ _ _ (copied_part start front low end epoch size writer heap page told reserved tells) (front - start) start a (omega arith) (copied_start start front low end epoch size writer heap page told reserved tells) (omega arith) f b st w))
      (λ (b : front ≤ a).
      let q = told.space.lies a st f l in
      Contains-append_right _ _ (item a (size a))
      (complete _ _ _ _ _ _ _ _ (new_part start front low end epoch size writer heap page told) (end - low) low a (omega arith) begins (omega arith) (omega (arith, q)) l st w))
      (cases_lt a front)

  -- ---- the sizes of those that are counted

  module _ (counts : Walked → Bool) (owes : ℕ → ℕ) (has : (w : Walked) → IsOf start front low end size writer w → counts w ≡ true → owes w.at ≡ w.size) where
    sum-append : (xs ys : List Walked) → sum_of_sizes counts (xs ++ ys) ≡ sum_of_sizes counts xs + sum_of_sizes counts ys
    sum-append [] ys = sym (zero-add _)
    sum-append (x ∷ xs) ys = rw (sum-append xs ys) (omega arith)

    pub space_sum : sum_of_sizes counts space ≤ sum_below (end - start) (λ x. owes (start + x))
    space_sum =
        let lower = sum_sound _ _ _ _ _ _ _ _ (copied_part start front low end epoch size writer heap page told reserved tells) counts owes (λ w i. has w (low_of w i)) (front - start) start (front - start) (omega arith) (copied_start start front low end epoch size writer heap page told reserved tells) (omega arith) in
        let upper = sum_sound _ _ _ _ _ _ _ _ (new_part start front low end epoch size writer heap page told) counts owes (λ w i. has w (high_of w i)) (end - low) low (end - low) (omega arith) begins (omega arith) in
        let all = sum_below-head owes start (low - start) (end - start) (omega (arith, told.space.order)) in
        let below = sum_below-head owes start (front - start) (low - start) (omega (arith, told.space.order)) in
        let e : end - start - (low - start) ≡ end - low = omega (arith, told.space.order) in
        let f : start + (low - start) ≡ low = omega (arith, told.space.order) in
        let tail : sum_below (end - start - (low - start)) (λ x. owes (start + (low - start) + x)) ≡ sum_below (end - low) (λ x. owes (low + x)) = rw (e, f) refl in
        rw (sum-append (walk (front - start) (λ p. false) reserved heap front start) (walk (end - low) (λ p. is_protected epoch (page p)) (λ a. 0) heap end low)) (omega arith)
