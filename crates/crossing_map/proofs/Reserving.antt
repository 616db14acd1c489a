-- The size of a reserved place, found in a list of what workers keep.
use Rattle.std.proofs.Common.{◌≡◌, ◌≢◌, ℕ, suc, ◌+◌, ◌<◌, List, length, drop, get_or, refl, ap, ◌∙◌, subst, arith, if◌then◌else◌, drop-cons}
use Rattle.std.specs.Prelude.{◌==◌}
use Rattle.std.proofs.lemmas.Bool.{eq-eqb, ne_eqb}
use Rattle.heap_words.specs.Decoded.{decode}
use Rattle.heap_state.specs.Kept.{Kept, reserved_by, reserved_in, size_said}
use Rattle.crossing_map.specs.Crossing.{pairs_kept}

module _ (kept : List (ℕ × ℕ)) (i at : ℕ) (inside : i < length kept) where
  abbrev entry : ℕ × ℕ
  entry = get_or kept i (0, 0)

  abbrev of_entry : Kept
  of_entry = record { header = entry.0; place = entry.1 }

  at_entry : reserved_in (pairs_kept (drop i kept)) at
      ≡ (if reserved_by of_entry at == 0 then reserved_in (pairs_kept (drop (i + 1) kept)) at else reserved_by of_entry at)
  at_entry =
      let on : suc i ≡ i + 1 = omega arith in
      let P : ℕ → Type 0 = λ k. reserved_in (pairs_kept (drop i kept)) at
      ≡ (if reserved_by of_entry at == 0 then reserved_in (pairs_kept (drop k kept)) at else reserved_by of_entry at) in
      subst P on (ap (λ rest. reserved_in (pairs_kept rest) at) (drop-cons kept i (0, 0) inside))

  pub another : entry.1 ≢ at + 1 → reserved_in (pairs_kept (drop i kept)) at ≡ reserved_in (pairs_kept (drop (i + 1) kept)) at
  another other = at_entry ∙ rw (ne_eqb entry.1 (at + 1) other) refl

  pub without_header : entry.1 ≡ at + 1 → size_said (decode entry.0) ≡ 0 → reserved_in (pairs_kept (drop i kept)) at ≡ reserved_in (pairs_kept (drop (i + 1) kept)) at
  without_header here none = at_entry ∙ rw (eq-eqb entry.1 (at + 1) here, none) refl

  pub with_header : (size : ℕ) → entry.1 ≡ at + 1 → size_said (decode entry.0) ≡ size → 0 < size → reserved_in (pairs_kept (drop i kept)) at ≡ size
  with_header size here says some = at_entry ∙ rw (eq-eqb entry.1 (at + 1) here, says, ne_eqb size 0 (λ e. omega arith)) refl
