-- In a traced epoch each record of its space lies on open pages.
use Rattle.std.proofs.Common.{◌≡◌, ℕ, ◌+◌, ◌<◌, ◌≤◌, arith, ⊎_elim}
use Rattle.std.proofs.lemmas.Bool.{cases_lt}
use Rattle.space_map.specs.declared.page_word.PageWord.{PageWord}
use Rattle.space_map.specs.declared.page_word.PageWord.TheVariants.{Open}
use Rattle.space_map.specs.Spaces.{first_word, page_of}
use Rattle.heap_state.specs.Memory.Era.{Era, IsLaidOut}
use Rattle.heap_state.specs.Invariant.Parts.Pages.{Tracing}
use Rattle.heap_state.specs.Invariant.Parts.Records.{Laid, NewArea}

module _ (E : Era) (traced behind front low : ℕ) (size : ℕ → ℕ) (heap : ℕ → ℕ) (page : ℕ → PageWord) (out : IsLaidOut E) (tracing : Tracing E traced behind front page)
    (laid : Laid E front low size) (new : NewArea low (E.start + E.span) E.epoch size heap page) (done : traced ≡ E.epoch + 1) where
  -- the page of a word below FRONT
  copied : (x : ℕ) → E.start ≤ x → x < front → page (page_of x) ≡ Open E.epoch
  copied x from below =
      let begins : first_word (page_of x) ≤ x = omega arith in
      let own : E.start ≤ first_word (page_of x) = omega (arith, from, out.start) in
      ⊎_elim
      (λ (last : front < first_word (page_of x) + 64). tracing.last done (page_of x) (omega (arith, begins, below)) last)
      (λ (full : first_word (page_of x) + 64 ≤ front). (tracing.quiet done).full (page_of x) own full)
      (cases_lt front (first_word (page_of x) + 64))

  lies_apart : (a : ℕ) → E.start ≤ a → a < E.start + E.span → E.old_start ≤ a → a < E.old_start + E.old_span → ⊥
  lies_apart a from below old_from old_below = ⊎_elim (λ (before : E.start + E.span ≤ E.old_start). omega (arith, before, below, old_from))
      (λ (behind : E.old_start + E.old_span ≤ E.start). omega (arith, behind, from, old_below)) out.apart

  pub records_are_open : (a x : ℕ) → 0 < size a → E.start ≤ a → a < E.start + E.span → a ≤ x → x < a + size a → page (page_of x) ≡ Open E.epoch
  records_are_open a x stands from below at within = ⊎_elim
      (λ (copy : (E.start ≤ a) × (a + size a ≤ front)). let end = copy.1 in copied x (omega (arith, from, at)) (omega (arith, within, end)))
      (λ later. ⊎_elim
      (λ (fresh : (low ≤ a) × (a + size a ≤ E.start + E.span)). new.opened a x stands fresh.0 below at within)
      (λ (old : (E.old_start ≤ a) × (a + size a ≤ E.old_start + E.old_span)). let end = old.1 in absurd (lies_apart a from below old.0 (omega (arith, end, stands)))) later)
      (laid.lies a stands)
