-- One step of a walk by what stands in the words of the table.
use Rattle.std.proofs.Common.{◌≡◌, ◌≢◌, ℕ, ◌+◌, ◌-◌, ◌*◌, ◌/◌, ◌<◌, ◌≤◌, Bool, true, false, List, slice_index, refl, sym, ap, ◌∙◌, subst, ⊎_elim}
use Rattle.std.proofs.lemmas.Bool.{lt-ltb, ne_eqb, cases_Bool}
use Rattle.heap_words.specs.Decoded.{Decoded, HeaderWord, decode}
use Rattle.space_map.specs.Table.{HeapWord, Page, Cross, place_of}
use Rattle.heap_state.specs.Memory.Table.{page_word_in, table_of}
use Rattle.heap_state.specs.Memory.Walk.{Met, Nothing, Reserved, meets, met_word, next_place}
use Rattle.heap_state.proofs.Table.StoredRows.{word_in-row}
use Rattle.crossing_map.specs.declared.walked.Walked.{Walked as Next}
use Rattle.crossing_map.specs.declared.walked.Walked.TheVariants as next
use Rattle.crossing_map.specs.FirstWord.{item_by}
use Rattle.crossing_map.specs.Walking.{next_at, next_in}
use Rattle.crossing_map.proofs.WalkedParts.{next_in-step}

-- ---- the words

pub heap-word : (n : ℕ) (words : List ℕ) (x place : ℕ) → x ≤ 128 * n + 63 → place ≡ place_of n (HeapWord x)
    → (table_of n words).heap x ≡ slice_index words place
unfolding table_of
heap-word n words x place inside is = word_in-row n words (HeapWord x) inside ∙ sym (ap (slice_index words) is)

pub page-word : (n : ℕ) (words : List ℕ) (p place : ℕ) → p ≤ 2 * n → place ≡ place_of n (Page p)
    → (table_of n words).page p ≡ page_word_in (slice_index words place)
unfolding table_of
page-word n words p place inside is = ap page_word_in (word_in-row n words (Page p) inside ∙ sym (ap (slice_index words) is))

pub cross-word : (n : ℕ) (words : List ℕ) (p place : ℕ) → p < 2 * n → place ≡ place_of n (Cross p)
    → (table_of n words).cross p ≡ slice_index words place
unfolding table_of
cross-word n words p place inside is = word_in-row n words (Cross p) inside ∙ sym (ap (slice_index words) is)

-- ---- a step

same_behind : (end at : ℕ) (d : Decoded) (behind : Next) → next_at end at (met_word d) behind ≡ next_at end at (met_word d) next.Ended
same_behind end at (HeaderWord _ _ _ _) behind = refl
same_behind end at _ behind = refl

module _ (passes : ℕ → Bool) (reserved heap : ℕ → ℕ) (end at : ℕ) (before : at < end) where
  by_met : (m : Met) → meets passes reserved heap end at ≡ m
      → next_in (end - at) passes reserved heap end at ≡ next_at end at m (next_in (end - next_place end at m) passes reserved heap end (next_place end at m))
  by_met m is =
      subst (λ z. next_in (end - at) passes reserved heap end at ≡ next_at end at z (next_in (end - next_place end at z) passes reserved heap end (next_place end at z)))
      is (next_in-step passes reserved heap end at before)

  -- a reserved place is passed over
  pub over_reserved : (size : ℕ) → passes (at / 64) ≡ false → reserved at ≡ size → size ≢ 0
      → next_in (end - at) passes reserved heap end at ≡ next_in (end - (at + size)) passes reserved heap end (at + size)
  over_reserved size open_page is some =
      by_met (Reserved size) (rw (lt-ltb at end before, open_page, is, ne_eqb size 0 some) refl)

  -- a page that isn't open is passed over
  pub over_closed : passes (at / 64) ≡ true
      → next_in (end - at) passes reserved heap end at ≡ next_in (end - 64 * (at / 64 + 1)) passes reserved heap end (64 * (at / 64 + 1))
  over_closed closed = by_met Nothing (rw (lt-ltb at end before, closed) refl)

  -- a page is passed over where a record would begin and 0 stands
  pub over_blank : passes (at / 64) ≡ false → reserved at ≡ 0 → heap at ≡ 0
      → next_in (end - at) passes reserved heap end at ≡ next_in (end - 64 * (at / 64 + 1)) passes reserved heap end (64 * (at / 64 + 1))
  over_blank open_page free blank = by_met Nothing (rw (lt-ltb at end before, open_page, free, blank) refl)

  -- so a page is passed over that isn't open, or where a record would begin and 0 stands
  pub over_page : (passes (at / 64) ≡ false → (reserved at ≡ 0) × (heap at ≡ 0))
      → next_in (end - at) passes reserved heap end at ≡ next_in (end - 64 * (at / 64 + 1)) passes reserved heap end (64 * (at / 64 + 1))
  over_page blank = ⊎_elim
      (λ (closed : passes (at / 64) ≡ true). over_closed closed)
      (λ (open_page : passes (at / 64) ≡ false). over_blank open_page (blank open_page).0 (blank open_page).1)
      (cases_Bool (passes (at / 64)))

  -- another word is that of a record, or breaks the walk
  pub at_word : (word : ℕ) → passes (at / 64) ≡ false → reserved at ≡ 0 → heap at ≡ word → word ≢ 0
      → next_in (end - at) passes reserved heap end at ≡ item_by word at end
  at_word word open_page free is some =
      by_met (met_word (decode word)) (rw (lt-ltb at end before, open_page, free, is, ne_eqb word 0 some) refl)
      ∙ same_behind end at (decode word) _
