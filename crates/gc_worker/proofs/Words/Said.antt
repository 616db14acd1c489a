-- What the words of a heap say, by their places in the table.
use Rattle.std.proofs.Common.{◌≡◌, ℕ, List, get_or, ap, sym, ◌∙◌, arith}
use Rattle.space_map.specs.Spaces.{to_space}
use Rattle.space_map.specs.Table.{Row, IsRow, Gate, Traced, Area, place_of}
use Rattle.heap_state.specs.Memory.Table.{word_in}
use Rattle.heap_state.proofs.Table.StoredRows.{word_in-row}
use Rattle.gc_worker.specs.Laws.Step.{Heap}
use Rattle.gc_worker.specs.Readers.{cycles_in, live_in, live_said}
use Rattle.gc_worker.specs.Steps.Turned.{epoch_said}

module _ (h : Heap) (words : List ℕ) (words_are : words ≡ h.words) where
  -- a row's word
  row_read : (row : Row) → IsRow h.pages row → (place : ℕ) → place ≡ place_of h.pages row → get_or words place 0 ≡ word_in h.pages h.words row
  row_read row is place place_is =
      ap (λ (l : List ℕ). get_or l place 0) words_are ∙ (ap (λ (n : ℕ). get_or h.words n 0) place_is ∙ sym (word_in-row h.pages h.words row is))

  -- the epoch
  pub epoch_read : (place : ℕ) → place ≡ place_of h.pages Gate → epoch_said 0 (get_or words place 0) ≡ cycles_in h
  epoch_read place place_is = ap (epoch_said 0) (row_read Gate tt place place_is)

  -- the words copied in it
  pub live_read : (epoch traced area : ℕ) → epoch ≡ cycles_in h → traced ≡ place_of h.pages Traced → area ≡ place_of h.pages (Area (to_space epoch))
      → live_said epoch (get_or words traced 0) (get_or words area 0) ≡ live_in h
  live_read epoch traced area epoch_is traced_is area_is =
      let t = row_read Traced tt traced traced_is in
      let a = row_read (Area (to_space epoch)) (omega arith) area area_is in
      (λ i. live_said epoch (t i) (a i))
      ∙ ap (λ (e : ℕ). live_said e (word_in h.pages h.words Traced) (word_in h.pages h.words (Area (to_space e)))) epoch_is
