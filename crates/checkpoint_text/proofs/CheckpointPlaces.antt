-- The words of a table by their places.
use Rattle.std.proofs.Common.{◌≡◌, ℕ, ◌+◌, ◌*◌, ◌<◌, ◌≤◌, Bool, true, false, cond, List, slice_index, refl, sym, ap, ◌∙◌}
use Rattle.std.proofs.lemmas.Bool.{le-leb, lt-leb}
use Rattle.space_map.specs.Spaces.{page_of}
use Rattle.space_map.specs.Table.{SnapNumber, LastSaved, HeapWord, SaveOf, ImageOf, place_of, save_place_of}
use Rattle.heap_state.specs.Memory.Table.{table_of, word_in}
use Rattle.heap_state.specs.Saving.Words.{reads_saved, saves_of, save_word_in}
use Rattle.checkpoint_text.specs.Heap.{saved_word}

-- two words that are the same are read so
either : (b : Bool) (x y z : ℕ) → x ≡ z → y ≡ z → cond b x y ≡ z
either true x y z first second = first
either false x y z first second = second

module _ (n : ℕ) (words : List ℕ) where
  pub snap_is : (place : ℕ) → place ≡ place_of n SnapNumber → slice_index words place ≡ (saves_of n words).snap
  unfolding saves_of word_in
  snap_is place is = ap (slice_index words) is

  pub done_is : (place : ℕ) → place ≡ place_of n LastSaved → slice_index words place ≡ (saves_of n words).done
  unfolding saves_of word_in
  done_is place is = ap (slice_index words) is

  pub save_is : (page place : ℕ) → page ≤ 2 * n → place ≡ save_place_of n (SaveOf page) → slice_index words place ≡ save_word_in n words (SaveOf page)
  unfolding save_word_in
  save_is page place within is = rw (le-leb page (2 * n) within) (ap (slice_index words) is)

  image_within : (address : ℕ) → address ≤ 128 * n + 63 → (saves_of n words).image address ≡ slice_index words (save_place_of n (ImageOf address))
  unfolding saves_of save_word_in
  image_within address within = rw (le-leb address (128 * n + 63) within) refl

  image_beyond : (address : ℕ) → 128 * n + 63 < address → (saves_of n words).image address ≡ 0
  unfolding saves_of save_word_in
  image_beyond address beyond = rw (lt-leb address (128 * n + 63) beyond) refl

  heap_within : (address : ℕ) → address ≤ 128 * n + 63 → (table_of n words).heap address ≡ slice_index words (place_of n (HeapWord address))
  unfolding table_of word_in
  heap_within address within = rw (le-leb address (128 * n + 63) within) refl

  heap_beyond : (address : ℕ) → 128 * n + 63 < address → (table_of n words).heap address ≡ 0
  unfolding table_of word_in
  heap_beyond address beyond = rw (lt-leb address (128 * n + 63) beyond) refl

  -- an address is read from its image
  pub image_is : (address place : ℕ) → address ≤ 128 * n + 63 → reads_saved (saves_of n words) (page_of address) ≡ true → place ≡ save_place_of n (ImageOf address)
      → slice_index words place ≡ saved_word n words address
  unfolding saved_word
  image_is address place within saved is = rw saved (ap (slice_index words) is ∙ sym (image_within address within))

  -- or from the heap
  pub heap_is : (address place : ℕ) → address ≤ 128 * n + 63 → reads_saved (saves_of n words) (page_of address) ≡ false → place ≡ place_of n (HeapWord address)
      → slice_index words place ≡ saved_word n words address
  unfolding saved_word
  heap_is address place within unsaved is = rw unsaved (ap (slice_index words) is ∙ sym (heap_within address within))

  -- and there is nothing behind the board's page
  pub beyond_is : (address : ℕ) → 128 * n + 63 < address → saved_word n words address ≡ 0
  unfolding saved_word
  beyond_is address beyond =
      either (reads_saved (saves_of n words) (page_of address)) ((saves_of n words).image address) ((table_of n words).heap address) 0 (image_beyond address beyond) (heap_beyond address beyond)
