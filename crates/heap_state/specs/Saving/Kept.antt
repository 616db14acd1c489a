-- The heap as it was when the last checkpoint was begun shows what the plain heap has kept of then.
use Rattle.std.specs.Prelude.{◌≡◌, ℕ, ◌+◌, ◌-◌, ◌<◌, true, length, List, [], Some, slice_get, slice_index_or, Option}
use Rattle.heap_words.specs.Decoded.{PointerWord, HeaderWord, decode}
use Rattle.plain_state.specs.declared.kind.Kind.TheVariants.{Weak}
use Rattle.plain_state.specs.declared.value.Identity.{Identity}
use Rattle.plain_state.specs.declared.value.Value.{Value}
use Rattle.plain_state.specs.Layout.{is_field}
use Rattle.plain_state.specs.State.{Record, Heap, at_serial}
use Rattle.space_map.specs.Spaces.{page_of, first_word, board_page}
use Rattle.heap_state.specs.Invariant.Ghost.{header_kind}
use Rattle.heap_state.specs.Meaning.Values.{Shows, value_of}
use Rattle.heap_state.specs.Saving.Frozen.{Frozen}
use Rattle.heap_state.specs.Saving.Words.{Saves}

-- the record of an identity among those kept
abbrev pub kept_record : List (List Record) → Identity → Option Record
kept_record records i = at_serial (slice_index_or records i.mutator []) i.serial

-- A record at a: it has its header, shows the kept record of its identity, and lies on pages of the checkpoint.
pub record ShowsKept (z : Frozen) (records : List (List Record)) (a : ℕ) : Type 0 where
  pub shown : Record
  pub is : kept_record records (z.identity a) ≡ Some shown
  pub shows : Shows (value_of z.identity) z.heap a (z.kind a) (z.size a) shown
  pub header : decode (z.heap a) ≡ HeaderWord (header_kind (z.kind a)) (z.size a - 1) (z.identity a).serial (z.identity a).mutator
  pub held : (i : ℕ) → i < z.size a → z.held (page_of (a + i)) ≡ true

-- With n pages a space: the board's words denote the kept board, which has sixteen values, and its page is one of the checkpoint; each
-- record is shown; a cell takes three words, and its target, behind its header, denotes the kept value; a reference on the board, in a
-- field or in a target is to a record; and no record stands twice.
pub record KeepsPicture (n : ℕ) (z : Frozen) (board_kept : List Value) (kept : List (List Record)) : Type 0 where
  pub board : (x : ℕ) → x < 16 → value_of z.identity (z.heap (first_word (board_page n) + x)) ≡ slice_get board_kept x
  pub sixteen : length board_kept ≡ 16
  pub held : z.held (board_page n) ≡ true
  pub records : (a : ℕ) → 0 < z.size a → ShowsKept z kept a
  pub three : (a : ℕ) → 0 < z.size a → z.kind a ≡ Weak → z.size a ≡ 3
  pub targets : (a : ℕ) (r : Record) → 0 < z.size a → z.kind a ≡ Weak → kept_record kept (z.identity a) ≡ Some r → value_of z.identity (z.heap (a + 1)) ≡ slice_get r.values 0
  pub board_lands : (x b : ℕ) → x < 16 → decode (z.heap (first_word (board_page n) + x)) ≡ PointerWord b → 0 < z.size b
  pub field_lands : (a i b : ℕ) → 0 < i → i < z.size a → is_field (z.kind a) i ≡ true → decode (z.heap (a + i)) ≡ PointerWord b → 0 < z.size b
  pub target_lands : (a b : ℕ) → 0 < z.size a → z.kind a ≡ Weak → decode (z.heap (a + 1)) ≡ PointerWord b → 0 < z.size b
  pub once : (a b : ℕ) → 0 < z.size a → 0 < z.size b → z.identity a ≡ z.identity b → a ≡ b

-- As many checkpoints were begun as in the plain heap, and the frozen heap shows what that has kept of the last one.
pub record ShowsSnapped (n : ℕ) (s : Saves) (z : Frozen) (heap : Heap) : Type 0 where
  pub number : s.snap ≡ heap.snaps
  pub keeps : 0 < s.snap → KeepsPicture n z heap.snapped.board heap.snapped.records
