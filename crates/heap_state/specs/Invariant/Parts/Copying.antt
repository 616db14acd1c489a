-- What a worker knows that copies a record.
use Rattle.std.specs.Prelude.{◌≡◌, ℕ, ◌+◌, ◌-◌, ◌<◌, ◌≤◌, ◌⊎◌, Bool, true, false, Option, Some, None}
use Rattle.plain_state.specs.declared.kind.Kind.{Kind}
use Rattle.heap_words.specs.Decoded.{PointerWord, HeaderWord, decode}
use Rattle.plain_state.specs.declared.value.Identity.{Identity}
use Rattle.heap_state.specs.Memory.Era.{Era}
use Rattle.heap_state.specs.Invariant.Ghost.{Here, header_kind}
use Rattle.heap_state.specs.Known.{Origin, Register, Scanned, Quest, Copy, Scan}
use Rattle.space_map.specs.Spaces.{page_of, first_word}

-- the word that a quest began from still leads to the old place: a register of who is late, the first not forwarded; or
-- the word at the cursor of a scan that has not come to its end
abbrev pub IsOrigin : (E : Era) (size writer : ℕ → ℕ) (kind : ℕ → Kind) (heap : ℕ → ℕ) (late : Bool) (done : ℕ) (registers : ℕ → ℕ) (scan : Option Scan) → ℕ → Origin → Type 0
IsOrigin E size writer kind heap late done registers scan old (Register r) = (late ≡ true) × (done ≡ r) × (r < 8) × (decode (registers r) ≡ PointerWord old)
IsOrigin E size writer kind heap late done registers scan old (Scanned x) =
    ((s : Scan) × (scan ≡ Some s) × (s.cursor ≡ x) × (page_of x ≡ s.page) × (s.ended ≡ false)) × Here E size writer kind x × (decode (heap x) ≡ PointerWord old)

-- A record stands at the old place; once the copy is known, it is the copy, and nobody writes it any more.
pub record Seeks (E : Era) (size writer copy : ℕ → ℕ) (q : Quest) : Type 0 where
  pub old : (0 < size q.old) × (E.old_start ≤ q.old) × (q.old < E.old_start + E.old_span)
  pub found : (b : ℕ) → q.found ≡ Some b → (copy q.old ≡ b + 1) × (writer b ≡ 0)

-- The record stands in the old space and this worker keeps its header. Its place was FRONT when it was read, and is at most
-- FRONT now; it is reserved once AREA was exchanged, and announced before. The words after the header that were copied agree, and
-- so do the word that was loaded and the crossings that were stored.
pub record Copies (E : Era) (front : ℕ) (size writer copy keeper kept announced cross heap : ℕ → ℕ) (k : ℕ) (c : Copy) : Type 0 where
  pub old : (0 < c.size) × (size c.from ≡ c.size) × (keeper c.from ≡ k + 1) × (kept k ≡ c.from + 1) × (E.old_start ≤ c.from) × (c.from + c.size ≤ E.old_start + E.old_span)
  pub loose : c.reserved ≡ false → (copy c.from ≡ 0) × (c.done ≡ 0)
  pub aimed : c.aimed ≡ true → (E.start ≤ c.to) × (c.to ≤ front)
  pub named : c.announced ≡ true → (announced k ≡ c.to + 1) × (E.start ≤ c.to) × (c.to ≤ front)
  pub place : c.reserved ≡ true → (c.announced ≡ true) × (copy c.from ≡ c.to + 1) × (writer c.to ≡ k + 1) × (size c.to ≡ c.size) × (E.start ≤ c.to) × (c.to + c.size ≤ front)
  pub same : (j : ℕ) → 0 < j → j < c.done → heap (c.to + j) ≡ heap (c.from + j)
  pub bound : c.done ≤ c.size
  pub loaded : (v : ℕ) → c.word ≡ Some v → (0 < c.done) × (c.done < c.size) × (heap (c.from + c.done) ≡ v)
  pub crossings : c.reserved ≡ true → (p : ℕ) → c.to ≤ first_word p → first_word p < c.to + c.size → p < c.crossed → cross p ≡ c.to

-- the header that was kept is the record's, and so is the first word of the copy once a word is copied
pub record Keeps (kind : ℕ → Kind) (identity : ℕ → Identity) (heap : ℕ → ℕ) (c : Copy) : Type 0 where
  pub head : 0 < c.done → decode (heap c.to) ≡ HeaderWord (header_kind (kind c.from)) (c.size - 1) (identity c.from).serial (identity c.from).mutator
  pub keeps : decode c.header ≡ HeaderWord (header_kind (kind c.from)) (c.size - 1) (identity c.from).serial (identity c.from).mutator

-- Who copies has a quest for that record and scans a page or is late. While one is late the gate counts someone behind.
-- Who copies nothing keeps no header.
pub record Licensed (behind : ℕ) (kept : ℕ → ℕ) (k : ℕ) (late : Bool) (copy : Option Copy) (quest : Option Quest) (scan : Option Scan) : Type 0 where
  pub licensed : (c : Copy) → copy ≡ Some c → ((s : Scan) × (scan ≡ Some s)) ⊎ (late ≡ true)
  pub asked : (c : Copy) → copy ≡ Some c → (q : Quest) × (quest ≡ Some q) × (q.old ≡ c.from) × (q.found ≡ None)
  pub counted : late ≡ true → 0 < behind
  pub idle : copy ≡ None → kept k ≡ 0
