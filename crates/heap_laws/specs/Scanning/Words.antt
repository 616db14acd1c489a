-- The words of a page that is scanned: which are read, and what becomes of those that lead into the old space.
use Rattle.std.specs.Prelude.{◌≡◌, ◌≢◌, ℕ, ◌+◌, ◌<◌, ◌≤◌, ◌==◌, ◌⊎◌, Bool, true, false, Some, None, nat_le, if◌then◌else◌}
use Rattle.heap_words.specs.declared.kind.Kind.{Kind as HeaderKind}
use Rattle.heap_words.specs.declared.kind.Kind.TheVariants as header
use Rattle.plain_state.specs.declared.kind.Kind.{Kind}
use Rattle.plain_state.specs.declared.kind.Kind.TheVariants.{Mixed}
use Rattle.heap_words.specs.Decoded.{NumberWord, PointerWord, HeaderWord, decode}
use Rattle.heap_state.specs.Memory.Era.{Era, Memory}
use Rattle.heap_state.specs.Invariant.Ghost.{Ghost, OnBoard, Leads, said_kind}
use Rattle.heap_state.specs.Known.{Known, Team, SeenHeader, SeenRecord, Scanned, Quest, Scan}
use Rattle.heap_state.specs.Memory.FieldSpan.{next_from, seen_at, entry_of}
use Rattle.heap_state.specs.Memory.Entries.{WordIs}
use Rattle.heap_laws.specs.Steps.{Ready, Steps}
use Rattle.space_map.specs.Spaces.{page_of, first_word}
use Rattle.space_map.specs.declared.spaces.TheConstants.{PAGE_WORDS}

-- the worker whose scan is this, and that asks for no copy
abbrev pub scanning : Known → Scan → Known
scanning w s = record w { scan = Some s; quest = None }

-- ---- where the scan stands

-- the place is past what there is to scan on the page: on the board its 16 words, else the whole page
abbrev pub is_past : Era → (page y : ℕ) → Bool
is_past E page y = if page == page_of E.board then nat_le (E.board + 16) y else nat_le (first_word page + PAGE_WORDS) y

-- the scan, gone on to y
abbrev pub on_to : Era → Scan → ℕ → Scan
on_to E s y = record s { cursor = y; headed = None; inner = false; ended = is_past E s.page y }

-- the scan in a record at a whose header was read, at its first field from the cursor on
abbrev pub scan_in_record : Era → Scan → (a : ℕ) → Kind → (size : ℕ) → Scan
scan_in_record E s a k size = record (on_to E s (entry_of (seen_at a k size) k s.cursor)) { over = None; current = Some (seen_at a k size) }

-- the scan that has read the header of a mixed record, of this address and size, and is about to read its count
abbrev pub scan_headed : Scan → (a size : ℕ) → Scan
scan_headed s a size = record s { over = None; headed = Some (record { at = a; size = size }); current = None; inner = false }

-- the scan past the word at the cursor
abbrev pub past_word : Era → Scan → Scan
past_word E s = on_to E s (next_from s.current (s.cursor + 1))

-- worker k scans, and asks for no copy
pub record IsScanning (team : Team) (k : ℕ) (s : Scan) : Type 0 where
  pub scans : (team.worker k).scan ≡ Some s
  pub asks_nothing : (team.worker k).quest ≡ None

-- the cursor stands on a board word, or on a field of a record
pub record AtField (E : Era) (s : Scan) : Type 0 where
  pub on_page : page_of s.cursor ≡ s.page
  pub place : (OnBoard E s.cursor × (s.current ≡ None)) ⊎ ((r : SeenRecord) × (s.current ≡ Some r) × (s.cursor < r.fields_end))

-- ---- the records on the page

-- the page's crossing is read
abbrev pub ReadingCrossingKeeps : Type 0
ReadingCrossingKeeps = (E : Era) (m : Memory) (team : Team) (g : Ghost) (k : ℕ) (s : Scan) → Ready E m team g k → IsScanning team k s
    → s.page ≢ page_of E.board → Steps E m team g k None (scanning (team.worker k) (record s { over = Some (m.cross s.page) })) g

-- the header of the record over the page's first word is read
abbrev pub ReadingFirstHeaderKeeps : Type 0
ReadingFirstHeaderKeeps = (E : Era) (m : Memory) (team : Team) (g : Ghost) (k : ℕ) (s : Scan) (a len serial mutator : ℕ) (head : HeaderKind) → Ready E m team g k → IsScanning team k s
    → s.page ≢ page_of E.board → s.over ≡ Some a → s.cursor ≡ first_word s.page → decode (m.heap a) ≡ HeaderWord head len serial mutator
    → Steps E m team g k None (scanning (team.worker k) (scan_in_record E s a (said_kind head (m.heap (a + 1))) (len + 1))) g

-- it is that of a mixed record, whose count is read next
abbrev pub ReadingFirstMixedKeeps : Type 0
ReadingFirstMixedKeeps = (E : Era) (m : Memory) (team : Team) (g : Ghost) (k : ℕ) (s : Scan) (a len serial mutator : ℕ) → Ready E m team g k → IsScanning team k s
    → s.page ≢ page_of E.board → s.over ≡ Some a → s.cursor ≡ first_word s.page → decode (m.heap a) ≡ HeaderWord header.Mixed len serial mutator
    → Steps E m team g k None (scanning (team.worker k) (scan_headed s a (len + 1))) g

-- at a record's end on the page being filled, FRONT is read: the scan is at it, or another record begins
abbrev pub ReadingFrontKeeps : Type 0
ReadingFrontKeeps = (E : Era) (m : Memory) (team : Team) (g : Ghost) (k : ℕ) (s : Scan) → Ready E m team g k → IsScanning team k s
    → s.page ≢ page_of E.board → Steps E m team g k None (scanning (team.worker k) (if s.cursor == m.front then record s { ended = true } else record s { inner = true })) g

-- the header of the next record is read, on a full page or where FRONT was seen past it
abbrev pub ReadingNextHeaderKeeps : Type 0
ReadingNextHeaderKeeps = (E : Era) (m : Memory) (team : Team) (g : Ghost) (k : ℕ) (s : Scan) (r : SeenRecord) (len serial mutator : ℕ) (head : HeaderKind) → Ready E m team g k → IsScanning team k s
    → s.page ≢ page_of E.board → s.current ≡ Some r → s.cursor ≡ r.next → s.cursor < first_word s.page + PAGE_WORDS → (s.inner ≡ true) ⊎ (s.in_place ≡ false)
    → decode (m.heap s.cursor) ≡ HeaderWord head len serial mutator
    → Steps E m team g k None (scanning (team.worker k) (scan_in_record E s s.cursor (said_kind head (m.heap (s.cursor + 1))) (len + 1))) g

-- it is that of a mixed record, whose count is read next
abbrev pub ReadingNextMixedKeeps : Type 0
ReadingNextMixedKeeps = (E : Era) (m : Memory) (team : Team) (g : Ghost) (k : ℕ) (s : Scan) (r : SeenRecord) (len serial mutator : ℕ) → Ready E m team g k → IsScanning team k s
    → s.page ≢ page_of E.board → s.current ≡ Some r → s.cursor ≡ r.next → s.cursor < first_word s.page + PAGE_WORDS → (s.inner ≡ true) ⊎ (s.in_place ≡ false)
    → decode (m.heap s.cursor) ≡ HeaderWord header.Mixed len serial mutator
    → Steps E m team g k None (scanning (team.worker k) (scan_headed s s.cursor (len + 1))) g

-- the count of a mixed record is read
abbrev pub ReadingCountKeeps : Type 0
ReadingCountKeeps = (E : Era) (m : Memory) (team : Team) (g : Ghost) (k : ℕ) (s : Scan) (h : SeenHeader) (count : ℕ) → Ready E m team g k → IsScanning team k s
    → s.page ≢ page_of E.board → s.headed ≡ Some h → decode (m.heap (h.at + 1)) ≡ NumberWord count
    → Steps E m team g k None (scanning (team.worker k) (scan_in_record E s h.at (Mixed count) h.size)) g

-- ---- the fields

-- a field that does not lead into the old space is passed
abbrev pub PassingFieldKeeps : Type 0
PassingFieldKeeps = (E : Era) (m : Memory) (team : Team) (g : Ghost) (k : ℕ) (s : Scan) → Ready E m team g k → IsScanning team k s
    → AtField E s → ¬ (Leads E (m.heap s.cursor)) → Steps E m team g k None (scanning (team.worker k) (past_word E s)) g

-- for one that does, the worker asks for the copy
abbrev pub asking : Known → Quest → Known
asking w q = record w { quest = Some q }

abbrev pub AskingKeeps : Type 0
AskingKeeps = (E : Era) (m : Memory) (team : Team) (g : Ghost) (k : ℕ) (s : Scan) (a : ℕ) → Ready E m team g k → IsScanning team k s
    → AtField E s → s.ended ≡ false → decode (m.heap s.cursor) ≡ PointerWord a → E.old_start ≤ a → a < E.old_start + E.old_span
    → Steps E m team g k None (asking (team.worker k) (record { old = a; origin = Scanned s.cursor; found = None })) g

-- worker k has found the copy that the word at the cursor asked for
pub record HasFound (E : Era) (team : Team) (k : ℕ) (s : Scan) (q : Quest) (b : ℕ) : Type 0 where
  pub scans : (team.worker k).scan ≡ Some s
  pub quest : (team.worker k).quest ≡ Some q
  pub origin : q.origin ≡ Scanned s.cursor
  pub found : q.found ≡ Some b
  pub at : AtField E s

-- a pointer to the copy is stored, which is no cell that is still to be linked, and the word is passed
abbrev pub StoringCopyKeeps : Type 0
StoringCopyKeeps = (E : Era) (m : Memory) (team : Team) (g : Ghost) (k : ℕ) (s : Scan) (q : Quest) (b v : ℕ) → Ready E m team g k → HasFound E team k s q b
    → (team.worker k).linking ≡ None → decode v ≡ PointerWord b → Steps E m team g k (Some (WordIs s.cursor v)) (scanning (team.worker k) (past_word E s)) g
