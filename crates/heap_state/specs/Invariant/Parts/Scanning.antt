-- What a worker knows that claims and scans pages.
use Rattle.std.specs.Prelude.{◌≡◌, ◌≢◌, ℕ, ◌+◌, ◌<◌, ◌≤◌, ◌⊎◌, true, false, Some}
use Rattle.plain_state.specs.declared.kind.Kind.{Kind}
use Rattle.plain_state.specs.declared.kind.Kind.TheVariants.{Mixed}
use Rattle.space_map.specs.declared.page_word.PageWord.{PageWord}
use Rattle.space_map.specs.declared.page_word.PageWord.TheVariants.{Open, Scanning}
use Rattle.space_map.specs.PageWord.{age_of}
use Rattle.heap_state.specs.Memory.Era.{Era}
use Rattle.heap_state.specs.Invariant.Ghost.{Leads, Here}
use Rattle.heap_state.specs.Known.{SeenHeader, SeenRecord, Scan, Round, Claim, Look, LastLook}
use Rattle.heap_state.specs.Invariant.Parts.Pages.{Quiet, IsLastOpen}
use Rattle.heap_state.specs.Memory.FieldSpan.{first_field, fields_end}
use Rattle.space_map.specs.Spaces.{page_of, first_word}
use Rattle.space_map.specs.declared.spaces.TheConstants.{PAGE_WORDS}

-- ---- the page being scanned

-- The page is the board or begins below FRONT, and its word names this worker. Words below the cursor lead to no old
-- record. The cursor is at most FRONT, and the worker's own reserved place on the page is not below it.
pub record Scans (E : Era) (front : ℕ) (size writer : ℕ → ℕ) (kind : ℕ → Kind) (heap : ℕ → ℕ) (page : ℕ → PageWord) (k : ℕ) (s : Scan) : Type 0 where
  pub claimed : page s.page ≡ Scanning E.epoch k
  pub place : (s.page ≡ page_of E.board) ⊎ ((E.start ≤ first_word s.page) × (first_word s.page < front))
  pub passed : (x : ℕ) → Here E size writer kind x → page_of x ≡ s.page → x < s.cursor → ¬ (Leads E (heap x))
  pub cursor : (s.page ≡ page_of E.board) ⊎ (s.cursor ≤ front)
  pub above : (b x : ℕ) → 0 < size b → writer b ≡ k + 1 → b ≤ x → x < b + size b → page_of x ≡ s.page → s.cursor ≤ x

-- The record that a scan at x is in stands below FRONT, and nobody writes it. Its fields end and the next record begins where the
-- scan has read it. The scan is past its header and what is before its fields.
pub record IsIn (E : Era) (front : ℕ) (size writer : ℕ → ℕ) (kind : ℕ → Kind) (x : ℕ) (r : SeenRecord) : Type 0 where
  pub stands : 0 < size r.at
  pub written : writer r.at ≡ 0
  pub fields : r.fields_end ≡ r.at + fields_end (kind r.at) (size r.at)
  pub whole : r.next ≡ r.at + size r.at
  pub inside : (E.start ≤ r.at) × (r.next ≤ front)
  pub entered : r.at + first_field (kind r.at) ≤ x
  pub cursor : x ≤ r.next

-- The mixed record whose header a scan at x has read stands below FRONT, and nobody writes it. It begins at x or before, and ends
-- behind it.
pub record IsHeaded (E : Era) (front : ℕ) (size writer : ℕ → ℕ) (kind : ℕ → Kind) (x : ℕ) (h : SeenHeader) : Type 0 where
  pub stands : 0 < size h.at
  pub written : writer h.at ≡ 0
  pub mixed : (count : ℕ) × (kind h.at ≡ Mixed count)
  pub whole : h.size ≡ size h.at
  pub inside : (E.start ≤ h.at) × (h.at + h.size ≤ front)
  pub cursor : (h.at ≤ x) × (x < h.at + h.size)

-- Which record the cursor is in: the one over the page's first word once its place is read; the mixed one whose header is read;
-- the one that is entered. One begins at the cursor that FRONT was seen past. The cursor is never before the page. At the end it is
-- past the page or at FRONT. A page that wasn't claimed as the filling one is full or the board.
pub record Stepping (E : Era) (front : ℕ) (size writer : ℕ → ℕ) (kind : ℕ → Kind) (s : Scan) : Type 0 where
  pub over : (a : ℕ) → s.over ≡ Some a → (0 < size a) × (writer a ≡ 0) × (a ≤ first_word s.page) × (first_word s.page < a + size a)
  pub headed : (h : SeenHeader) → s.headed ≡ Some h → IsHeaded E front size writer kind s.cursor h
  pub current : (r : SeenRecord) → s.current ≡ Some r → IsIn E front size writer kind s.cursor r
  pub inner : s.inner ≡ true → s.cursor < front
  pub begun : first_word s.page ≤ s.cursor
  pub full : s.in_place ≡ false → (s.page ≡ page_of E.board) ⊎ (first_word s.page + PAGE_WORDS ≤ front)
  pub ended : s.ended ≡ true → (first_word s.page + PAGE_WORDS ≤ s.cursor) ⊎ (((s.page ≡ page_of E.board) × (E.board + 16 ≤ s.cursor)) ⊎ ((s.page < page_of E.board) × (s.cursor ≡ front)))

-- ---- claims

-- TRACED was at least what a round of epoch d has read, which was not that the epoch is traced; and FRONT is at least
-- what it has read in this epoch
pub record Rounds (E : Era) (traced front : ℕ) (d : ℕ) (r : Round) : Type 0 where
  pub traced_then : (r.traced ≤ traced) × (r.traced ≢ d + 1)
  pub front_then : (f : ℕ) → r.front ≡ Some f → d ≡ E.epoch → f ≤ front

-- What a worker of epoch d that is about to claim a page knows of it. The word that it read is of an earlier epoch. In
-- this epoch, the page is full or the board, and each reserved place of a worker already looked at begins past it; or it
-- is claimed as the filling page, and then it begins below FRONT, and its word has this epoch by now, or it is still the
-- filling page and all is quiet.
-- In a past epoch, the page's word has that epoch or a later one, once the gate was read again.
pub record Claims (E : Era) (front behind : ℕ) (size writer : ℕ → ℕ) (page : ℕ → PageWord) (d : ℕ) (c : Claim) : Type 0 where
  pub earlier : age_of c.old ≤ d
  pub full : d ≡ E.epoch → c.in_place ≡ false → ((E.start ≤ first_word c.page) × (first_word c.page + PAGE_WORDS ≤ front)) ⊎ (c.page ≡ page_of E.board)
  pub clear : d ≡ E.epoch → c.in_place ≡ false → (b k : ℕ) → 0 < size b → writer b ≡ k + 1 → k < c.looked → (first_word c.page + PAGE_WORDS ≤ b) ⊎ (c.page ≡ page_of E.board)
  pub last : d ≡ E.epoch → c.in_place ≡ true
      → (E.start ≤ first_word c.page) × (first_word c.page < front) × ((age_of (page c.page) ≡ E.epoch + 1) ⊎ ((front < first_word c.page + PAGE_WORDS) × Quiet E behind front page))
  pub late : c.sure ≡ true → d < E.epoch → d + 1 ≤ age_of (page c.page)
  pub in_place : c.in_place ≡ true → c.sure ≡ true

-- ---- the end of the area

-- What the first look has seen so far. TRACED was read as of an earlier epoch. In this epoch, nobody is behind, FRONT is at
-- least the one read, and pages found open are open. In a past epoch, its pages up to FRONT have had that epoch's word, if the
-- board was found open or the epoch is the one before.
pub record Looks (E : Era) (behind front : ℕ) (page : ℕ → PageWord) (d : ℕ) (l : Look) : Type 0 where
  pub earlier : l.traced ≤ d
  pub none : d ≡ E.epoch → (behind ≡ 0) × (l.front ≤ front)
  pub board : d ≡ E.epoch → l.board ≡ true → page (page_of E.board) ≡ Open E.epoch
  pub full : d ≡ E.epoch → (p : ℕ) → E.start ≤ first_word p → p < l.upto → page p ≡ Open E.epoch
  pub last : d ≡ E.epoch → l.filled ≡ true → (p : ℕ) → first_word p < l.front → l.front < first_word p + PAGE_WORDS → page p ≡ Open E.epoch
  pub start : (d ≡ E.epoch → l.start ≡ E.start) × (d + 1 ≡ E.epoch → l.start ≡ E.old_start)
  pub late : d < E.epoch → (l.board ≡ true) ⊎ (d + 1 ≡ E.epoch) → (p : ℕ) → l.start ≤ first_word p → first_word p < l.front → d + 1 ≤ age_of (page p)

-- after the second look all is quiet as long as TRACED is the word read
pub record LastLooks (E : Era) (traced behind front : ℕ) (page : ℕ → PageWord) (d : ℕ) (l : LastLook) : Type 0 where
  pub earlier : l.traced ≤ d
  pub now : d ≡ E.epoch → traced ≡ l.traced → Quiet E behind front page × IsLastOpen E front page
  pub late : d < E.epoch → d + 1 ≤ traced
