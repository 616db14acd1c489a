-- Which pages are open, and when; and which space is the larger one.
use Rattle.std.specs.Prelude.{◌≡◌, ℕ, ◌+◌, ◌<◌, ◌≤◌, Bool, false, Some}
use Rattle.space_map.specs.declared.page_word.PageWord.{PageWord}
use Rattle.space_map.specs.declared.page_word.PageWord.TheVariants.{Open, Scanning}
use Rattle.space_map.specs.PageWord.{age_of}
use Rattle.heap_state.specs.Memory.Era.{Era}
use Rattle.heap_state.specs.Known.{Known, Scan}
use Rattle.space_map.specs.Spaces.{page_of, first_word}
use Rattle.space_map.specs.declared.spaces.TheConstants.{PAGE_WORDS}

-- No page wholly between FRONT and LOW has a word of this epoch. A page under a place that is still written is not open,
-- and only who writes there scans it.
pub record Shut (E : Era) (front low : ℕ) (size writer : ℕ → ℕ) (page : ℕ → PageWord) : Type 0 where
  pub free : (p : ℕ) → front ≤ first_word p → first_word p + PAGE_WORDS ≤ low → age_of (page p) ≤ E.epoch
  pub held : (b x : ℕ) → 0 < size b → 0 < writer b → b ≤ x → x < b + size b → ¬ (page (page_of x) ≡ Open E.epoch)
  pub by : (b x k : ℕ) → 0 < size b → 0 < writer b → b ≤ x → x < b + size b → page (page_of x) ≡ Scanning E.epoch k → writer b ≡ k + 1

-- nobody is behind, and the board and all full pages are open
pub record Quiet (E : Era) (behind front : ℕ) (page : ℕ → PageWord) : Type 0 where
  pub none : behind ≡ 0
  pub board : page (page_of E.board) ≡ Open E.epoch
  pub full : (p : ℕ) → E.start ≤ first_word p → first_word p + PAGE_WORDS ≤ front → page p ≡ Open E.epoch

-- the filling page, if there is one, is open
abbrev pub IsLastOpen : Era → ℕ → (ℕ → PageWord) → Type 0
IsLastOpen E front page = (p : ℕ) → first_word p < front → front < first_word p + PAGE_WORDS → page p ≡ Open E.epoch

-- where the filling page has a word of this epoch, all is quiet
pub record Filling (E : Era) (behind front : ℕ) (page : ℕ → PageWord) : Type 0 where
  pub filling : (p : ℕ) → first_word p < front → front < first_word p + PAGE_WORDS → age_of (page p) ≡ E.epoch + 1 → Quiet E behind front page

-- TRACED is the epoch or one more, and never 0; where it is one more all is quiet, and the filling page is open
pub record Tracing (E : Era) (traced behind front : ℕ) (page : ℕ → PageWord) : Type 0 where
  pub begun : 0 < traced
  pub bottom : E.epoch ≤ traced
  pub top : traced ≤ E.epoch + 1
  pub quiet : traced ≡ E.epoch + 1 → Quiet E behind front page
  pub last : traced ≡ E.epoch + 1 → IsLastOpen E front page

-- No page's word is of a later epoch. The board's is of this epoch or the one before.
pub record Aged (E : Era) (page : ℕ → PageWord) : Type 0 where
  pub young : (p : ℕ) → age_of (page p) ≤ E.epoch + 1
  pub board : E.epoch ≤ age_of (page (page_of E.board))

-- the copied pages of the old space were open in the epoch before
pub record OldPages (E : Era) (old_front : ℕ) (page : ℕ → PageWord) : Type 0 where
  pub old : (p : ℕ) → E.old_start ≤ first_word p → first_word p < old_front → E.epoch ≤ age_of (page p)

-- while no flip is requested, the old space is no larger than the epoch's
pub record Sizes (E : Era) (request : Bool) : Type 0 where
  pub below : request ≡ false → E.old_span ≤ E.span

-- whoever a page's word names scans that page
pub record ScannedBy (E : Era) (count : ℕ) (page : ℕ → PageWord) (worker : ℕ → Known) : Type 0 where
  pub scanned : (p k : ℕ) → page p ≡ Scanning E.epoch k → (k < count) × ((r : Scan) × ((worker k).scan ≡ Some r) × (r.page ≡ p))
