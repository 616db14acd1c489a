-- What the scan of a page knows of itself: its steps are in the table, and its words are those of its page.
use Rattle.std.specs.Prelude.{◌≡◌, ℕ, ◌+◌, ◌*◌, ◌<◌, ◌≤◌}
use Rattle.space_map.specs.Spaces.{IsPageCount, first_word, board_page, past_heaps}
use Rattle.page_scan.specs.declared.headed_record.HeadedRecord.{HeadedRecord}
use Rattle.page_scan.specs.declared.scan_stage.ScanStage.{ScanStage}
use Rattle.page_scan.specs.declared.scan_stage.ScanStage.TheVariants.{LoadsCross, LoadsFirst, LoadsCount, LoadsWord, Asks, StoresCopy, LoadsFront, LoadsNext, Ended}
use Rattle.page_scan.specs.declared.scanned_record.ScannedRecord.{ScannedRecord}
use Rattle.page_scan.specs.declared.spot.Spot.{Spot}
use Rattle.page_scan.specs.declared.spot.Spot.TheVariants.{OnBoard, InRecord}
use Rattle.page_scan.specs.Scanning.{Scanning}
use Rattle.page_scan.specs.Taken.{board_words}

-- a mixed record has a count behind its header, and lies on the page with a part of its words at least
pub record IsHeadedOn (pages page : ℕ) (h : HeadedRecord) : Type 0 where
  pub low : page < board_page pages
  pub counted : 2 ≤ h.size
  pub short : h.size ≤ 4096
  pub inside : h.at + h.size ≤ 128 * pages
  pub begins : h.at < first_word (page + 1)
  pub reaches : first_word page < h.at + h.size

-- a record begins before its fields end, and the next one is not before that
pub record IsScannedRecord (r : ScannedRecord) : Type 0 where
  pub begins : r.at < r.fields_end
  pub fields : r.fields_end ≤ r.next
  pub short : r.next ≤ r.at + 4096
  pub inside : r.at < past_heaps

-- the spot is a word of the board, or a field on the page of a record
abbrev pub IsOnPage : (pages page : ℕ) → Spot → Type 0
IsOnPage n p (OnBoard x) = (p ≡ board_page n) × (first_word p ≤ x) × (x < first_word p + board_words)
IsOnPage n p (InRecord r x) =
    IsScannedRecord r × (p < board_page n) × (first_word p ≤ x) × (x < first_word (p + 1)) × (r.at < x) × (x < r.fields_end)

-- the next record begins on the page
abbrev pub NextIsOnPage : (pages page : ℕ) → ScannedRecord → Type 0
NextIsOnPage n p r = IsScannedRecord r × (p < board_page n) × (first_word p ≤ r.next) × (r.next < first_word (p + 1))

abbrev pub FitsStage : (pages page : ℕ) → ScanStage → Type 0
FitsStage n p LoadsCross = p < board_page n
FitsStage n p (LoadsFirst at) = (p < board_page n) × (at < 128 * n)
FitsStage n p (LoadsCount h) = IsHeadedOn n p h
FitsStage n p (LoadsWord spot) = IsOnPage n p spot
FitsStage n p (Asks asked) = IsOnPage n p asked.spot
FitsStage n p (StoresCopy asked to) = IsOnPage n p asked.spot
FitsStage n p (LoadsFront r) = NextIsOnPage n p r
FitsStage n p (LoadsNext r) = NextIsOnPage n p r
FitsStage n p (Ended ending) = ending.cursor < 2 * past_heaps

pub record IsSound (v : Scanning) : Type 0 where
  pub pages : IsPageCount v.layout.pages
  pub page : v.page ≤ board_page v.layout.pages
  pub fits : FitsStage v.layout.pages v.page v.stage
