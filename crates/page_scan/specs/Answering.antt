-- A scan that nobody disturbs, and that is answered at once.
use Rattle.std.specs.Prelude.{◌≡◌, ◌≢◌, ℕ, ◌+◌, ◌*◌, ◌<◌, ◌≤◌, Bool, false, true, List, Some, length, slice_index, IsTrue}
use Rattle.atom_store.specs.Machine.{Machine}
use Rattle.heap_words.specs.declared.kind.Kind.TheVariants.{Mixed}
use Rattle.heap_words.specs.Decoded.{HeaderWord, PointerWord, decode}
use Rattle.heap_words.specs.FirstWords.{is_header}
use Rattle.heap_words.specs.Word.{pointer_word}
use Rattle.space_map.specs.declared.area_word.AreaWord.{AreaWord}
use Rattle.space_map.specs.AreaWord.{decode_area}
use Rattle.space_map.specs.Spaces.{Layout, to_space, space_start, first_word, board_page}
use Rattle.space_map.specs.Table.{Area, Cross, HeapWord, place_of, table_length}
use Rattle.page_scan.specs.declared.scan_stage.ScanStage.{ScanStage}
use Rattle.page_scan.specs.declared.scan_stage.ScanStage.TheVariants.{Asks, StoresCopy}
use Rattle.page_scan.specs.declared.scanned.Scanned.{Scanned}
use Rattle.page_scan.specs.Fields.{record_begins}
use Rattle.page_scan.specs.Scanning.{Scanning, wanted}
use Rattle.page_scan.specs.Taken.{is_count, is_old, taken, told}

-- what was asked is answered
abbrev pub answered_by : (answer : ℕ → ℕ) → ScanStage → ScanStage
answered_by answer (Asks asked) = StoresCopy asked (answer asked.old)
answered_by answer stage = stage

-- the scan that is answered so as soon as it asks
abbrev pub answering : (answer : ℕ → ℕ) → Machine Scanning Scanned
answering answer = record {
  wanted = wanted;
  taken = λ v reply. record v { stage = answered_by answer (taken v reply).stage };
  told = λ v. told v.stage;
}

-- the heap word at an address, of a table's words
abbrev pub heap_in : Layout → List ℕ → ℕ → ℕ
heap_in l words x = slice_index words (place_of l.pages (HeapWord x))

-- the address in a page's crossing word
abbrev pub crossing_in : Layout → List ℕ → ℕ → ℕ
crossing_in l words page = slice_index words (place_of l.pages (Cross page))

-- Records lie packed from the one over the page's first word up to FRONT, and behind each mixed one's header stands its count of
-- fields. A page that isn't claimed as the filling page is full.
pub record IsPacked (l : Layout) (page epoch : ℕ) (in_place : Bool) (words : List ℕ) (front : ℕ) : Type 0 where
  pub whole : table_length l.pages ≤ length words
  pub in_space : page < board_page l.pages
  pub area : AreaWord
  pub says : decode_area (slice_index words (place_of l.pages (Area (to_space epoch)))) ≡ Some area
  pub front_is : front ≡ space_start l.pages (to_space epoch) + area.front
  pub inside : front ≤ 128 * l.pages
  pub over : crossing_in l words page ≤ first_word page
  pub reaches : first_word page < record_begins (heap_in l words) (crossing_in l words page) 1
  pub below : crossing_in l words page < front
  pub headers : (n : ℕ) → record_begins (heap_in l words) (crossing_in l words page) n < front
      → IsTrue (is_header (decode (heap_in l words (record_begins (heap_in l words) (crossing_in l words page) n))))
  pub counts : (n len serial mutator : ℕ) → record_begins (heap_in l words) (crossing_in l words page) n < front
      → decode (heap_in l words (record_begins (heap_in l words) (crossing_in l words page) n)) ≡ HeaderWord Mixed len serial mutator
      → IsTrue (is_count (len + 1) (decode (heap_in l words (record_begins (heap_in l words) (crossing_in l words page) n + 1))))
  pub packed : (n : ℕ) → record_begins (heap_in l words) (crossing_in l words page) n < front
      → record_begins (heap_in l words) (crossing_in l words page) (n + 1) ≤ front
  pub full : in_place ≡ false → first_word (page + 1) ≤ front

-- the word at this address is one of those, and leads into the old space, to this address
pub record LeadsBack (l : Layout) (epoch : ℕ) (IsLooked : ℕ → Type 0) (words : List ℕ) (x old : ℕ) : Type 0 where
  pub looked : IsLooked x
  pub leads : decode (heap_in l words x) ≡ PointerWord old
  pub is_back : is_old l epoch old ≡ true

-- of these words each pointer into the old space is replaced by the pointer to its answer, and no other word changes
pub record ReplacesPointers (l : Layout) (epoch : ℕ) (IsLooked : ℕ → Type 0) (answer : ℕ → ℕ) (words words' : List ℕ) : Type 0 where
  pub replaced : (x old : ℕ) → LeadsBack l epoch IsLooked words x old → heap_in l words' x ≡ pointer_word (answer old)
  pub others : (place : ℕ) → ((x old : ℕ) → LeadsBack l epoch IsLooked words x old → place ≢ place_of l.pages (HeapWord x))
      → slice_index words' place ≡ slice_index words place
