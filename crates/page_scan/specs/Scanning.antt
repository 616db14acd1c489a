-- The scan of a page: its stages, and the step that each wants.
use Rattle.std.specs.Prelude.{ℕ, ◌+◌, ◌==◌, Bool, ⊤, Option, Some, None, option_map, if◌then◌else◌}
use Rattle.atom_store.specs.declared.step.Step.{Step}
use Rattle.atom_store.specs.StepOn.{StepOn, Load, Store, step_at}
use Rattle.heap_words.specs.Word.{pointer_word}
use Rattle.space_map.specs.Spaces.{Layout, to_space, first_word, board_page}
use Rattle.space_map.specs.Table.{Row, Area, Cross, HeapWord, place_of}
use Rattle.page_scan.specs.declared.scan_stage.ScanStage.{ScanStage}
use Rattle.page_scan.specs.declared.scan_stage.ScanStage.TheVariants.{LoadsCross, LoadsFirst, LoadsCount, LoadsWord, Asks, StoresCopy, LoadsFront, LoadsNext, Ended}
use Rattle.page_scan.specs.declared.spot.Spot.{Spot}
use Rattle.page_scan.specs.declared.spot.Spot.TheVariants.{OnBoard, InRecord}

-- the layout of the heap, the page, the epoch, whether the page was claimed as the filling page, and the scan's stage
pub record Scanning : Type 0 where
  pub layout : Layout
  pub page : ℕ
  pub epoch : ℕ
  pub in_place : Bool
  pub stage : ScanStage

-- where the scan of a page begins, of the board or of another
abbrev pub first_stage : (is_board : Bool) → (page : ℕ) → ScanStage
first_stage is_board page = if is_board then LoadsWord (OnBoard (first_word page)) else LoadsCross

-- a scan that has done nothing yet: the board has no records, and all its words are looked at
abbrev pub begun : Layout → (page epoch : ℕ) → Bool → Scanning
begun l page epoch in_place = record {
  layout = l;
  page = page;
  epoch = epoch;
  in_place = in_place;
  stage = first_stage (page == board_page l.pages) page;
}

-- the scan has not ended
abbrev pub IsGoing : ScanStage → Type 0
IsGoing (Ended ending) = ⊥
IsGoing _ = ⊤

-- the scan waits for an answer
abbrev pub IsAsking : ScanStage → Type 0
IsAsking (Asks asked) = ⊤
IsAsking _ = ⊥

-- the scan has a next step
abbrev pub HasStep : ScanStage → Type 0
HasStep (Ended ending) = ⊥
HasStep (Asks asked) = ⊥
HasStep _ = ⊤

-- the address of the word at a spot
abbrev pub address_of : Spot → ℕ
address_of (OnBoard x) = x
address_of (InRecord r x) = x

-- the next step at a stage, by the row that it is on
abbrev pub wants_at : (page epoch : ℕ) → ScanStage → Option (StepOn Row)
wants_at p e LoadsCross = Some (Load (Cross p))
wants_at p e (LoadsFirst at) = Some (Load (HeapWord at))
wants_at p e (LoadsCount h) = Some (Load (HeapWord (h.at + 1)))
wants_at p e (LoadsWord spot) = Some (Load (HeapWord (address_of spot)))
wants_at p e (Asks asked) = None
wants_at p e (StoresCopy asked to) = Some (Store (HeapWord (address_of asked.spot)) (pointer_word to))
wants_at p e (LoadsFront r) = Some (Load (Area (to_space e)))
wants_at p e (LoadsNext r) = Some (Load (HeapWord r.next))
wants_at p e (Ended ending) = None

abbrev pub wanted_at : Layout → (page epoch : ℕ) → ScanStage → Option Step
wanted_at l p e stage = option_map (step_at (place_of l.pages)) (wants_at p e stage)

-- the next step, if there is one
abbrev pub wanted : Scanning → Option Step
wanted v = wanted_at v.layout v.page v.epoch v.stage
