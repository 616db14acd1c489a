-- What a save keeps of itself: the rows that it wants are in the table, and its words can be packed.
use Rattle.std.specs.Prelude.{◌≡◌, ℕ, ◌^◌, ◌<◌, ◌≤◌, true, ⊤}
use Rattle.space_map.specs.declared.spaces.TheConstants.{LAST_WORKER, PAGE_WORDS}
use Rattle.space_map.specs.SaveWord.{SaveFits, number_of}
use Rattle.space_map.specs.Spaces.{Layout, IsPageCount, board_page}
use Rattle.page_saves.specs.declared.save_stage.SaveStage.{SaveStage}
use Rattle.page_saves.specs.declared.save_stage.SaveStage.TheVariants as save_stage
use Rattle.page_saves.specs.Save.{PageSaving}

-- words are counted within the page
abbrev pub FitsSaveStage : SaveStage → Type 0
FitsSaveStage (save_stage.LoadsWord i) = i < PAGE_WORDS
FitsSaveStage (save_stage.StoresImage i word) = i < PAGE_WORDS
FitsSaveStage stage = ⊤

-- the page is a space's or the board, and what was said of it is nothing, or of a checkpoint before this one
pub record IsSoundSave (s : PageSaving) : Type 0 where
  pub pages : IsPageCount s.layout.pages
  pub room : s.layout.checkpoints ≡ true
  pub page : s.page ≤ board_page s.layout.pages
  pub found : SaveFits s.found
  pub earlier : number_of s.found < s.number
  pub number : s.number < 2 ^ 32
  pub worker : s.worker ≤ LAST_WORKER
  pub stage : FitsSaveStage s.stage

-- the save has a next step
abbrev pub IsSaveGoing : SaveStage → Type 0
IsSaveGoing (save_stage.Ended result) = ⊥
IsSaveGoing stage = ⊤

-- the save is this worker's own, of this page for this checkpoint
pub record IsOwnSave (layout : Layout) (page number worker : ℕ) (s : PageSaving) : Type 0 where
  pub in_layout : s.layout ≡ layout
  pub of_page : s.page ≡ page
  pub for_number : s.number ≡ number
  pub by_worker : s.worker ≡ worker
  pub going : IsSaveGoing s.stage
  pub sound : IsSoundSave s
