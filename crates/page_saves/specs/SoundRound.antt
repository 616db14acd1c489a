-- What a save round keeps of itself: the rows that it wants are in the table, and a save that it makes is its own.
use Rattle.std.specs.Prelude.{◌≡◌, ◌≢◌, ℕ, ◌+◌, ◌^◌, ◌<◌, ◌≤◌, true, ⊤}
use Rattle.space_map.specs.declared.spaces.TheConstants.{LAST_WORKER}
use Rattle.space_map.specs.Spaces.{IsPageCount, board_page}
use Rattle.page_saves.specs.declared.save_round_stage.SaveRoundStage.{SaveRoundStage}
use Rattle.page_saves.specs.declared.save_round_stage.SaveRoundStage.TheVariants as save_round_stage
use Rattle.page_saves.specs.SaveRound.{SavingRound, to_page_in}
use Rattle.page_saves.specs.SoundSave.{IsOwnSave}

-- the page is the board, or one of the space that is copied into in an epoch
pub record IsPageIn (pages epoch page : ℕ) : Type 0 where
  pub in_table : page ≤ board_page pages
  pub low : page ≢ board_page pages → to_page_in pages epoch ≤ page
  pub high : page ≢ board_page pages → page < to_page_in pages epoch + pages

-- in the epoch of the round
abbrev pub IsRoundPage : SavingRound → (page : ℕ) → Type 0
IsRoundPage r page = IsPageIn r.layout.pages r.epoch page

abbrev pub FitsSaveRoundStage : SavingRound → SaveRoundStage → Type 0
FitsSaveRoundStage r (save_round_stage.LoadsPage page busy) = IsRoundPage r page
FitsSaveRoundStage r (save_round_stage.LoadsSave page busy) = IsRoundPage r page
FitsSaveRoundStage r (save_round_stage.Saves s) = IsRoundPage r s.page × IsOwnSave r.layout s.page r.number r.worker s
FitsSaveRoundStage r stage = ⊤

pub record IsSoundSaveRound (r : SavingRound) : Type 0 where
  pub pages : IsPageCount r.layout.pages
  pub room : r.layout.checkpoints ≡ true
  pub epoch : r.epoch < 2 ^ 32
  pub number : r.number < 2 ^ 32
  pub worker : r.worker ≤ LAST_WORKER
  pub stage : FitsSaveRoundStage r r.stage

-- the round has a next step
abbrev pub IsSaveRoundGoing : SaveRoundStage → Type 0
IsSaveRoundGoing (save_round_stage.Ended result) = ⊥
IsSaveRoundGoing stage = ⊤

-- it makes a save
abbrev pub IsRoundSaving : SaveRoundStage → Type 0
IsRoundSaving (save_round_stage.Saves s) = ⊤
IsRoundSaving stage = ⊥
