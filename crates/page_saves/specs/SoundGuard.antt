-- What a look before a write keeps of itself: the rows that it wants are in the table, and a save that it makes is its own.
use Rattle.std.specs.Prelude.{◌≡◌, ◌^◌, ◌<◌, ◌≤◌, true, ⊤}
use Rattle.space_map.specs.declared.spaces.TheConstants.{LAST_WORKER}
use Rattle.space_map.specs.Spaces.{IsPageCount, board_page}
use Rattle.page_saves.specs.declared.guard_stage.GuardStage.{GuardStage}
use Rattle.page_saves.specs.declared.guard_stage.GuardStage.TheVariants as guard_stage
use Rattle.page_saves.specs.Guard.{Guarding}
use Rattle.page_saves.specs.SoundSave.{IsOwnSave}

abbrev pub FitsGuardStage : Guarding → GuardStage → Type 0
FitsGuardStage g (guard_stage.Saves s) = IsOwnSave g.layout g.page g.number g.worker s
FitsGuardStage g stage = ⊤

-- the page is a space's or the board
pub record IsSoundGuard (g : Guarding) : Type 0 where
  pub pages : IsPageCount g.layout.pages
  pub room : g.layout.checkpoints ≡ true
  pub page : g.page ≤ board_page g.layout.pages
  pub number : g.number < 2 ^ 32
  pub worker : g.worker ≤ LAST_WORKER
  pub stage : FitsGuardStage g g.stage

-- the look has a next step
abbrev pub IsGuardGoing : GuardStage → Type 0
IsGuardGoing (guard_stage.Ended result) = ⊥
IsGuardGoing stage = ⊤

-- it makes a save
abbrev pub IsGuardSaving : GuardStage → Type 0
IsGuardSaving (guard_stage.Saves s) = ⊤
IsGuardSaving stage = ⊥
