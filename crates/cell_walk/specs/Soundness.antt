-- What the walk knows of itself: its steps are in the table, and what it stores is a value.
use Rattle.std.specs.Prelude.{◌≡◌, ℕ, ◌+◌, ◌*◌, ◌^◌, ◌<◌, ◌≤◌, ⊤, true, ◌⊎◌}
use Rattle.heap_words.specs.Word.{number_word, pointer_word}
use Rattle.space_map.specs.Spaces.{Layout, IsPageCount}
use Rattle.cell_walk.specs.declared.linked_cell.LinkedCell.{LinkedCell}
use Rattle.cell_walk.specs.declared.walk_stage.WalkStage.{WalkStage}
use Rattle.cell_walk.specs.declared.walk_stage.WalkStage.TheVariants.{LoadsTurn, TakesTurn, LoadsWeak, LoadsTarget, LoadsTargetHeader, StoresTarget, LoadsLink, Ended}
use Rattle.cell_walk.specs.Taken.{is_old}
use Rattle.cell_walk.specs.Walking.{Walking, most_cells}

-- the cell's three words lie in the heap, and no more cells may come than a space holds
pub record FitsCell (pages : ℕ) (cell : LinkedCell) : Type 0 where
  pub inside : cell.at + 2 < 128 * pages
  pub some : 0 < cell.most
  pub few : cell.most ≤ most_cells pages

-- the number 0, or a pointer
abbrev pub IsReplacement : ℕ → Type 0
IsReplacement word = (word ≡ number_word 0) ⊎ ((address : ℕ) × (address < 2 ^ 32) × (word ≡ pointer_word address))

abbrev pub FitsStage : Layout → (epoch : ℕ) → WalkStage → Type 0
FitsStage l e LoadsTurn = ⊤
FitsStage l e (TakesTurn found) = found ≤ e
FitsStage l e LoadsWeak = ⊤
FitsStage l e (LoadsTarget cell) = FitsCell l.pages cell
FitsStage l e (LoadsTargetHeader cell old) = FitsCell l.pages cell × (is_old l e old ≡ true)
FitsStage l e (StoresTarget cell word) = FitsCell l.pages cell × IsReplacement word
FitsStage l e (LoadsLink cell) = FitsCell l.pages cell
FitsStage l e (Ended end) = ⊤

pub record IsSound (v : Walking) : Type 0 where
  pub pages : IsPageCount v.layout.pages
  pub fits : FitsStage v.layout v.epoch v.stage
