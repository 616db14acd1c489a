-- The walk over the cells that were linked in an epoch, by one worker: its stages, and the step that each wants.
use Rattle.std.specs.Prelude.{ℕ, ◌+◌, ◌*◌, ◌/◌, ⊤, Option, Some, None, option_map}
use Rattle.atom_store.specs.declared.step.Step.{Step}
use Rattle.atom_store.specs.StepOn.{StepOn, Load, Store, Exchange, step_at}
use Rattle.space_map.specs.declared.spaces.TheConstants.{PAGE_WORDS}
use Rattle.space_map.specs.Spaces.{Layout}
use Rattle.space_map.specs.Table.{Row, WeakHead, WeakTurn, HeapWord, place_of}
use Rattle.cell_walk.specs.declared.walk.TheConstants.{CELL_WORDS}
use Rattle.cell_walk.specs.declared.walk_stage.WalkStage.{WalkStage}
use Rattle.cell_walk.specs.declared.walk_stage.WalkStage.TheVariants.{LoadsTurn, TakesTurn, LoadsWeak, LoadsTarget, LoadsTargetHeader, StoresTarget, LoadsLink, Ended}

-- the layout of the heap, the epoch, and the walk's stage
pub record Walking : Type 0 where
  pub layout : Layout
  pub epoch : ℕ
  pub stage : WalkStage

-- a walk that has done nothing yet
abbrev pub begun : Layout → (epoch : ℕ) → Walking
begun l epoch = record { layout = l; epoch = epoch; stage = LoadsTurn }

-- the walk has not ended
abbrev pub IsGoing : WalkStage → Type 0
IsGoing (Ended end) = ⊥
IsGoing _ = ⊤

-- how many cells a space holds
abbrev pub most_cells : (pages : ℕ) → ℕ
most_cells n = PAGE_WORDS * n / CELL_WORDS

-- the next step at a stage, by the row that it is on
abbrev pub wants_at : (epoch : ℕ) → WalkStage → Option (StepOn Row)
wants_at e LoadsTurn = Some (Load WeakTurn)
wants_at e (TakesTurn found) = Some (Exchange WeakTurn found (e + 1))
wants_at e LoadsWeak = Some (Load WeakHead)
wants_at e (LoadsTarget cell) = Some (Load (HeapWord (cell.at + 1)))
wants_at e (LoadsTargetHeader cell old) = Some (Load (HeapWord old))
wants_at e (StoresTarget cell word) = Some (Store (HeapWord (cell.at + 1)) word)
wants_at e (LoadsLink cell) = Some (Load (HeapWord (cell.at + 2)))
wants_at e (Ended end) = None

abbrev pub wanted_at : Layout → (epoch : ℕ) → WalkStage → Option Step
wanted_at l e stage = option_map (step_at (place_of l.pages)) (wants_at e stage)

-- the next step, if there is one
abbrev pub wanted : Walking → Option Step
wanted v = wanted_at v.layout v.epoch v.stage
