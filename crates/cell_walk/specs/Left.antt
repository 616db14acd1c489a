-- How many steps the walk has left.
use Rattle.std.specs.Prelude.{ℕ, ◌+◌, ◌-◌, ◌*◌, Bool, true, false}
use Rattle.atom_store.specs.declared.reply.Reply.{Reply}
use Rattle.atom_store.specs.declared.reply.Reply.TheVariants.{Value, Done, Won, Lost}
use Rattle.cell_walk.specs.declared.walk_stage.WalkStage.{WalkStage}
use Rattle.cell_walk.specs.declared.walk_stage.WalkStage.TheVariants.{LoadsTurn, TakesTurn, LoadsWeak, LoadsTarget, LoadsTargetHeader, StoresTarget, LoadsLink, Ended}
use Rattle.cell_walk.specs.Walking.{Walking, most_cells}

-- at most so many steps are left: four for each cell that may still come
abbrev pub left_at : (pages : ℕ) → WalkStage → ℕ
left_at n LoadsTurn = 4 * most_cells n + 3
left_at n (TakesTurn found) = 4 * most_cells n + 2
left_at n LoadsWeak = 4 * most_cells n + 1
left_at n (LoadsTarget cell) = 4 * cell.most
left_at n (LoadsTargetHeader cell old) = 4 * cell.most - 1
left_at n (StoresTarget cell word) = 4 * cell.most - 2
left_at n (LoadsLink cell) = 4 * cell.most - 3
left_at n (Ended end) = 0

abbrev pub left : Walking → ℕ
left v = left_at v.layout.pages v.stage

-- the reply is one to the step that the walk wants, and takes it on, or to its end
abbrev pub advances : WalkStage → Reply → Bool
advances LoadsTurn (Value w) = true
advances (TakesTurn found) Won = true
advances (TakesTurn found) (Lost w) = true
advances LoadsWeak (Value w) = true
advances (LoadsTarget cell) (Value w) = true
advances (LoadsTargetHeader cell old) (Value w) = true
advances (StoresTarget cell word) Done = true
advances (LoadsLink cell) (Value w) = true
advances _ _ = false
