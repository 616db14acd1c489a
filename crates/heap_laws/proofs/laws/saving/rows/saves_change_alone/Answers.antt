use Rattle.heap_state.proofs.Table.CheckpointRows.{saves_stay, numbers_are_stored, saves_are_stored}
use Rattle.heap_laws.proofs.Saving.Stores.{saves_follow}
use Rattle.heap_laws.proofs.laws.saving.rows.saves_change_alone.Goals as goal

pub returns : goal.returns
returns c = record { stay = saves_stay; numbers = numbers_are_stored; saves = saves_are_stored; entries = saves_follow }
