use Rattle.cell_walk.proofs.WalkGoesOn.{ends_in_time, goes_on}
use Rattle.cell_walk.proofs.laws.walks_go_on.Goals as goal

pub returns : goal.returns
returns c = record { goes_on = goes_on; ends_in_time = ends_in_time }
