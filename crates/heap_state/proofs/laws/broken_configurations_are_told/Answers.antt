use Rattle.heap_state.proofs.Requested.RequestedStands.{runs_on}
use Rattle.heap_state.proofs.Worked.Broken.{wrong, early, short}
use Rattle.heap_state.proofs.laws.broken_configurations_are_told.Goals as goal

pub returns : goal.returns
returns c = record { wrong = wrong; early = early; short = short; runs_on = runs_on }
