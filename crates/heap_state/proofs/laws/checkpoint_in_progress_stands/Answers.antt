use Rattle.heap_state.proofs.Saving.Out.{worked_out}
use Rattle.heap_state.proofs.Saving.Broken.{tells_broken}
use Rattle.heap_state.proofs.laws.checkpoint_in_progress_stands.Goals as goal

pub returns : goal.returns
returns c = record { stands = worked_out; broken = tells_broken }
