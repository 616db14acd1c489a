use Rattle.heap_laws.proofs.Gate.GateCounts.{fits}
use Rattle.heap_laws.proofs.laws.gating.gates_fit.Goals as goal

pub returns : goal.returns
returns c = fits
