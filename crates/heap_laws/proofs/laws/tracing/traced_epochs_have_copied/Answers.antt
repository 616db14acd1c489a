use Rattle.heap_laws.proofs.Tracing.Live.{traced_is_live}
use Rattle.heap_laws.proofs.laws.tracing.traced_epochs_have_copied.Goals as goal

pub returns : goal.returns
returns c = traced_is_live
