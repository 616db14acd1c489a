use Rattle.heap_laws.proofs.Tracing.Copied.{copies_reachable}
use Rattle.heap_laws.proofs.Tracing.TracedExchange.{leads_nowhere}
use Rattle.heap_laws.proofs.laws.tracing.traced_epochs_are_clean.Goals as goal

pub returns : goal.returns
returns c = record { clean = leads_nowhere; copied = copies_reachable }
