use Rattle.heap_laws.proofs.Tracing.Lost.{lost_targets_are_zero}
use Rattle.heap_laws.proofs.Tracing.TracedExchange.{traces, sleeper_loses_traced}
use Rattle.heap_laws.proofs.laws.tracing.epochs_are_traced.Goals as goal

pub returns : goal.returns
returns c = record { traced = traces; lost = lost_targets_are_zero; asleep = sleeper_loses_traced }
