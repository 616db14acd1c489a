use Rattle.heap_laws.proofs.Targets.TracedTargets.{traced_targets_are_held}
use Rattle.heap_laws.proofs.Targets.Walked.{tracing_carries_targets}
use Rattle.heap_laws.proofs.laws.targets.tracing_carries_targets.Goals as goal

pub returns : goal.returns
returns c = record { traced = tracing_carries_targets; held = traced_targets_are_held }
