use Rattle.heap_laws.proofs.Tracing.Turns.{turns_are_taken}
use Rattle.heap_laws.proofs.laws.tracing.turns_are_taken.Goals as goal

pub returns : goal.returns
returns c = turns_are_taken
