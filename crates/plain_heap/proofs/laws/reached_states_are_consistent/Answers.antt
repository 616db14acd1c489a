use Rattle.plain_heap.proofs.States.Reached.{opening-consistent, marks-keep, plain-consistent}
use Rattle.plain_heap.proofs.laws.reached_states_are_consistent.Goals as goal

pub returns : goal.returns
returns c = record { opening = opening-consistent; marks = marks-keep; runs = plain-consistent }
