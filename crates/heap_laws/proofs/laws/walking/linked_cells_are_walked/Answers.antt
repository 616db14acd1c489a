use Rattle.heap_laws.proofs.Walking.Loads.{walks_begin, walks_go_on}
use Rattle.heap_laws.proofs.laws.walking.linked_cells_are_walked.Goals as goal

pub returns : goal.returns
returns c = record { begins = walks_begin; goes_on = walks_go_on }
