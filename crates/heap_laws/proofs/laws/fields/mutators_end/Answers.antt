use Rattle.heap_laws.proofs.Fields.Laws.{mutators_end, mutators_find_no_room}
use Rattle.heap_laws.proofs.laws.fields.mutators_end.Goals as goal

pub returns : goal.returns
returns c = record { ends = mutators_end; full = mutators_find_no_room }
