use Rattle.heap_laws.proofs.Fields.Laws.{mutators_store_on_board}
use Rattle.heap_laws.proofs.laws.fields.mutators_store_on_board.Goals as goal

pub returns : goal.returns
returns c = mutators_store_on_board
