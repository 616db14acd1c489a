use Rattle.heap_laws.proofs.Cells.Carried.{chain_is_carried}
use Rattle.heap_laws.proofs.laws.cells.chain_is_carried.Goals as goal

pub returns : goal.returns
returns c = chain_is_carried
