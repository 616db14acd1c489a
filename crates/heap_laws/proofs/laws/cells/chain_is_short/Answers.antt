use Rattle.heap_laws.proofs.Cells.Short.{chain_is_short}
use Rattle.heap_laws.proofs.laws.cells.chain_is_short.Goals as goal

pub returns : goal.returns
returns c = chain_is_short
