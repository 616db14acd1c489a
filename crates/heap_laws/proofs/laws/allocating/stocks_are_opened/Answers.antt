use Rattle.heap_laws.proofs.Allocation.Laws.{opens_pages}
use Rattle.heap_laws.proofs.laws.allocating.stocks_are_opened.Goals as goal

pub returns : goal.returns
returns c = opens_pages
