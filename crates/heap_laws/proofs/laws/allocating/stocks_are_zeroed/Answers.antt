use Rattle.heap_laws.proofs.Allocation.Laws.{zeroes_words}
use Rattle.heap_laws.proofs.laws.allocating.stocks_are_zeroed.Goals as goal

pub returns : goal.returns
returns c = zeroes_words
