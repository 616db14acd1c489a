use Rattle.plain_heap.proofs.Orders.NoCells.{tracing_needs_cells}
use Rattle.plain_heap.proofs.Orders.Tracing.{tracing_is_done_once, tracing_needs_flip}
use Rattle.plain_heap.proofs.Reaching.Emptying.{emptied_of_lost_cells}
use Rattle.plain_heap.proofs.laws.tracing_empties_cells.Goals as goal

pub returns : goal.returns
returns c = record { emptied = emptied_of_lost_cells; no_flip = tracing_needs_flip; once = tracing_is_done_once; no_cells = tracing_needs_cells }
