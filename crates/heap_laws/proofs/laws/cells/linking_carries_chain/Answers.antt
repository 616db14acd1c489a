use Rattle.heap_laws.proofs.Cells.Linked.{reading_weak_carries_chain, storing_link_carries_chain, linking_carries_chain}
use Rattle.heap_laws.proofs.laws.cells.linking_carries_chain.Goals as goal

pub returns : goal.returns
returns c = record { reads = reading_weak_carries_chain; stores = storing_link_carries_chain; wins = linking_carries_chain }
