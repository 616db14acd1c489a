use Rattle.heap_laws.proofs.Cells.Ended.{sizes_carry_chain, clearing_weak_carries_chain, flipping_carries_chain}
use Rattle.heap_laws.proofs.laws.cells.flips_carry_chain.Goals as goal

pub returns : goal.returns
returns c = record { sizes = sizes_carry_chain; clears = clearing_weak_carries_chain; flips = flipping_carries_chain }
