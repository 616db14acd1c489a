-- How many pages of the gate's epoch's space are in use: at least four, and no more than there are.
use Rattle.std.proofs.Common.{◌≤◌, arith}
use Rattle.plain_state.specs.State.{Plain}
use Rattle.space_map.specs.Spaces.{to_space}
use Rattle.heap_state.specs.Configuration.{Configuration, Stands, table}
use Rattle.heap_state.proofs.Table.Spelled.{spelled}
use Rattle.gc_worker.proofs.Words.GrownSizes.{size_within}
use Rattle.lone_mutator.specs.Potential.{size_in}

pub size_in-within : (c : Configuration) (p : Plain) → Stands c p → (4 ≤ size_in (table c)) × (size_in (table c) ≤ c.pages)
size_in-within c p s =
    let space = to_space (table c).gate.epoch in
    let says = (spelled c.pages c.words s.formed).sizes space (omega arith) in
    let within = size_within c p s space (omega arith) in
    (omega (arith, says, within), omega (arith, says, within))
