-- What is known of weak cells: the chain of those that were copied, and where the targets of all lead.
use Rattle.heap_state.specs.Cells.{Ranks, Chain}
use Rattle.heap_state.specs.Invariant.Ghost.{Ghost}
use Rattle.heap_state.specs.Memory.Era.{Era, Memory}
use Rattle.heap_state.specs.Targets.{Targets}
use Rattle.heap_state.specs.Known.{Team}

-- it is so of the cells of a memory and its team, with the ranks that the proofs know beside
pub record Cells (E : Era) (m : Memory) (team : Team) (g : Ghost) : Type 0 where
  pub ranks : Ranks
  pub chain : Chain E m m.weak m.weak_turn team g ranks
  pub targets : Targets E m g
