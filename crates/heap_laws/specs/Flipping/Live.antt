-- At the end of a cycle what was copied is what was live at its flip.
use Rattle.std.specs.Prelude.{◌≡◌, ◌+◌}
use Rattle.plain_state.specs.State.{Plain}
use Rattle.heap_state.specs.Configuration.{Configuration, era, memory}
use Rattle.heap_state.specs.Cycles.Copies.{CopiedIsLive}
use Rattle.heap_state.specs.Theorems.Standing.{StandsInCycle}

abbrev pub TracedIsLive : Type 0
TracedIsLive = (c : Configuration) (p o : Plain) → StandsInCycle c p o → (memory c).traced ≡ (era c).epoch + 1 → CopiedIsLive c o
