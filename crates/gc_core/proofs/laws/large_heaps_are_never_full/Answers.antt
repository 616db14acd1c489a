use Rattle.gc_core.proofs.Cycles.CyclesOfRuns.{large_heaps_are_never_full, lone_heaps_are_never_full}
use Rattle.gc_core.proofs.laws.large_heaps_are_never_full.Goals as goal

pub returns : goal.returns
returns c = record { large = large_heaps_are_never_full; lone = lone_heaps_are_never_full }
