use Rattle.gc_core.proofs.Cycles.SizesByEvents.{sizes_grow_at_flips, sizes_never_fall}
use Rattle.gc_core.proofs.Cycles.CyclesOfRuns.{sizes_are_between}
use Rattle.gc_core.proofs.laws.sizes_grow_at_flips.Goals as goal

pub returns : goal.returns
returns c = record { at_flips = sizes_grow_at_flips; never_fall = sizes_never_fall; between = sizes_are_between }
