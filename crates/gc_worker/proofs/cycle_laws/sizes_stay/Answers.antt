use Rattle.gc_worker.proofs.Cycles.SizesOfSpaces.{seen_flips_double, sizes_are_within, sizes_hold, sizes_stay}
use Rattle.gc_worker.proofs.cycle_laws.sizes_stay.Goals as goal

pub returns : goal.returns
returns c = record { stay = sizes_stay; within = sizes_are_within; double = seen_flips_double; hold = sizes_hold }
