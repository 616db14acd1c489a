use Rattle.gc_worker.proofs.Cycles.NextSizes.{flips_set_sizes, next_sizes_begin, next_sizes_stay}
use Rattle.gc_worker.proofs.cycle_laws.flips_set_sizes.Goals as goal

pub returns : goal.returns
returns c = record { set = flips_set_sizes; begin = next_sizes_begin; stay = next_sizes_stay }
