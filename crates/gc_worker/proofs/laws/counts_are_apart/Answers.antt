use Rattle.gc_worker.proofs.Workers.ApartFromCount.{counts_are_apart, counted_fit}
use Rattle.gc_worker.proofs.laws.counts_are_apart.Goals as goal

pub returns : goal.returns
returns c = record { same = counts_are_apart; sound = counted_fit }
