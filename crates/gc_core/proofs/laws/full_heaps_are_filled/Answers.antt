use Rattle.gc_core.proofs.Cycles.CyclesOfRuns.{claims_are_for_records, full_heaps_are_filled, orders_are_filled_by_claims, orders_fill_the_space}
use Rattle.gc_core.proofs.laws.full_heaps_are_filled.Goals as goal

pub returns : goal.returns
returns c = record { filled = full_heaps_are_filled; for_records = claims_are_for_records; orders = orders_fill_the_space; by_claims = orders_are_filled_by_claims }
