use Rattle.gc_worker.proofs.Between.Begun.{beginnings_are_kept, full_is_found_later}
use Rattle.gc_worker.proofs.laws.beginnings_are_kept.Goals as goal

pub returns : goal.returns
returns c = record { kept = beginnings_are_kept; full = full_is_found_later }
