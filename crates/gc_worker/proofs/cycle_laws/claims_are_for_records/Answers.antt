use Rattle.gc_worker.proofs.Cycles.SetAside.{claims_are_set_aside, set_aside_is_for_records}
use Rattle.gc_worker.proofs.cycle_laws.claims_are_for_records.Goals as goal

pub returns : goal.returns
returns c = record { set_aside = claims_are_set_aside; records = set_aside_is_for_records }
