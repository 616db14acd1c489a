use Rattle.gc_worker.proofs.Cycles.Lows.{low_falls_by_claims}
use Rattle.gc_worker.proofs.cycle_laws.low_falls_by_claims.Goals as goal

pub returns : goal.returns
returns c = low_falls_by_claims
