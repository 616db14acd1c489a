use Rattle.ael_jobs.proofs.WholeRuns.WorkerRounds.{first_round}
use Rattle.ael_jobs.proofs.runs.scheduler.listing.Listing.new.Goals as goal

pub returns : goal.returns
returns c = first_round c.args.items.now c.requires.some
