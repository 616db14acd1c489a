use Rattle.ael_jobs.proofs.Causes.{failed_counts}
use Rattle.ael_commands.proofs.answering.answer.Goals as goal

pub returns-in-Err-clause-counted : goal.returns-in-Err-clause-counted
returns-in-Err-clause-counted g c = failed_counts c.in-Err.status c.failed.result.status c.failed.ensures.status (λ n. c.in-Err.ensures.counted (λ e. n cc))
