use Rattle.concordance_text.proofs.LongRuns.{from_long_run, to_long_run}
use Rattle.concordance_text.proofs.WordRuns.{from_run, to_run}
use Rattle.concordance_text.proofs.laws.words_are_runs.Goals as goal

pub returns-clause-words : goal.returns-clause-words
returns-clause-words c text m = (to_run text m, from_run text m)

pub returns-clause-too_long : goal.returns-clause-too_long
returns-clause-too_long c text number = (to_long_run text number, from_long_run text number)
