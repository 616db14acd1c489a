use Rattle.std.proofs.Common.{arith}
use Rattle.ael_jobs.proofs.Printed.Seeing.{fit_words}
use Rattle.ael_jobs.proofs.runs.dump.push_words.Goals as goal

pub returns-clause-words : goal.returns-clause-words
returns-clause-words c = fit_words c.args.words.now (λ i. omega (arith, c.type_inv.words i))
