use Rattle.heap_audit.proofs.WrongPlaces.Verdicts.{says_yes}
use Rattle.heap_audit.proofs.auditing.audit.Goals as goal

pub returns-clause-yes : goal.returns-clause-yes
returns-clause-yes c = says_yes c.args.p.now.code c.args.turns c.args.bytes.now c.verdict_on.result c.verdict_on.ensures
