use Rattle.embedding.proofs.ListCalls.{number_had}
use Rattle.embedding.proofs.lists.first.Goals as goal

pub returns-clause-first : goal.returns-clause-first
returns-clause-first g c = number_had c.ok_or.result c.number.result _ _ c.number.ensures c.ok_or.ensures.ok_part c.in_ok-load.ensures.value
