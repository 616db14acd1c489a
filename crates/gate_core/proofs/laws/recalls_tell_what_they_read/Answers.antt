use Rattle.gate_core.proofs.Recalling.{recalls_tell_what_they_read}
use Rattle.gate_core.proofs.laws.recalls_tell_what_they_read.Goals as goal

pub returns-clause-told : goal.returns-clause-told
returns-clause-told c = recalls_tell_what_they_read
