use Rattle.gate_core.proofs.Snapping.{keeps, begins, hindered}
use Rattle.gate_core.proofs.laws.checkpoints_begin_where_nobody_runs.Goals as goal

pub returns-clause-kept : goal.returns-clause-kept
returns-clause-kept c = λ snap before after turn stands acts. keeps snap snap.stage before after turn stands acts

pub returns-clause-begun : goal.returns-clause-begun
returns-clause-begun c = λ snap before after gate sound whole stands acts. begins snap snap.stage before after gate sound whole stands acts

pub returns-clause-hindered : goal.returns-clause-hindered
returns-clause-hindered c = λ snap before after word acts. hindered snap snap.stage before after word acts
