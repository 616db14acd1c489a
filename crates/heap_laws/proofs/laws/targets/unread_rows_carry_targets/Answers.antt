use Rattle.heap_laws.proofs.Targets.TargetRows.{unread_rows_carry_targets}
use Rattle.heap_laws.proofs.laws.targets.unread_rows_carry_targets.Goals as goal

pub returns : goal.returns
returns c = unread_rows_carry_targets
