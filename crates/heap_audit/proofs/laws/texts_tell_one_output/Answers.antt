use Rattle.heap_audit.proofs.Texts.WholePart.{one_output}
use Rattle.heap_audit.proofs.laws.texts_tell_one_output.Goals as goal

pub returns : goal.returns
returns c = one_output
