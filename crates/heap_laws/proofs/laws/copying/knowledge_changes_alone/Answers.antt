use Rattle.heap_laws.proofs.Copying.Laws.{knowledge_changes_alone}
use Rattle.heap_laws.proofs.laws.copying.knowledge_changes_alone.Goals as goal

pub returns : goal.returns
returns c = knowledge_changes_alone
