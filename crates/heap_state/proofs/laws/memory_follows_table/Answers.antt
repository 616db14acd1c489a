use Rattle.heap_state.proofs.Table.Seen.{follows}
use Rattle.heap_state.proofs.laws.memory_follows_table.Goals as goal

pub returns : goal.returns
returns c = follows
