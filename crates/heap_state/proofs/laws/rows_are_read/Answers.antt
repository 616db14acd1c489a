use Rattle.std.proofs.Common.{sym}
use Rattle.heap_state.proofs.Table.StoredRows.{word_in-row}
use Rattle.heap_state.proofs.Table.Spelled.{spelled}
use Rattle.heap_state.proofs.laws.rows_are_read.Goals as goal

pub returns : goal.returns
returns c = record { rows = λ n words row is. sym (word_in-row n words row is); spelled = spelled }
