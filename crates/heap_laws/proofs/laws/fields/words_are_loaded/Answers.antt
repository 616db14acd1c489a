use Rattle.heap_laws.proofs.Fields.Shown.{headers_are_read, registers_are_held, numbers_are_held}
use Rattle.heap_laws.proofs.Fields.Stored.{accesses_are_allowed, words_are_loaded, board_is_loaded}
use Rattle.heap_laws.proofs.laws.fields.words_are_loaded.Goals as goal

pub returns : goal.returns
returns c = record { accesses = accesses_are_allowed; words = words_are_loaded; board = board_is_loaded; headers = headers_are_read; registers = registers_are_held; numbers = numbers_are_held }
