use Rattle.heap_laws.proofs.Fields.Effects.{mutators_are_shown, registers_hold, headers_say, accesses_are_values, targets_are_values, board_words_are_values}
use Rattle.heap_laws.proofs.laws.fields.mutators_are_shown.Goals as goal

pub returns : goal.returns
returns c = record { mutators = mutators_are_shown; registers = registers_hold; headers = headers_say; accesses = accesses_are_values; targets = targets_are_values; board = board_words_are_values }
