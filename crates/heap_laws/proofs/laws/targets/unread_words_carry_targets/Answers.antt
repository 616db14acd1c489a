use Rattle.heap_laws.proofs.Targets.TargetRows.{unread_words_carry_targets, no_target_words_are_read}
use Rattle.heap_laws.proofs.laws.targets.unread_words_carry_targets.Goals as goal

pub returns : goal.returns
returns c = record { store = unread_words_carry_targets; words = no_target_words_are_read }
