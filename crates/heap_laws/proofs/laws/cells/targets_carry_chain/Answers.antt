use Rattle.heap_laws.proofs.Cells.Walked.{finding_target_carries_chain, headers_replace_targets, finding_word_carries_chain, replacing_target_carries_chain}
use Rattle.heap_laws.proofs.laws.cells.targets_carry_chain.Goals as goal

pub returns : goal.returns
returns c = record { target = finding_target_carries_chain; header = headers_replace_targets; word = finding_word_carries_chain; replaced = replacing_target_carries_chain }
