use Rattle.std.proofs.Common.{sym, ◌∙◌}
use Rattle.heap_words.specs.Decoded.{decode}
use Rattle.cell_walk.proofs.FirstWords.{replacement-copy, replacement-none}
use Rattle.cell_walk.proofs.walk.replacement.Goals as goal

pub returns-in-Some : goal.returns-in-Some
returns-in-Some c = c.pointer.ensures.word ∙ sym (replacement-copy (decode c.args.word) c.in-Some.address c.in-Some.ensures)

pub returns-in-None : goal.returns-in-None
returns-in-None c = c.number.ensures.word ∙ sym (replacement-none (decode c.args.word) c.in-None.ensures)
