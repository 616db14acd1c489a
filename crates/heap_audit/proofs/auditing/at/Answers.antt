use Rattle.std.proofs.Common.{sym, ap, ◌∙◌}
use Rattle.heap_audit.specs.Verdict.{at_told}
use Rattle.heap_audit.specs.declared.verdict.At.TheVariants.{Word}
use Rattle.heap_audit.proofs.WrongPlaces.Verdicts.{board_word_stands, word_stands}
use Rattle.heap_audit.proofs.auditing.at.Goals as goal

pub returns-in-Board : goal.returns-in-Board
returns-in-Board c =
    ap Word (board_word_stands c.args.spaces.pages c.word_place-heap.result c.board_page.result c.first_word-board.result c.in-Board.x c.word_place-heap.ensures.place c.board_page.ensures c.first_word-board.ensures)
    ∙ ap (at_told c.args.spaces.pages) (sym c.in-Board.is)

pub returns-in-Word : goal.returns-in-Word
returns-in-Word c =
    ap Word (word_stands c.args.spaces.pages c.word_place-heap.result c.in-Word.address c.word_place-heap.ensures.place) ∙ ap (at_told c.args.spaces.pages) (sym c.in-Word.is)
