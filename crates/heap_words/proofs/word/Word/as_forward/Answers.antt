use Rattle.std.proofs.Common.{◌∙◌, sym}
use Rattle.heap_words.proofs.Forwards.{copy_in-narrowed, copy_in-none}
use Rattle.heap_words.proofs.word.Word.as_forward.Goals as goal

pub returns : goal.returns
returns c = c.ok.ensures.value ∙ copy_in-narrowed c.try_from.result c.args.self.0 c.if-word-ne-FORWARD.false c.try_from.ensures

pub returns-then-word-ne-FORWARD : goal.returns-then-word-ne-FORWARD
returns-then-word-ne-FORWARD c = sym (copy_in-none c.args.self.0 c.if-word-ne-FORWARD.true)
