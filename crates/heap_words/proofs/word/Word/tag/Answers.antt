use Rattle.std.proofs.Common.{◌≡◌, ◌%◌, ◌∙◌, sym, ap, arith}
use Rattle.std.proofs.lemmas.Nat.{and_mask}
use Rattle.heap_words.specs.Word.{tag_of, tag_spelled}
use Rattle.heap_words.proofs.word.Word.tag.Goals as goal

pub returns-in-0 : goal.returns-in-0
unfolding tag_of
returns-in-0 c = ap tag_spelled (sym c.in-0.is ∙ and_mask c.args.self.0 2)

pub returns-in-1 : goal.returns-in-1
unfolding tag_of
returns-in-1 c = ap tag_spelled (sym c.in-1.is ∙ and_mask c.args.self.0 2)

pub returns-in-2 : goal.returns-in-2
unfolding tag_of
returns-in-2 c = ap tag_spelled (sym c.in-2.is ∙ and_mask c.args.self.0 2)

pub returns-in_default : goal.returns-in_default
unfolding tag_of
returns-in_default c =
    let bits : 3 ≡ c.args.self.0 % 4 = omega (arith, and_mask c.args.self.0 2) in
    ap tag_spelled bits
