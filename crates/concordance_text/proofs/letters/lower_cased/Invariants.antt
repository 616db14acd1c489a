use Rattle.std.proofs.Common.{◌≡◌, take}
use Rattle.concordance_text.specs.Words.{lower_cased}
use Rattle.concordance_text.proofs.letters.lower_cased.Given as goal

-- the letters so far
abbrev pub invariant-loop-letter : goal.invariant-loop-letter
invariant-loop-letter l = l.letters.items ≡ lower_cased (take l.letter-index l.word)
