use Rattle.std.proofs.Common.{◌≡◌, take}
use Rattle.concordance.specs.Notes.Paths.{bits_of}
use Rattle.concordance.proofs.path.Path.new.Given as goal

abbrev pub invariant-loop-letter : goal.invariant-loop-letter
invariant-loop-letter l = l.bits ≡ bits_of (take l.letter-index l.word)
