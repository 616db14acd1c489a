use Rattle.std.proofs.Common.{◌≡◌}
use Rattle.concordance.specs.Lone.{IsLone, KeepsSeat, desk_of}
use Rattle.concordance.specs.Notes.Desks.{ChangesAtMost, for_letters}
use Rattle.concordance.specs.Notes.Records.{raw}
use Rattle.concordance.specs.declared.registers.TheConstants.{LETTERS}
use Rattle.concordance.proofs.Desks.FreshRecord.{IsFresh}
use Rattle.concordance.proofs.Lists.Letters.{written}
use Rattle.concordance.proofs.clerk.Clerk.make_letters.Given as goal

abbrev pub invariant-loop-letter : goal.invariant-loop-letter
invariant-loop-letter g l =
    KeepsSeat l.fn.self l.self
    × IsLone l.self
    × ChangesAtMost for_letters (desk_of l.fn.self) (desk_of l.self)
    × IsFresh (desk_of l.fn.self).records (raw (written l.word l.letter-index)) LETTERS (desk_of l.self)
    × (l.place ≡ l.letter-index)
