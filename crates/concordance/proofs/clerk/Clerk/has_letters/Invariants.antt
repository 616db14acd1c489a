use Rattle.std.proofs.Common.{◌≡◌, ℕ, List, length}
use Rattle.concordance.specs.Desk.{desk_register}
use Rattle.concordance.specs.Lone.{desk_of}
use Rattle.concordance.specs.Notes.Desks.{for_number}
use Rattle.concordance.specs.Notes.Records.{IsLetters}
use Rattle.concordance.specs.declared.registers.TheConstants.{LETTERS}
use Rattle.concordance.proofs.Desks.Seats.{StaysWith}
use Rattle.concordance.proofs.Lists.Letters.{AgreesTo}
use Rattle.concordance.proofs.clerk.Clerk.has_letters.Given as goal

abbrev pub invariant-loop-letter : goal.invariant-loop-letter
invariant-loop-letter g l =
    StaysWith for_number l.fn.self l.self
    × (l.place ≡ l.letter-index)
    × ((letters : List ℕ) → IsLetters (desk_of l.fn.self).number (desk_of l.fn.self).records (desk_register (desk_of l.fn.self) LETTERS) letters → length letters ≡ length l.word → AgreesTo letters l.word l.letter-index)
