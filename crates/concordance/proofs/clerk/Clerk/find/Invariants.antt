use Rattle.std.proofs.Common.{List}
use Rattle.concordance_text.specs.Words.{Mention}
use Rattle.concordance.specs.Desk.{desk_register}
use Rattle.concordance.specs.Lone.{desk_of}
use Rattle.concordance.specs.Notes.Desks.{HasNoted, for_finding}
use Rattle.concordance.specs.Notes.Records.{Note}
use Rattle.concordance.specs.declared.registers.TheConstants.{FIRST, HERE}
use Rattle.concordance.proofs.Desks.Seats.{StaysWith}
use Rattle.concordance.proofs.Notes.Search.{IsOnPath}
use Rattle.concordance.proofs.clerk.Clerk.find.Given as goal

abbrev pub invariant-loop : goal.invariant-loop
invariant-loop g l =
    StaysWith for_finding l.fn.self l.self
    × ((notes : List Note) (noted : List Mention) → HasNoted (desk_of l.fn.self) notes noted
    → IsOnPath (desk_of l.fn.self).number (desk_of l.fn.self).records (desk_register (desk_of l.fn.self) FIRST) notes l.word (desk_register (desk_of l.self) HERE) l.path)
