-- the lines so far, and those that are left
use Rattle.std.proofs.Common.{◌≡◌}
use Rattle.concordance.specs.Gathering.{HasRead, LeadsToEntry, whole_desk_of, whole_register}
use Rattle.concordance.proofs.Gathered.Walks.{LinesLeft}
use Rattle.concordance.proofs.clerk.Clerk.lines_here.Given as goal

abbrev pub invariant-loop : goal.invariant-loop
invariant-loop g l = record {
  read : HasRead l.fn.self l.self;
  here : whole_register (whole_desk_of l.self) 2 ≡ whole_register (whole_desk_of l.fn.self) 2;
  left : (led : LeadsToEntry (whole_desk_of l.fn.self) 2) → LinesLeft l.self 5 led.clerk led.note.lines l.lines.items;
}
