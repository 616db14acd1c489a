-- the rows of the parts so far
use Rattle.std.proofs.Common.{flat_map, take}
use Rattle.concordance_text.specs.Parts.{mentions_of_part}
use Rattle.concordance_text.specs.Rows.{AreRowsOf, rows_of}
use Rattle.concordance.specs.Gathering.{HasRead}
use Rattle.concordance.proofs.clerk.Clerk.gather.Given as goal

abbrev pub invariant-loop-number : goal.invariant-loop-number
invariant-loop-number g l = record {
  read : HasRead l.fn.self l.self;
  rows : AreRowsOf (flat_map mentions_of_part (take l.number l.parts)) (rows_of l.words);
}
