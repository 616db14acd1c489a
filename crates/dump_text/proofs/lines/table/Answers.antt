use Rattle.std.proofs.Common.{sym}
use Rattle.dump_text.specs.Pieces.{cell_at}
use Rattle.dump_text.proofs.Loop.{goes_on, is_done, stops}
use Rattle.dump_text.proofs.lines.table.Goals as goal

pub returns-in_default : goal.returns-in_default
returns-in_default c = stops (cell_at 10) c.loop-i.found.items c.args.count c.loop-i.i c.args.line c.loop-i.rest.now _ c.loop-i-test.true (sym c.in_default.ensures) c.loop-i.invariant

pub loop-i-preserved : goal.loop-i-preserved
loop-i-preserved c = rw c.in_ok-push.ensures.items (goes_on (cell_at 10) c.loop-i.found.items c.args.count c.loop-i.i c.args.line c.loop-i.rest.now _ c.in-Some.word c.in-Some.after.now c.loop-i-test.true (sym c.in-Some.ensures) c.loop-i.invariant)

pub returns : goal.returns
returns c = is_done (cell_at 10) c.loop-i.found.items c.args.count c.loop-i.i c.args.line c.loop-i.rest.now _ c.loop-i-test.false c.loop-i.invariant
