use Rattle.std.proofs.Common.{sym, ◌∙◌}
use Rattle.concordance.proofs.Desks.ReadText.{begins, ends, full_in_text, goes, none_left, notes_there}
use Rattle.concordance.proofs.FoundFull.{passed_on}
use Rattle.concordance.proofs.Pieces.FirstLine.{has_mentions, has_short}
use Rattle.concordance.proofs.clerk.Clerk.read.Goals as goal

pub loop-rest-init : goal.loop-rest-init
loop-rest-init g c = begins c.args.self.now c.args.part.line c.args.part.text.now c.requires.lone c.requires.short c.requires.none

pub read_line-requires-clause-notes : goal.read_line-requires-clause-notes
read_line-requires-clause-notes g c = notes_there c.args.self.now c.args.part.line c.args.part.text.now c.loop-rest.number c.loop-rest.rest.now c.loop-rest.self c.loop-rest.invariant

pub read_line-requires-clause-short : goal.read_line-requires-clause-short
read_line-requires-clause-short g c = (has_short _ _ _ c.first_line.ensures.line c.loop-rest.invariant.short).0

pub loop-rest-preserved : goal.loop-rest-preserved
loop-rest-preserved g c =
    let n = c.in_ok-read_line.ensures in
    let f = c.first_line.ensures in
    goes c.args.self.now c.args.part.line c.args.part.text.now c.loop-rest.number c.loop-rest.rest.now c.loop-rest.self c.loop-rest.invariant c.first_line.result.0.now c.first_line.result.1.now (has_mentions _ _ _ f.line) c.read_line.new.self (has_short _ _ _ f.line c.loop-rest.invariant.short).1 f.bytes f.behind n.same
    n.lone n.noted n.made

pub returns-clause-noted : goal.returns-clause-noted
returns-clause-noted g c = ends c.args.self.now c.args.part.line c.args.part.text.now c.loop-rest.number c.loop-rest.rest.now c.loop-rest.self c.loop-rest.invariant (none_left c.loop-rest.rest.now (sym c.is_empty.ensures ∙ c.loop-rest-test.false))

pub returns-in_err-read_line-clause-full : goal.returns-in_err-read_line-clause-full
returns-in_err-read_line-clause-full g c =
    passed_on _ _ _ c.from_residual.ensures.1
    (full_in_text c.args.self.now c.args.part.line c.args.part.text.now c.loop-rest.number c.loop-rest.rest.now c.loop-rest.self c.loop-rest.invariant c.first_line.result.0.now c.first_line.result.1.now (has_mentions _ _ _ c.first_line.ensures.line) _ _ c.in_err-read_line.ensures.full)
