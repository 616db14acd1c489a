use Rattle.std.proofs.Common.{◌∙◌}
use Rattle.concordance.proofs.Desks.ReadLine.{begins, ends, full_in_line, goes, notes_there, word_short}
use Rattle.concordance.proofs.FoundFull.{passed_on}
use Rattle.concordance.proofs.clerk.Clerk.read_line.Goals as goal

pub loop-word-init : goal.loop-word-init
loop-word-init g c = begins c.args.self.now c.args.number c.args.line.now c.requires.lone c.requires.short

pub lower_cased-requires : goal.lower_cased-requires
lower_cased-requires g c = record { short = word_short c.args.self.now c.args.number c.args.line.now c.loop-word.rest.now c.loop-word.self c.loop-word.invariant c.in-Some.word.now c.in-Some.behind.now c.in-Some.ensures.word }

pub note-requires-clause-notes : goal.note-requires-clause-notes
note-requires-clause-notes g c =
    let n = notes_there c.args.self.now c.args.number c.args.line.now c.loop-word.rest.now c.loop-word.self c.loop-word.invariant c.in-Some.word.now c.in-Some.behind.now c.in-Some.ensures.word c.requires.notes in
    record { noted = n.noted; is = n.is }

pub loop-word-preserved : goal.loop-word-preserved
loop-word-preserved g c =
    let n = c.in_ok-note.ensures in
    goes c.args.self.now c.args.number c.args.line.now c.loop-word.rest.now c.loop-word.self c.loop-word.invariant c.in-Some.word.now c.in-Some.behind.now c.in-Some.ensures.word c.note.new.self c.as_slice.result.now (c.as_slice.ensures.value ∙ c.lower_cased.ensures)
    c.in-Some.ensures.behind n.same n.lone n.noted n.made

pub returns-clause-noted : goal.returns-clause-noted
returns-clause-noted g c = ends c.args.self.now c.args.number c.args.line.now c.loop-word.rest.now c.loop-word.self c.loop-word.invariant (c.first_word.ensures.none c.in_default.is)

pub returns-in_err-note-clause-full : goal.returns-in_err-note-clause-full
returns-in_err-note-clause-full g c =
    passed_on _ _ _ c.from_residual.ensures.1
    (full_in_line c.args.self.now c.args.number c.args.line.now c.loop-word.rest.now c.loop-word.self c.loop-word.invariant c.in-Some.word.now c.in-Some.behind.now c.in-Some.ensures.word c.as_slice.result.now (c.as_slice.ensures.value ∙ c.lower_cased.ensures) _ _ c.in_err-note.ensures.full)
