use Rattle.std.proofs.Common.{arith, inl, inr, refl, sym, ap, ◌∙◌}
use Rattle.std.proofs.lemmas.List.{length-map}
use Rattle.program_text.specs.declared.text.before.Before.{Before}
use Rattle.program_text.specs.Labels.{and_line}
use Rattle.program_text.specs.Read.{line_view, lines_view}
use Rattle.mutator_asm.proofs.Texts.Clean.{first_error, clean_more}
use Rattle.program_text.proofs.Texts.Before.{few_read, before_more, parts_enough, read_at, error_here, all_read}
use Rattle.program_text.proofs.Texts.Limits.{within_step, within_up_to}
use Rattle.program_text.proofs.Tokens.Options.{none_if_not}
use Rattle.program_text.proofs.text.check.Goals as goal

pub offset_bounds-parts-before : goal.offset_bounds-parts-before
offset_bounds-parts-before c =
    let few = few_read c.args.lines.now c.loop-i.i c.loop-i.before c.loop-i-test.true c.loop-i.invariant.before in
    omega arith

pub bounds-parts-before : goal.bounds-parts-before
bounds-parts-before c = parts_enough c.args.parts.now (lines_view c.args.lines.now) c.loop-i.i c.loop-i.before c.requires.parts c.loop-i.invariant.before

pub returns-in-Some-clause-fault : goal.returns-in-Some-clause-fault
returns-in-Some-clause-fault c =
    let lines = lines_view c.args.lines.now in
    let inside = length-map c.args.lines.now line_view in
    let error = error_here c.args.lines.now c.args.parts.now c.loop-i.i c.index-lines-i.result c.index-parts-before.result c.loop-i.before _ c.loop-i-test.true c.index-lines-i.is c.loop-i.invariant.before c.requires.parts c.index-parts-before.is c.in-Some.ensures in
    inl (first_error lines c.loop-i.i (line_view c.index-lines-i.result) c.in-Some.mistake _ _ c.number.ensures (omega arith) (omega arith) error c.loop-i.invariant.clean)

pub and-before-requires : goal.and-before-requires
and-before-requires c =
    let lines = lines_view c.args.lines.now in
    let inside = length-map c.args.lines.now line_view in
    let few = few_read c.args.lines.now c.loop-i.i c.loop-i.before c.loop-i-test.true c.loop-i.invariant.before in
    let none = sym (none_if_not c.error.result c.in_default.not-Some) ∙ c.error.ensures in
    let within = rw (← c.loop-i.invariant.before) at (within_up_to lines c.loop-i.i c.loop-i.i (omega arith) (omega arith) c.loop-i.invariant.clean) in
    let more = within_step _ _ c.loop-i.before (line_view c.index-lines-i.result) (sym none) within in
    record { sections = omega arith; lines = omega arith; instrs = omega arith; items = omega (arith, more.items) }

pub loop-i-preserved : goal.loop-i-preserved
loop-i-preserved c =
    let lines = lines_view c.args.lines.now in
    let inside = length-map c.args.lines.now line_view in
    let none = sym (none_if_not c.error.result c.in_default.not-Some) ∙ c.error.ensures in
    let error = error_here c.args.lines.now c.args.parts.now c.loop-i.i c.index-lines-i.result c.index-parts-before.result c.loop-i.before _ c.loop-i-test.true c.index-lines-i.is c.loop-i.invariant.before c.requires.parts c.index-parts-before.is none in
    record {
      before = c.and-before.ensures ∙ ap (λ (b : Before). and_line b (line_view c.index-lines-i.result)) c.loop-i.invariant.before ∙ before_more lines c.loop-i.i (line_view c.index-lines-i.result) (omega arith) (read_at c.args.lines.now c.loop-i.i c.index-lines-i.result c.loop-i-test.true c.index-lines-i.is);
      clean = clean_more lines c.loop-i.i (line_view c.index-lines-i.result) error c.loop-i.invariant.clean;
    }

pub returns-then-before-eq0-clause-fault : goal.returns-then-before-eq0-clause-fault
returns-then-before-eq0-clause-fault c =
    let lines = lines_view c.args.lines.now in
    let whole = all_read c.args.lines.now c.loop-i.i c.loop-i.before (omega arith) (omega arith) c.loop-i.invariant.before c.loop-i.invariant.clean in
    inr (record { clean = whole.clean; none_begun = sym whole.sections ∙ c.if-before-eq0.true; error = c.number-then-before-eq0.ensures; place = refl })

pub returns-clause-begun : goal.returns-clause-begun
returns-clause-begun c =
    let whole = all_read c.args.lines.now c.loop-i.i c.loop-i.before (omega arith) (omega arith) c.loop-i.invariant.before c.loop-i.invariant.clean in
    omega (arith, whole.sections)
