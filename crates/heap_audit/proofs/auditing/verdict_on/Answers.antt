use Rattle.std.proofs.Common.{◌∙◌, sym, subst}
use Rattle.dump_text.specs.Reading.{dump_view}
use Rattle.dump_text.specs.Said.{dump_said}
use Rattle.plain_state.specs.State.{Plain}
use Rattle.heap_audit.specs.Places.{HasForm}
use Rattle.heap_audit.proofs.WrongPlaces.Verdicts.{has_form}
use Rattle.heap_audit.proofs.auditing.verdict_on.Goals as goal

pub first_wrong-requires-clause-form : goal.first_wrong-requires-clause-form
first_wrong-requires-clause-form c =
    let d = dump_view c.in-Ok.part.dump in
    subst (λ (s : Plain). HasForm (dump_said d) s) (sym c.in_ok-plain.ensures)
    (has_form c.args.p.now.code c.args.turns c.as_slice.result.now c.args.p.now.well_formed.instrs d (c.in-Ok.ensures.found.0.dump.as_many ∙ c.len.ensures))
