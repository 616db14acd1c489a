use Rattle.std.proofs.lemmas.Grind.{common_steps}
use Rattle.std.proofs.Common.{arith, ap, ◌∙◌}
use Rattle.program_text.specs.declared.text.line.Line.{Line as Read}
use Rattle.program_text.specs.Read.{line_view}
use Rattle.mutator_asm.specs.Text.{items_on}
use Rattle.program_text.proofs.Lists.Views.{gathered_more}
use Rattle.program_text.proofs.text.schedule.Goals as goal

pub loop-line-preserved : goal.loop-line-preserved
loop-line-preserved c = c.in_ok-extend_from_slice.ensures.items ∙ gathered_more items_on line_view c.args.lines.now c.loop-line.line-index c.line-item.result _ _ c.loop-line-test.true c.loop-line.invariant (c.items.ensures ∙ ap (λ (l : Read). items_on (line_view l)) c.line-item.is)

pub returns : goal.returns
returns c = grind (arith, common_steps)
