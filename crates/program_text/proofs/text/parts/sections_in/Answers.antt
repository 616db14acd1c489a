use Rattle.std.proofs.Common.{rules, tests}
use Rattle.std.proofs.lemmas.Iterator.Consumers.{map_from_collect, YieldsList-at}
use Rattle.std.proofs.lemmas.Iterator.Adapters.{YieldsList-from_skip}
use Rattle.std.proofs.lemmas.Iterator.Splits.{YieldsList-from_slice_split}
use Rattle.program_text.specs.Read.{line_view}
use Rattle.mutator_asm.specs.Text.{begins_section}
use Rattle.program_text.proofs.Programs.Sections.{sections_view}
use Rattle.program_text.proofs.text.parts.sections_in.Goals as goal

pub returns : goal.returns
returns c =
    let kept = map_from_collect _ c.collect.ensures.ran (YieldsList-from_skip 1 (YieldsList-at c.skip.ensures.source (YieldsList-from_slice_split _ (λ l. begins_section (line_view l)) c.args.lines.now c.split.ensures.rest c.split.ensures.done c.split.ensures.closure (λ x r q k. search (rules, tests)))) c.skip.ensures.count) in
    sections_view c.collect.result c.args.lines.now kept
