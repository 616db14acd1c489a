use Rattle.std.proofs.Common.{rules, tests, sym, ◌∙◌}
use Rattle.std.proofs.lemmas.Iterator.{YieldsList-from_slice, items_from_collect}
use Rattle.std.proofs.lemmas.Iterator.Consumers.{YieldsList-from_filter_map, YieldsList-at}
use Rattle.program_text.specs.Part.{part_view}
use Rattle.program_text.specs.Read.{line_view}
use Rattle.mutator_asm.specs.Text.{instr_by, target_of, section_of}
use Rattle.program_text.proofs.Programs.Sections.{filter_map-map}
use Rattle.program_text.proofs.text.section.Goals as goal

pub returns : goal.returns
unfolding section_of
returns c =
    let part = c.args.part.now in
    let got = items_from_collect _ c.collect.ensures.ran (YieldsList-from_filter_map _ (λ l. instr_by (target_of (part_view part)) (line_view l).word) (YieldsList-at c.filter_map.ensures.source (YieldsList-from_slice part.lines.now c.iter.ensures.rest)) c.filter_map.ensures.closure (λ x r q k. search (rules, tests))) in
    let items = rw c.in_ok-instrs.was at got in
    c.new.ensures ∙ items ∙ sym (filter_map-map (λ l. instr_by (target_of (part_view part)) l.word) line_view part.lines.now)
