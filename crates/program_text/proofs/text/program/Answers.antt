use Rattle.std.proofs.Common.{ap, drop, map, ◌∙◌, List}
use Rattle.mutator_asm.specs.Line.{Line}
use Rattle.mutator_asm.specs.Text.{section_of, code_of}
use Rattle.program_text.proofs.Programs.WellFormed.{text_is}
use Rattle.program_text.proofs.text.program.Goals as goal

pub new-requires : goal.new-requires
unfolding code_of
new-requires c =
    let code = c.in_ok-code.ensures ∙ ap (λ (parts : List (List Line)). map section_of (drop 1 parts)) c.requires.parts in
    rw (code, c.in_ok-schedule.ensures) (c.requires.well_formed c.in_ok-check.ensures.clean c.in_ok-check.ensures.begun)

pub returns-clause-text : goal.returns-clause-text
unfolding code_of
returns-clause-text c = λ text e.
    let code = c.new.ensures.code ∙ c.in_ok-code.ensures ∙ ap (λ (parts : List (List Line)). map section_of (drop 1 parts)) c.requires.parts in
    text_is text c.args.lines.now _ _ e c.in_ok-check.ensures.clean c.in_ok-check.ensures.begun code (c.new.ensures.schedule ∙ c.in_ok-schedule.ensures)
