use Rattle.std.proofs.Common.{ap, ◌∙◌, List, ◌∷◌, [], arith}
use Rattle.std.proofs.lemmas.Iterator.Adapters.{YieldsList-from_vec}
use Rattle.std.proofs.lemmas.Iterator.Consumers.{YieldsList-turn, YieldsList-end}
use Rattle.mutator_asm.specs.Line.{Line}
use Rattle.program_text.proofs.Programs.Sections.{section_short, sections_all}
use Rattle.program_text.proofs.text.parts.parts.Goals as goal

pub add-requires-in-loop-lines : goal.add-requires-in-loop-lines
add-requires-in-loop-lines c =
    let items = c.in_ok-lines-items.lines-items in
    let given = c.into_iter-lines-iterator.ensures.into_iter_gives in
    let turn = YieldsList-turn (YieldsList-from_vec {s = c.into_iter-lines-iterator.result} items.items given.0 (omega (arith, given.1, items.ok.0))) c.loop-lines.yielded c.loop-lines.lines-iterator c.loop-lines.yielded_by c.next.result c.next.new.self c.in-Some.lines c.in-Some.is c.next.ensures.steps in
    omega (arith, section_short items.items c.args.lines.now _ c.in-Some.lines c.in_ok-lines-items.ensures turn.0 turn.1)

pub returns : goal.returns
returns c =
    let items = c.in_ok-lines-items.lines-items in
    let given = c.into_iter-lines-iterator.ensures.into_iter_gives in
    let end = YieldsList-end (YieldsList-from_vec {s = c.into_iter-lines-iterator.result} items.items given.0 (omega (arith, given.1, items.ok.0))) c.loop-lines.yielded c.loop-lines.lines-iterator c.loop-lines.yielded_by c.next.result c.next.new.self c.in-None.is c.next.ensures.steps in
    c.loop-lines.invariant.so_far ∙ ap (λ (ss : List (List Line)). [] ∷ ss) (sections_all c.loop-lines.yielded items.items _ end.0 c.in_ok-lines-items.ensures)
