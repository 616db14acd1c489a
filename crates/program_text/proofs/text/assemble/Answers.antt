use Rattle.std.proofs.Common.{◌≡◌, refl}
use Rattle.mutator_asm.specs.Line.{lines_of}
use Rattle.program_text.specs.Read.{lines_view}
use Rattle.program_text.proofs.Programs.WellFormed.{lines_few, text_is, text_well_formed}
use Rattle.program_text.proofs.text.assemble.Goals as goal

pub parts-requires : goal.parts-requires
parts-requires c = rw c.deref.ensures.value (lines_few c.args.text.now c.in_ok-lines.lines.items c.in_ok-lines.ensures c.requires)

pub program-requires-clause-few : goal.program-requires-clause-few
program-requires-clause-few c = rw c.deref-2.ensures.value (lines_few c.args.text.now c.in_ok-lines.lines.items c.in_ok-lines.ensures c.requires)

pub program-requires-clause-well_formed : goal.program-requires-clause-well_formed
program-requires-clause-well_formed c = λ clean begun.
    let lines : lines_view c.deref-2.result.now ≡ lines_of c.args.text.now = rw c.deref-2.ensures.value c.in_ok-lines.ensures in
    text_well_formed c.args.text.now _ _ (text_is c.args.text.now c.deref-2.result.now _ _ lines clean begun refl refl)
