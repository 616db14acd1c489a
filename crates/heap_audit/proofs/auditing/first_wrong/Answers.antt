use Rattle.std.proofs.Common.{Option, subst, rules}
use Rattle.dump_text.specs.Reading.{dump_view}
use Rattle.heap_audit.specs.Places.{TellsFirstUnseen}
use Rattle.heap_audit.specs.declared.places.place.Place.{Place}
use Rattle.heap_audit.proofs.WrongPlaces.Verdicts.{tells_none, told_by, told_is_said}
use Rattle.heap_audit.proofs.auditing.first_wrong.Goals as goal

pub returns : goal.returns
returns c =
    let d = dump_view c.args.dump.now in
    let pages = c.unwrap-spaces.result.pages in
    let registers = c.as_slice-2.result.now in
    let kept = c.as_slice-3.result.now in
    let words = c.as_slice-4.result.now in
    tells_none (told_by pages registers kept words) d c.args.plain.now
    (told_is_said d pages registers kept words (search rules) c.as_slice-2.ensures.value (search rules) c.as_slice-4.ensures.value)
    c.requires.form
    (subst (λ (o : Option Place). TellsFirstUnseen (told_by pages registers kept words) c.args.plain.now o) c.in-None.is c.in_ok-place.ensures.first)
