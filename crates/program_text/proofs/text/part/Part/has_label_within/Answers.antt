use Rattle.std.proofs.Common.{sym}
use Rattle.program_text.specs.Part.{part_view}
use Rattle.program_text.proofs.Texts.Labels.{within_some, within_none}
use Rattle.program_text.proofs.text.part.Part.has_label_within.Goals as goal

pub returns-in-Some : goal.returns-in-Some
returns-in-Some c = within_some c.args.self.now.labels (part_view c.args.self.now) c.args.lines c.args.name.now c.in-Some.place.now (c.args.self.now.knows c.args.name.now) (sym c.in-Some.ensures.value)

pub returns-in-None : goal.returns-in-None
returns-in-None c = within_none c.args.self.now.labels (part_view c.args.self.now) c.args.lines c.args.name.now (c.args.self.now.knows c.args.name.now) (sym c.in-None.ensures.value)
