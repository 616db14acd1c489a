use Rattle.std.proofs.Common.{◌∙◌, sym}
use Rattle.std.proofs.lemmas.Map.Text.{hash_map_updates_str}
use Rattle.program_text.proofs.Texts.Labels.{kept_new, kept_first}
use Rattle.program_text.proofs.text.labels.keep.Goals as goal

pub returns-in_ok-insert : goal.returns-in_ok-insert
returns-in_ok-insert c =
    let label = c.in-Some.label in
    kept_new c.args.labels.now c.insert.new.self c.args.line.now label c.args.place c.in-Some.is (sym c.contains_key.ensures ∙ c.if-not-contains_key.true) (hash_map_updates_str label.now c.args.labels.now c.insert.new.self _ c.in_ok-insert.ensures.updates)

pub returns-else-not-contains_key : goal.returns-else-not-contains_key
returns-else-not-contains_key c = kept_first c.args.labels.now c.args.line.now c.in-Some.label c.args.place c.in-Some.is (sym c.contains_key.ensures ∙ c.if-not-contains_key.false)
