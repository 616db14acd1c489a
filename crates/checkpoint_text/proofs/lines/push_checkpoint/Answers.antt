use Rattle.std.proofs.Common.{ℕ, List, [], append-nil, refl, string_bytes, subst, sym}
use Rattle.std.specs.Prelude.{OnOk}
use Rattle.checkpoint_text.specs.Text.{AddsLinesOf}
use Rattle.checkpoint_text.proofs.lines.push_checkpoint.Goals as goal

pub returns-in-Some : goal.returns-in-Some
returns-in-Some c =
    subst (λ (words : List ℕ). OnOk c.push_lines.result (AddsLinesOf words (string_bytes c.args.out.now) (string_bytes c.push_lines.new.out))) c.in-Some.ensures.words c.push_lines.ensures

pub returns-in-None : goal.returns-in-None
returns-in-None c = (
  [],
  record { told = λ number kept tells. absurd (let some = c.in-None.ensures.found tells.pages tells.table in cc); none = λ no_room. refl },
  sym (append-nil (string_bytes c.args.out.now)),
)
