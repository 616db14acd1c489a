use Rattle.std.proofs.Common.{◌≡◌, ℕ, List, ◌++◌, Vec, Global, ap, string_bytes, subst, sym, ◌∙◌}
use Rattle.checkpoint_text.specs.Text.{AddsLinesOf, AreLinesOf}
use Rattle.checkpoint_text.proofs.lines.checkpoint.Goals as goal

pub returns : goal.returns
returns c =
    let added : AddsLinesOf c.args.words.now (string_bytes c.new-out.result) (string_bytes c.push_checkpoint.new.out) = c.in_ok-push_checkpoint.ensures in
    let is : c.into_bytes.result.items ≡ added.0 =
    ap (λ (v : Vec ℕ Global). v.items) c.into_bytes.ensures.value ∙ (added.2 ∙ ap (λ (t : List ℕ). t ++ added.0) c.new-out.ensures.bytes) in
    subst (AreLinesOf c.args.words.now) (sym is) added.1
