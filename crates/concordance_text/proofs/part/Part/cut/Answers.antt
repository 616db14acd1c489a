use Rattle.std.proofs.Common.{arith, ◌≡◌, ◌⊎◌, [], ◌++◌, ◌∙◌, refl, ap₂, take-append-drop}
use Rattle.concordance_text.specs.Parts.{EndsWithLine}
use Rattle.concordance_text.proofs.Cuts.{cut_there, is_cut}
use Rattle.concordance_text.proofs.part.Part.cut.Goals as goal

pub returns-clause-cut : goal.returns-clause-cut
returns-clause-cut c =
    let text = c.args.self.text.now in
    let xs = c.split_at.result.0.now in
    let ys = c.split_at.result.1.now in
    let bytes : xs ++ ys ≡ text = ap₂ (λ a b. a ++ b) c.split_at.ensures.front c.split_at.ensures.back ∙ take-append-drop c.line_end.result text in
    let there : EndsWithLine xs ⊎ (ys ≡ []) = cut_there c.line_end.result text xs ys c.split_at.ensures.front c.split_at.ensures.back c.line_end.ensures.at_line_end in
    is_cut _ _ _ bytes there refl (omega arith)
