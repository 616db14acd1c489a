use Rattle.std.proofs.Common.{◌∙◌, ap, flat_map, sym}
use Rattle.concordance_text.specs.Theorems.{OneListOfRows}
use Rattle.concordance_text.specs.Rows.{row_text}
use Rattle.concordance_text.proofs.Uniqueness.{same_rows}
use Rattle.concordance_text.proofs.laws.one_concordance.Goals as goal

one_list : OneListOfRows
one_list ms rows others a b = same_rows rows others a.ordered b.ordered a.rising b.rising a.some b.some (λ m h. b.all m (a.only m h)) (λ m h. a.all m (b.only m h))

pub returns-clause-rows : goal.returns-clause-rows
returns-clause-rows c = one_list

pub returns-clause-told : goal.returns-clause-told
returns-clause-told c text told other a b = a.told_is ∙ ap (flat_map row_text) (one_list _ a.rows b.rows a.are b.are) ∙ sym b.told_is
