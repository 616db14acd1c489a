use Rattle.std.proofs.Common.{flat_map, refl}
use Rattle.concordance_text.specs.Words.{mentions_of}
use Rattle.concordance_text.specs.Rows.{row_text}
use Rattle.concordance_text.proofs.Existence.{are_rows, rows_for}
use Rattle.concordance_text.proofs.laws.some_concordance.Goals as goal

pub returns : goal.returns
returns c text =
    let rows = rows_for (mentions_of text) in
    (flat_map row_text rows, record { rows = rows; are = are_rows (mentions_of text); told_is = refl })
