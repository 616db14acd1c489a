use Rattle.space_map.proofs.WholeRows.{same_whole_row, whole_place_of-lt}
use Rattle.space_map.proofs.laws.whole_rows_lie_apart.Goals as goal

pub returns : goal.returns
returns c = record { apart = same_whole_row; in_table = whole_place_of-lt }
