use Rattle.space_map.proofs.Rows.{same_row, place_of-lt, same_save_row, save_place_of-ge, save_place_of-lt}
use Rattle.space_map.proofs.laws.rows_lie_apart.Goals as goal

pub returns : goal.returns
returns c = record { apart = same_row; in_table = place_of-lt; saves_apart = same_save_row; saves_behind = save_place_of-ge; saves_in_table = save_place_of-lt }
