-- Where the rows of the whole table stand: the table that each heap has ends no later than the whole one, and no two rows have one
-- place.
use Rattle.std.proofs.Common.{◌≡◌, ℕ, ◌≤◌, ◌<◌, Bool, true, false, cond, ap, arith}
use Rattle.space_map.specs.Spaces.{Layout}
use Rattle.space_map.specs.Table.{Row, IsRow, place_of, saving_length, table_length, whole_length}
use Rattle.space_map.specs.WholeTable.{WholeRow, Within, Behind, IsWholeRow, whole_place_of}
use Rattle.space_map.proofs.Rows.{place_of-lt, save_place_of-ge, save_place_of-lt, same_row, same_save_row}

longer : (n : ℕ) (b : Bool) → table_length n ≤ cond b (saving_length n) (table_length n)
longer n true = omega arith
longer n false = omega arith

pub table_length-le-whole_length : (l : Layout) → table_length l.pages ≤ whole_length l
table_length-le-whole_length l = longer l.pages l.checkpoints

-- a row that each table has stands in the whole table
pub place_of-lt-whole : (l : Layout) (row : Row) → IsRow l.pages row → place_of l.pages row < whole_length l
place_of-lt-whole l row is =
    let inside = place_of-lt l.pages row is in
    let longer = table_length-le-whole_length l in
    omega (arith, inside, longer)

-- each row stands in a table with room for checkpoints
pub whole_place_of-lt : (l : Layout) (row : WholeRow) → l.checkpoints ≡ true → IsWholeRow l.pages row → whole_place_of l.pages row < whole_length l
whole_place_of-lt l (Within row) room is = place_of-lt-whole l row is
whole_place_of-lt l (Behind row) room is = save_place_of-lt l row room is

-- one row's place is another's only if the rows are one
pub same_whole_row : (n : ℕ) (a b : WholeRow) → IsWholeRow n a → IsWholeRow n b → whole_place_of n a ≡ whole_place_of n b → a ≡ b
same_whole_row n (Within a) (Within b) a_is b_is same = ap Within (same_row n a b a_is b_is same)
same_whole_row n (Behind a) (Behind b) a_is b_is same = ap Behind (same_save_row n a b a_is b_is same)
same_whole_row n (Within a) (Behind b) a_is b_is same =
    let below = place_of-lt n a a_is in let above = save_place_of-ge n b in absurd (omega (arith, below, above, same))
same_whole_row n (Behind a) (Within b) a_is b_is same =
    let below = place_of-lt n b b_is in let above = save_place_of-ge n a in absurd (omega (arith, below, above, same))
