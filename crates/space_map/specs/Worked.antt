-- The layout of the heaps that are worked out by hand.
use Rattle.std.specs.Prelude.{false}
use Rattle.space_map.specs.Spaces.{Layout}

-- Four pages a space, the fewest. In the table the areas stand at places 4 and 5, the sizes at 12 and 13, the page words begin at 16,
-- the crossing words at 25, the heap's words at 33, and the announced places at 609.
abbrev pub four_pages : Layout
four_pages = record { pages = 4; checkpoints = false }
