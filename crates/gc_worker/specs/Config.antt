-- How many pages the spaces of a heap may have, and its layout.
use Rattle.std.specs.Prelude.{◌&&◌, Bool, nat_le}
use Rattle.space_map.specs.declared.spaces.TheConstants.{MOST_PAGES}
use Rattle.space_map.specs.Spaces.{Layout, is_size}
use Rattle.gc_worker.specs.declared.config.Config.{Config}

-- a space may have so many pages, and so many of them are in use at first
abbrev pub has_sizes : Config → Bool
has_sizes config = is_size config.pages && (nat_le config.pages config.limit && nat_le config.limit MOST_PAGES)

-- its layout, for as many pages as may come into use, and for checkpoints if they can be begun
abbrev pub layout_by : Config → Layout
layout_by config = record { pages = config.limit; checkpoints = config.snap }
