-- A heap that may be full while a text's concordance is made.
use Rattle.std.specs.Prelude.{ℕ, ◌+◌, ◌*◌, ◌<◌, ◌≤◌, List, length}
use Rattle.plain_state.specs.declared.sizes.TheConstants.{PAGE_WORDS}
use Rattle.concordance_text.specs.Rows.{AreRowsOf, WordRow, need}
use Rattle.concordance_text.specs.Words.{mentions_of}

-- Spaces of so many pages may be full for a text: they have fewer than four pages for each word of it plus two, and no more heap words than the
-- room that is left plus what the text's rows need. At most two pages are asked for, and the room is less.
pub record MayBeFull (pages : ℕ) (text : List ℕ) (asked room : ℕ) : Type 0 where
  pub rows : List WordRow
  pub are : AreRowsOf (mentions_of text) rows
  pub few_asked : asked ≤ 2
  pub no_room : room < PAGE_WORDS * asked
  pub few_pages : pages < 4 * length (mentions_of text) + 2
  pub filled : PAGE_WORDS * pages ≤ room + need rows
