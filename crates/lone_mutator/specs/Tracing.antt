-- What is still to be paid for the tracing of an epoch, by what the words of the table say.
use Rattle.std.specs.Prelude.{ℕ, ◌+◌, ◌*◌, ◌==◌, if◌then◌else◌}
use Rattle.space_map.specs.declared.page_word.PageWord.{PageWord}
use Rattle.space_map.specs.PageWord.{age_of}
use Rattle.space_map.specs.Spaces.{board_page, to_space}
use Rattle.heap_state.specs.Functions.{sum_below}
use Rattle.lone_mutator.specs.Bound.{round_cost, page_cost, walk_cost}

-- 1 where a page has no word of the epoch, and so is still to be claimed in it
abbrev pub waits : (epoch : ℕ) → PageWord → ℕ
waits epoch word = if age_of word == epoch + 1 then 0 else 1

-- how many of the board and the pages of the epoch's space are still to be claimed
unfoldable pub unclaimed : (n epoch : ℕ) (page : ℕ → PageWord) → ℕ
unclaimed n epoch page = waits epoch (page (board_page n)) + sum_below n (λ i. waits epoch (page (n * to_space epoch + i)))

-- for the walk over the chain of cells, until its turn is taken in the epoch
unfoldable pub walk_due : (n epoch turn : ℕ) → ℕ
walk_due n epoch turn = if turn == epoch + 1 then 0 else walk_cost n

-- for the pages still to be claimed, the words still to be copied, and the walk; nothing once the epoch is traced
unfoldable pub tracing_left : (n epoch traced turn owed : ℕ) (page : ℕ → PageWord) → ℕ
tracing_left n epoch traced turn owed page = if traced == epoch + 1 then 0 else page_cost n * unclaimed n epoch page + 5 * owed + walk_due n epoch turn

-- the same before a round
unfoldable pub tracing_due : (n epoch traced turn owed : ℕ) (page : ℕ → PageWord) → ℕ
tracing_due n epoch traced turn owed page = if traced == epoch + 1 then 0 else page_cost n * unclaimed n epoch page + 5 * owed + walk_due n epoch turn + round_cost n
