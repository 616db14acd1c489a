use Rattle.std.proofs.Common.{◌+◌, ◌-◌, ◌*◌}
use Rattle.space_map.specs.Spaces.{board_page, first_word}
use Rattle.checkpoint_text.specs.Words.{saved_heap}
use Rattle.checkpoint_text.proofs.Scans.{IsScanned}
use Rattle.checkpoint_text.proofs.visiting.reached.Given as goal

-- the records up to the next one are scanned
abbrev pub invariant-loop-record : goal.invariant-loop-record
invariant-loop-record l = IsScanned (saved_heap l.words) (first_word (board_page l.words.spaces.pages)) (128 * l.words.spaces.pages + 64) l.visiting l.next

abbrev pub decreases-loop-record : goal.decreases-loop-record
decreases-loop-record l = 128 * l.words.spaces.pages + 64 - l.next
