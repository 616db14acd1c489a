-- The size that a record's first word says.
use Rattle.std.specs.Prelude.{ℕ, Option, Some, None}
use Rattle.heap_words.specs.Decoded.{decode}
use Rattle.heap_state.specs.Memory.Walk.{Met, AtEnd, Nothing, Reserved, Record, Broken, met_word}
use Rattle.crossing_map.specs.declared.walked.Walked.{Walked as Next}
use Rattle.crossing_map.specs.declared.walked.Walked.TheVariants as next
use Rattle.crossing_map.specs.Walking.{next_at}

-- the size of the record that is met, if one is
abbrev pub size_met : Met → Option ℕ
size_met (Record size) = Some size
size_met AtEnd = None
size_met Nothing = None
size_met (Reserved size) = None
size_met Broken = None

-- the item whose first word stands at this address, in a walk to `end`
abbrev pub item_by : (word at end : ℕ) → Next
item_by word at end = next_at end at (met_word (decode word)) next.Ended
