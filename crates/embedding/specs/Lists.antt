-- Lists of numbers.
use Rattle.plain_state.specs.declared.value.Value.{Value}
use Rattle.ael_threads.specs.Seats.{Seated}
use Rattle.ael_runtime.specs.Reading.{held, root_register, seen_heap, record_word}
use Rattle.embedding.specs.declared.lists.TheConstants.{LIST, NUMBER_FIELD, REST, REST_FIELD}

-- what the root for lists holds, and that for the rest of one
abbrev pub list_of : Seated → Value
list_of s = held s (root_register LIST)

abbrev pub rest_of : Seated → Value
rest_of s = held s (root_register REST)

-- the first number of a list, and what follows it, as the mutator sees them
abbrev pub head_in : Seated → (list : Value) → Value
head_in s list = record_word (seen_heap s) list NUMBER_FIELD

abbrev pub tail_in : Seated → (list : Value) → Value
tail_in s list = record_word (seen_heap s) list REST_FIELD
