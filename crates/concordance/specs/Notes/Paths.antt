-- The path to a word's entry: from entry to entry, at each of them to the left or to the right.
use Rattle.std.specs.Prelude.{ℕ, zero, suc, ◌+◌, ◌*◌, ◌%◌, Bool, List, Option, nat_le, if◌then◌else◌, slice_index_or}
use Rattle.std.specs.List.{fold}
use Rattle.std.specs.Option.{option_map_or}
use Rattle.plain_state.specs.declared.value.Value.{Value}
use Rattle.plain_state.specs.declared.value.Value.TheVariants.{Number, Reference}
use Rattle.plain_state.specs.State.{Record, at_serial}
use Rattle.concordance.specs.declared.path.TheConstants.{HIGHEST, MULTIPLIER}

-- ---- the turns on a word's path

-- whether the turn after so many others is to the right
abbrev pub Turns : Type 0
Turns = (depth : ℕ) → Bool

-- numbers of 64 bits are below this one
abbrev pub MODULUS : ℕ
MODULUS = HIGHEST + HIGHEST

-- the number that a word's letters make
unfoldable pub bits_of : List ℕ → ℕ
bits_of word = fold (λ bits letter. (bits + letter) % MODULUS * MULTIPLIER % MODULUS) 0 word

-- the number whose highest bit is the next one
unfoldable pub doubled : ℕ → ℕ
doubled bits = (bits + bits) % MODULUS

-- whether the highest bit is set
unfoldable pub is_high : ℕ → Bool
is_high bits = nat_le HIGHEST bits

-- the number from which the turns are still to be taken
abbrev pub bits_after : List ℕ → (depth : ℕ) → ℕ
bits_after word zero = bits_of word
bits_after word (suc depth) = doubled (bits_after word depth)

-- The turns of a word are the bits of its number, the highest first. What is proved would be so of any other function of the word.
unfoldable pub turns_of : List ℕ → Turns
turns_of word depth = is_high (bits_after word depth)

-- ---- where turns lead

abbrev pub field_or_zero : Option Record → (x : ℕ) → Value
field_or_zero found x = option_map_or (λ (r : Record). slice_index_or r.values x (Number 0)) found (Number 0)

-- the field of an entry that a turn takes
abbrev pub side : Bool → ℕ
side right = if right then 3 else 2

-- where a turn leads; from nowhere it leads nowhere
abbrev pub turn_from : List Record → Value → Bool → Value
turn_from records (Number n) right = Number 0
turn_from records (Reference i) right = field_or_zero (at_serial records i.serial) (side right)

-- where so many turns lead from the first entry
abbrev pub reached : List Record → (first : Value) → Turns → (depth : ℕ) → Value
reached records first turns zero = first
reached records first turns (suc depth) = turn_from records (reached records first turns depth) (turns depth)
