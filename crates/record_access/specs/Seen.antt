-- The values of a record as a worker sees them: the identity of a record is its address.
use Rattle.std.specs.Prelude.{ℕ, ⊤}
use Rattle.heap_words.specs.Decoded.{Decoded, NumberWord, PointerWord, HeaderWord, ForwardWord, BusyWord, Malformed, decode}
use Rattle.heap_words.specs.Word.{number_word, pointer_word}
use Rattle.plain_state.specs.declared.value.Identity.{Identity}
use Rattle.plain_state.specs.declared.value.Value.{Value}
use Rattle.plain_state.specs.declared.value.Value.TheVariants.{Number, Reference}

abbrev pub by_address : ℕ → Identity
by_address address = record { mutator = 0; serial = address }

-- the value that a word is to a worker; what is no value's word is the number 0
abbrev pub seen_as : Decoded → Value
seen_as (NumberWord n) = Number n
seen_as (PointerWord address) = Reference (by_address address)
seen_as (HeaderWord kind len serial mutator) = Number 0
seen_as (ForwardWord len address) = Number 0
seen_as (BusyWord len worker) = Number 0
seen_as Malformed = Number 0

abbrev pub value_seen : ℕ → Value
value_seen word = seen_as (decode word)

-- the word is a number's or a pointer's
abbrev pub IsValueAs : Decoded → Type 0
IsValueAs (NumberWord n) = ⊤
IsValueAs (PointerWord address) = ⊤
IsValueAs (HeaderWord kind len serial mutator) = ⊥
IsValueAs (ForwardWord len address) = ⊥
IsValueAs (BusyWord len worker) = ⊥
IsValueAs Malformed = ⊥

abbrev pub IsValueWord : ℕ → Type 0
IsValueWord word = IsValueAs (decode word)

-- the word of a value that a worker sees
abbrev pub word_for : Value → ℕ
word_for (Number n) = number_word n
word_for (Reference i) = pointer_word i.serial
