-- What a word that is loaded is to the mutator that loads it, by its role.
use Rattle.std.specs.Prelude.{ℕ, ◌<◌, ⊤}
use Rattle.heap_words.specs.Word.{number_word}
use Rattle.plain_state.specs.declared.sizes.TheConstants.{NUMBERS}
use Rattle.heap_state.specs.Known.{Role, FieldRole, NumberRole, TargetRole, UnknownRole}

-- the word that it holds for one that it has loaded
abbrev pub word_held : Role → ℕ → ℕ
word_held FieldRole v = v
word_held NumberRole v = number_word v
word_held TargetRole v = v
word_held UnknownRole v = v

-- a number that is stored by itself is one of 62 bits
abbrev pub FitsRole : Role → ℕ → Type 0
FitsRole FieldRole v = ⊤
FitsRole NumberRole v = v < NUMBERS
FitsRole TargetRole v = ⊤
FitsRole UnknownRole v = ⊤
