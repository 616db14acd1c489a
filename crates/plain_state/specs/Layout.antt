-- How a record's values lie in its words. Word 0 is its header; the others are counted from there. Word 1 of a mixed record
-- has the count of its fields; the last word of a cell, which is a record of the kind weak, is its link.
use Rattle.std.specs.Prelude.{ℕ, ◌+◌, Bool, true, false, ◌&&◌, nat_le, nat_lt, length}
use Rattle.plain_state.specs.declared.kind.Kind.{Kind}
use Rattle.plain_state.specs.declared.kind.Kind.TheVariants.{Fields, Raw, Mixed, Weak}
use Rattle.plain_state.specs.State.{Record}

-- a record of this kind has a field at this word: a number or a reference
abbrev pub is_field : Kind → (word : ℕ) → Bool
is_field Fields word = true
is_field Raw word = false
is_field (Mixed count) word = nat_le 2 word && nat_lt word (count + 2)
is_field Weak word = false

-- a record of this kind has a plain number at this word
abbrev pub is_raw : Kind → (word : ℕ) → Bool
is_raw Fields word = false
is_raw Raw word = true
is_raw (Mixed count) word = nat_le (count + 2) word
is_raw Weak word = false

-- the word at which the values of a record of this kind begin
abbrev pub values_at : Kind → ℕ
values_at Fields = 1
values_at Raw = 1
values_at (Mixed count) = 2
values_at Weak = 1

-- how many words of a record of this kind stand behind its values
abbrev pub words_behind : Kind → ℕ
words_behind Fields = 0
words_behind Raw = 0
words_behind (Mixed count) = 0
words_behind Weak = 1

-- the word at which value x of a record of this kind stands
abbrev pub word_of_value : Kind → (x : ℕ) → ℕ
word_of_value kind x = x + values_at kind

-- how many words the record takes, with its header
abbrev pub size_of : Record → ℕ
size_of r = length r.values + (values_at r.kind + words_behind r.kind)
