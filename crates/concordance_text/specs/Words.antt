-- The words of a text, and the lines in which they stand.
use Rattle.std.specs.Prelude.{◌≡◌, ℕ, ◌+◌, ◌==◌, Bool, true, false, not, List, [], ◌∷◌, ◌++◌, map, filter, length, nat_lt}
use Rattle.std.specs.List.{AllByRecursion, slice_split, list_any}
use Rattle.std.specs.Char.{is_ascii_alphabetic, to_ascii_lowercase}
use Rattle.concordance_text.specs.declared.letters.TheConstants.{MOST_LETTERS}

-- a word stands in the line with this number
pub record Mention : Type 0 where
  pub word : List ℕ
  pub line : ℕ

-- every byte that is no ASCII letter separates words
abbrev pub separates : ℕ → Bool
separates byte = not (is_ascii_alphabetic byte)

-- LF ends a line
abbrev pub ends_line : ℕ → Bool
ends_line byte = byte == 10

-- the lines of a text; if LF ends the last one, an empty one follows, which has no words
abbrev pub lines_of : List ℕ → List (List ℕ)
lines_of text = slice_split ends_line text

abbrev pub is_some_run : List ℕ → Bool
is_some_run run = nat_lt 0 (length run)

-- the words of a line, as they stand there: its longest runs of letters
abbrev pub words_in : List ℕ → List (List ℕ)
words_in line = filter is_some_run (slice_split separates line)

abbrev pub lower_cased : List ℕ → List ℕ
lower_cased word = map to_ascii_lowercase word

abbrev pub mention : List ℕ → ℕ → Mention
mention word line = record { word = word; line = line }

-- the words of the line with this number
abbrev pub mentions_in : (number : ℕ) → List ℕ → List Mention
mentions_in number line = map (λ word. mention (lower_cased word) number) (words_in line)

-- the words of lines that are numbered from this number on
abbrev pub mentions_from : (number : ℕ) → List (List ℕ) → List Mention
mentions_from number [] = []
mentions_from number (line ∷ lines) = mentions_in number line ++ mentions_from (number + 1) lines

-- each word of a text with its line, in the order of the text; lines are numbered from 1
abbrev pub mentions_of : List ℕ → List Mention
mentions_of text = mentions_from 1 (lines_of text)

-- ---- long words

abbrev pub is_too_long : List ℕ → Bool
is_too_long word = nat_lt MOST_LETTERS (length word)

-- whether the line has a word with more letters than a word may have
abbrev pub has_long_word : List ℕ → Bool
has_long_word line = list_any is_too_long (words_in line)

-- the line with this number is the first that has such a word
pub record IsFirstTooLong (text : List ℕ) (number : ℕ) : Type 0 where
  pub before : List (List ℕ)
  pub line : List ℕ
  pub after : List (List ℕ)
  pub lines : lines_of text ≡ before ++ line ∷ after
  pub number_is : number ≡ length before + 1
  pub short : AllByRecursion (λ l. has_long_word l ≡ false) before
  pub long : has_long_word line ≡ true

-- no line of the text has such a word
abbrev pub HasShortWords : List ℕ → Type 0
HasShortWords text = AllByRecursion (λ l. has_long_word l ≡ false) (lines_of text)
