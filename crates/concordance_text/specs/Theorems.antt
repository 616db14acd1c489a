-- What is proved of concordances.
use Rattle.std.specs.Prelude.{◌≡◌, ◌↔◌, ℕ, ◌<◌, List, ◌++◌, map, length}
use Rattle.std.specs.List.{AllByRecursion}
use Rattle.concordance_text.specs.Words.{IsFirstTooLong, Mention, mention, mentions_of}
use Rattle.concordance_text.specs.Runs.{IsFirstLongRun, IsWordRun}
use Rattle.concordance_text.specs.Rows.{AreRowsOf, IsConcordanceOf, IsElementOf, IsRising, WordRow, with_lines}

-- words in their lines have at most one list of rows
abbrev pub OneListOfRows : Type 0
OneListOfRows = (mentions : List Mention) (rows others : List WordRow) → AreRowsOf mentions rows → AreRowsOf mentions others → rows ≡ others

-- a text has at most one concordance
abbrev pub OneConcordance : Type 0
OneConcordance = (text told other : List ℕ) → IsConcordanceOf text told → IsConcordanceOf text other → told ≡ other

-- each text has one
abbrev pub SomeConcordance : Type 0
SomeConcordance = (text : List ℕ) → (told : List ℕ) × IsConcordanceOf text told

-- the words of a text are its longest runs of letters, each in its line
abbrev pub WordsAreRuns : Type 0
WordsAreRuns = (text : List ℕ) (m : Mention) → IsElementOf m (mentions_of text) ↔ IsWordRun text m

-- the first line with a word that is too long is the first with such a run
abbrev pub LongWordsAreRuns : Type 0
LongWordsAreRuns = (text : List ℕ) (number : ℕ) → IsFirstTooLong text number ↔ IsFirstLongRun text number

-- if lines of a word are added, all of which are behind those that it has, the rows are those of the words before and these
abbrev pub LinesAreAdded : Type 0
LinesAreAdded = (mentions : List Mention) (rows : List WordRow) (word lines : List ℕ) → AreRowsOf mentions rows → 0 < length lines → IsRising lines
    → ((m : Mention) → IsElementOf m mentions → m.word ≡ word → AllByRecursion (λ n. m.line < n) lines)
    → AreRowsOf (mentions ++ map (mention word) lines) (with_lines word lines rows)
