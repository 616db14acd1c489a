-- What is proved of notes.
use Rattle.std.specs.Prelude.{◌≡◌, ℕ, ◌≤◌, List, map}
use Rattle.std.specs.List.{AllByRecursion}
use Rattle.plain_state.specs.declared.value.Value.{Value}
use Rattle.plain_state.specs.declared.value.Value.TheVariants.{Number}
use Rattle.plain_state.specs.State.{Record}
use Rattle.concordance_text.specs.Rows.{AreRowsOf, IsElementOf, TellsMention, WordRow, need}
use Rattle.concordance_text.specs.Words.{Mention}
use Rattle.concordance.specs.Notes.Invariant.{AreApart, AreKept, HasLines, note_row, words_noted}
use Rattle.concordance.specs.Notes.Paths.{reached, turns_of}
use Rattle.concordance.specs.Notes.Places.{HasNone, PassesOthers}
use Rattle.concordance.specs.Notes.Records.{Note}

-- if the path of a word has ended, and no entry on it is of the word, no note is of the word
abbrev pub EndedPathsHaveNone : Type 0
EndedPathsHaveNone = (m : ℕ) (records : List Record) (first latest : Value) (notes : List Note) (word : List ℕ) (depth : ℕ) → AreKept m records first latest notes → PassesOthers m records first notes word depth
    → reached records first (turns_of word) depth ≡ Number 0 → HasNone notes word

-- notes that tell nothing but words of a text in their lines fill no more than the text's rows need
abbrev pub NotesNeedNoMore : Type 0
NotesNeedNoMore = (mentions : List Mention) (rows : List WordRow) (notes : List Note) → AreRowsOf mentions rows → AreApart notes → AllByRecursion HasLines notes → ((n : Mention) → TellsMention (map note_row notes) n → IsElementOf n mentions)
    → words_noted notes ≤ need rows
