-- What a clerk has noted.
use Rattle.std.specs.Prelude.{◌≡◌, ◌≢◌, ◌⊎◌, ⊤, ℕ, ◌*◌, ◌<◌, ◌≤◌, Bool, List, [], ◌∷◌, map, length}
use Rattle.std.specs.List.{AllByRecursion, sum_by}
use Rattle.plain_state.specs.Layout.{size_of}
use Rattle.plain_state.specs.State.{Record}
use Rattle.plain_state.specs.declared.value.Value.{Value}
use Rattle.plain_state.specs.declared.value.Value.TheVariants.{Number}
use Rattle.concordance_text.specs.Rows.{IsElementOf, TellsMention, WordRow, need, row}
use Rattle.concordance_text.specs.Words.{Mention}
use Rattle.concordance.specs.Notes.Paths.{Turns, reached, turn_from, turns_of}
use Rattle.concordance.specs.Desk.{own}
use Rattle.concordance.specs.Notes.Records.{AreEntries, Note}

-- ---- the notes

-- another word, and another record
pub record AreTwo (e f : Note) : Type 0 where
  pub words : f.word ≢ e.word
  pub serials : f.serial ≢ e.serial

-- no word has two notes, and no record is the entry of two
abbrev pub AreApart : List Note → Type 0
AreApart [] = ⊤
AreApart (e ∷ es) = AllByRecursion (AreTwo e) es × AreApart es

-- each number is above those after it
abbrev pub AreFalling : List ℕ → Type 0
AreFalling [] = ⊤
AreFalling (n ∷ ns) = AllByRecursion (λ k. k < n) ns × AreFalling ns

-- a note has a line, and each of its lines once
pub record HasLines (e : Note) : Type 0 where
  pub some : 0 < length e.lines
  pub falling : AreFalling e.lines

-- the row that a note tells, with its lines in the other order
abbrev pub note_row : Note → WordRow
note_row e = row e.word e.lines

-- the notes tell just these words in their lines
pub record TellJust (notes : List Note) (noted : List Mention) : Type 0 where
  pub all : (n : Mention) → IsElementOf n noted → TellsMention (map note_row notes) n
  pub only : (n : Mention) → TellsMention (map note_row notes) n → IsElementOf n noted

-- all lines so far are before this one, or this one
abbrev pub NoneIsLater : List Mention → (line : ℕ) → Type 0
NoneIsLater noted line = AllByRecursion (λ (n : Mention). n.line ≤ line) noted

-- ---- how they are kept

-- nowhere, or to the entry of a note
abbrev pub LeadsToNote : (m : ℕ) → List Note → Value → Type 0
LeadsToNote m notes v = (v ≡ Number 0) ⊎ ((e : Note) × IsElementOf e notes × (v ≡ own m e.serial))

-- Clerk m keeps the notes in its records. From `latest` all entries follow one another. From `first` each is found on the path of its
-- word, and each turn leads nowhere or to an entry. Entries stand in no circle: as many turns as there are notes lead nowhere, whichever
-- they are.
pub record AreKept (m : ℕ) (records : List Record) (first latest : Value) (notes : List Note) : Type 0 where
  pub entries : AreEntries m records latest notes
  pub apart : AreApart notes
  pub lines : AllByRecursion HasLines notes
  pub begins : LeadsToNote m notes first
  pub turns : AllByRecursion (λ (e : Note). (right : Bool) → LeadsToNote m notes (turn_from records (own m e.serial) right)) notes
  pub found : AllByRecursion (λ (e : Note). (depth : ℕ) × (reached records first (turns_of e.word) depth ≡ own m e.serial)) notes
  pub ends : (turns : Turns) → reached records first turns (length notes) ≡ Number 0

-- ---- what they fill

-- the heap words that the rows of the notes need
abbrev pub words_noted : List Note → ℕ
words_noted notes = need (map note_row notes)

-- All records together fill just the heap words that the notes' rows need. There are at most three for each word that was read, of at most 74
-- heap words: 64 letters, a line and an entry.
pub record AreFilled (records : List Record) (notes : List Note) (noted : List Mention) : Type 0 where
  pub words : sum_by size_of records ≡ words_noted notes
  pub few_words : words_noted notes ≤ 74 * length noted
  pub few_records : length records ≤ 3 * length noted

-- ---- all of it

-- THE INVARIANT between two words of the text: the notes are kept, tell just what was noted, and no more is filled than they need.
pub record HoldsNotes (m : ℕ) (records : List Record) (first latest : Value) (notes : List Note) (noted : List Mention) : Type 0 where
  pub kept : AreKept m records first latest notes
  pub told : TellJust notes noted
  pub filled : AreFilled records notes noted
