-- Letters, lines and entries, as a clerk's own records tell them.
use Rattle.std.specs.Prelude.{◌≡◌, ℕ, List, [], ◌∷◌, map, Some}
use Rattle.plain_state.specs.declared.kind.Kind.TheVariants.{Fields, Raw}
use Rattle.plain_state.specs.declared.value.Value.{Value}
use Rattle.plain_state.specs.declared.value.Value.TheVariants.{Number}
use Rattle.plain_state.specs.State.{Record, at_serial}
use Rattle.concordance.specs.Desk.{own}

-- a word that has an entry, whose record has this serial, and the numbers of its lines, the latest first
pub record Note : Type 0 where
  pub serial : ℕ
  pub word : List ℕ
  pub lines : List ℕ

abbrev pub raw : List Value → Record
raw values = record { kind = Raw; values = values }

abbrev pub fields : List Value → Record
fields values = record { kind = Fields; values = values }

-- a record of letters, one a word
abbrev pub letters_record : List ℕ → Record
letters_record word = raw (map Number word)

-- a record of a line: its number, and the line before it
abbrev pub line_record : (number before : Value) → Record
line_record number before = fields (number ∷ before ∷ [])

-- an entry: its letters, its latest line, two entries that are found from it, and the entry that was made before it
abbrev pub entry_record : (letters line left right before : Value) → Record
entry_record letters line left right before = fields (letters ∷ line ∷ left ∷ right ∷ before ∷ [])

-- the records are those of clerk m, in the order in which it made them
module _ (m : ℕ) (records : List Record) where
  -- the value leads to the letters of the word
  pub record IsLetters (v : Value) (word : List ℕ) : Type 0 where
    pub serial : ℕ
    pub is : v ≡ own m serial
    pub letters : at_serial records serial ≡ Some (letters_record word)

  -- the value leads to the line with this number, and from there a value leads on
  pub record IsLine (v : Value) (number : ℕ) (before : Value) : Type 0 where
    pub serial : ℕ
    pub is : v ≡ own m serial
    pub line : at_serial records serial ≡ Some (line_record (Number number) before)

  -- the value leads to these lines, one after the other
  abbrev pub AreLines : Value → List ℕ → Type 0
  AreLines v [] = v ≡ Number 0
  AreLines v (n ∷ ns) = (before : Value) × IsLine v n before × AreLines before ns

  -- the value leads to the entry of the note, and from there a value leads on
  pub record IsEntry (v : Value) (note : Note) (before : Value) : Type 0 where
    pub letters : Value
    pub line : Value
    pub left : Value
    pub right : Value
    pub is : v ≡ own m note.serial
    pub entry : at_serial records note.serial ≡ Some (entry_record letters line left right before)
    pub word : IsLetters letters note.word
    pub lines : AreLines line note.lines

  -- the value leads to the entries of these notes, one after the other
  abbrev pub AreEntries : Value → List Note → Type 0
  AreEntries v [] = v ≡ Number 0
  AreEntries v (e ∷ es) = (before : Value) × IsEntry v e before × AreEntries before es
