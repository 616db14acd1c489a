-- The records that are made for a word, and a value that is stored in one.
use Rattle.std.specs.Prelude.{◌≡◌, ℕ, ◌+◌, ◌-◌, List, [], ◌∷◌, Some, slice_set}
use Rattle.plain_state.specs.declared.value.Value.{Value}
use Rattle.plain_state.specs.declared.value.Value.TheVariants.{Number}
use Rattle.plain_state.specs.State.{Record, at_serial}
use Rattle.plain_state.specs.Writing.{with_value}
use Rattle.concordance.specs.Desk.{own}
use Rattle.concordance.specs.Notes.Records.{entry_record, letters_record, line_record}

-- the records for a word that has no entry yet, after so many others: its letters, its line, and its entry, from which no other is found
abbrev pub new_records : (m made : ℕ) → (latest : Value) → (word : List ℕ) → (line : ℕ) → List Record
new_records m made latest word line =
    letters_record word ∷ line_record (Number line) (Number 0) ∷ entry_record (own m (made + 1)) (own m (made + 2)) (Number 0) (Number 0) latest ∷ []

-- value x of the record with this serial was replaced
pub record StoresIn (records : List Record) (serial x : ℕ) (v : Value) (later : List Record) : Type 0 where
  pub old : Record
  pub there : at_serial records serial ≡ Some old
  pub later_is : later ≡ slice_set records (serial - 1) (with_value old x v)
