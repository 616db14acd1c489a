-- Where the entry of a word is, or is to be.
use Rattle.std.specs.Prelude.{◌≡◌, ◌≢◌, ℕ, ◌<◌, Bool, List}
use Rattle.std.specs.List.{AllByRecursion}
use Rattle.plain_state.specs.State.{Record}
use Rattle.plain_state.specs.declared.value.Value.{Value}
use Rattle.plain_state.specs.declared.value.Value.TheVariants.{Number}
use Rattle.concordance_text.specs.Rows.{IsElementOf}
use Rattle.concordance.specs.Notes.Paths.{reached, turn_from, turns_of}
use Rattle.concordance.specs.Desk.{own}
use Rattle.concordance.specs.Notes.Records.{Note}

-- no note is of the word
abbrev pub HasNone : List Note → (word : List ℕ) → Type 0
HasNone notes word = AllByRecursion (λ (e : Note). e.word ≢ word) notes

-- the value leads to the entry of the word
pub record IsEntryOf (m : ℕ) (notes : List Note) (word : List ℕ) (v : Value) : Type 0 where
  pub note : Note
  pub noted : IsElementOf note notes
  pub word_is : note.word ≡ word
  pub is : v ≡ own m note.serial

-- the path of the word ends at the entry to which the value leads: the turn from there leads nowhere
pub record PathEndsAt (m : ℕ) (records : List Record) (first : Value) (notes : List Note) (word : List ℕ) (v : Value) (right : Bool) : Type 0 where
  pub note : Note
  pub noted : IsElementOf note notes
  pub is : v ≡ own m note.serial
  pub depth : ℕ
  pub reaches : reached records first (turns_of word) depth ≡ own m note.serial
  pub turn : right ≡ turns_of word depth
  pub ends : turn_from records (own m note.serial) right ≡ Number 0

-- so far none of the entries on the path is of the word
abbrev pub PassesOthers : (m : ℕ) → List Record → (first : Value) → List Note → (word : List ℕ) → (depth : ℕ) → Type 0
PassesOthers m records first notes word depth = (d : ℕ) (e : Note) → d < depth → IsElementOf e notes → reached records first (turns_of word) d ≡ own m e.serial → e.word ≢ word
