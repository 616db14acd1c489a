-- What a clerk's desk has of notes, and what calls change there.
use Rattle.std.specs.Prelude.{◌≡◌, ℕ, Bool, false, ◌||◌, ◌==◌, List, length}
use Rattle.plain_state.specs.declared.value.Value.{Value}
use Rattle.plain_state.specs.declared.value.Value.TheVariants.{Number}
use Rattle.concordance_text.specs.Words.{Mention}
use Rattle.concordance.specs.Desk.{Desk, desk_register}
use Rattle.concordance.specs.Notes.Invariant.{HoldsNotes, NoneIsLater}
use Rattle.concordance.specs.Notes.Places.{PathEndsAt, HasNone, IsEntryOf}
use Rattle.concordance.specs.Notes.Records.{IsEntry, IsLetters, Note}
use Rattle.concordance.specs.declared.finding.Place.{Place}
use Rattle.concordance.specs.declared.finding.Place.TheVariants.{Here, Nowhere, Side}
use Rattle.concordance.specs.declared.registers.TheConstants.{ENTRY, FIRST, HERE, LATEST, LETTERS, LINE, NEXT, NUMBER}

-- ---- what is noted there

-- THE INVARIANT of a desk: registers lead to the notes, which tell just what was noted
abbrev pub HasNoted : Desk → List Note → List Mention → Type 0
HasNoted desk notes noted = HoldsNotes desk.number desk.records (desk_register desk FIRST) (desk_register desk LATEST) notes noted

-- it has noted just this
pub record HasNotedJust (desk : Desk) (noted : List Mention) : Type 0 where
  pub notes : List Note
  pub holds : HasNoted desk notes noted

-- it holds for something
pub record KeepsNotes (desk : Desk) : Type 0 where
  pub noted : List Mention
  pub is : HasNotedJust desk noted

-- and in no line behind this one
pub record KeepsNotesTo (desk : Desk) (line : ℕ) : Type 0 where
  pub noted : List Mention
  pub is : HasNotedJust desk noted
  pub none_later : NoneIsLater noted line

-- ---- what calls change

-- the registers for which the test is false are as they were
pub record ChangesAtMost (test : ℕ → Bool) (a b : Desk) : Type 0 where
  pub number : b.number ≡ a.number
  pub registers : (r : ℕ) → test r ≡ false → desk_register b r ≡ desk_register a r

-- Those that may change if letters are compared, if they are found or made, if an entry is looked for, and if a line, an entry, or all
-- records of a word are made.
abbrev pub for_number : ℕ → Bool
for_number r = r == NUMBER

abbrev pub for_letters : ℕ → Bool
for_letters r = r == LETTERS || r == NUMBER

abbrev pub for_finding : ℕ → Bool
for_finding r = r == HERE || r == NEXT || for_letters r

abbrev pub for_line : ℕ → Bool
for_line r = r == LINE || r == NUMBER

abbrev pub for_new_entry : ℕ → Bool
for_new_entry r = r == LATEST || r == ENTRY

abbrev pub for_entry : ℕ → Bool
for_entry r = for_letters r || for_line r || for_new_entry r

-- ---- where the register HERE leads

-- to an entry
pub record IsAtEntry (desk : Desk) : Type 0 where
  pub note : Note
  pub before : Value
  pub is : IsEntry desk.number desk.records (desk_register desk HERE) note before

-- to the entry of a note
pub record IsAtNote (desk : Desk) : Type 0 where
  pub notes : List Note
  pub noted : List Mention
  pub word : List ℕ
  pub holds : HasNoted desk notes noted
  pub is : IsEntryOf desk.number notes word (desk_register desk HERE)

-- to where the word is, or is to be
abbrev pub IsPlace : Desk → List Note → (word : List ℕ) → Place → Type 0
IsPlace desk notes word Here = IsEntryOf desk.number notes word (desk_register desk HERE)
IsPlace desk notes word (Side right) = HasNone notes word × PathEndsAt desk.number desk.records (desk_register desk FIRST) notes word (desk_register desk HERE) right
IsPlace desk notes word Nowhere = HasNone notes word × (desk_register desk FIRST ≡ Number 0)

-- the register LETTERS leads to so many letters
pub record IsAtLetters (desk : Desk) (count : ℕ) : Type 0 where
  pub letters : List ℕ
  pub is : IsLetters desk.number desk.records (desk_register desk LETTERS) letters
  pub count_is : length letters ≡ count
