-- What of letters, lines and entries stays if records change.
use Rattle.std.proofs.Common.{◌≡◌, inl, inr, ℕ, List, [], ◌∷◌, Some, sym, subst}
use Rattle.std.specs.List.{AllByRecursion}
use Rattle.plain_state.specs.declared.value.Value.{Value}
use Rattle.plain_state.specs.State.{Record, at_serial}
use Rattle.concordance_text.specs.Rows.{IsElementOf}
use Rattle.concordance.specs.Desk.{own}
use Rattle.concordance.specs.Notes.Records.{AreEntries, AreLines, IsEntry, IsLetters, Note, entry_record, letters_record, line_record}

-- Letters and lines stay, and so do the entries with the serials for which it is said.
pub record Keeps (Stays : ℕ → Type 0) (records later : List Record) : Type 0 where
  pub letters : (serial : ℕ) (word : List ℕ) → at_serial records serial ≡ Some (letters_record word) → at_serial later serial ≡ Some (letters_record word)
  pub lines : (serial : ℕ) (number before : Value) → at_serial records serial ≡ Some (line_record number before) → at_serial later serial ≡ Some (line_record number before)
  pub entries : (serial : ℕ) (letters line left right before : Value) → Stays serial → at_serial records serial ≡ Some (entry_record letters line left right before)
      → at_serial later serial ≡ Some (entry_record letters line left right before)

module _ (m : ℕ) (Stays : ℕ → Type 0) (records later : List Record) (keeps : Keeps Stays records later) where
  pub letters_kept : (v : Value) (word : List ℕ) → IsLetters m records v word → IsLetters m later v word
  letters_kept v word is = record { serial = is.serial; is = is.is; letters = keeps.letters is.serial word is.letters }

  pub lines_kept : (v : Value) (ns : List ℕ) → AreLines m records v ns → AreLines m later v ns
  lines_kept v [] are = are
  lines_kept v (n ∷ ns) are = (are.0, record { serial = are.1.serial; is = are.1.is; line = keeps.lines are.1.serial _ are.0 are.1.line }, lines_kept are.0 ns are.2)

  pub entry_kept : (v : Value) (e : Note) (before : Value) → Stays e.serial → IsEntry m records v e before → IsEntry m later v e before
  entry_kept v e before stays is = record {
    letters = is.letters;
    line = is.line;
    left = is.left;
    right = is.right;
    is = is.is;
    entry = keeps.entries e.serial is.letters is.line is.left is.right before stays is.entry;
    word = letters_kept is.letters e.word is.word;
    lines = lines_kept is.line e.lines is.lines;
  }

  pub entries_kept : (v : Value) (notes : List Note) → AllByRecursion (λ (e : Note). Stays e.serial) notes → AreEntries m records v notes → AreEntries m later v notes
  entries_kept v [] stay are = are
  entries_kept v (e ∷ es) stay are = (are.0, entry_kept v e are.0 stay.0 are.1, entries_kept are.0 es stay.1 are.2)

-- the entry of a note
pub record HasEntry (m : ℕ) (records : List Record) (e : Note) : Type 0 where
  pub before : Value
  pub is : IsEntry m records (own m e.serial) e before

own_entry : (m : ℕ) (records : List Record) (v : Value) (e : Note) (before : Value) → IsEntry m records v e before → HasEntry m records e
own_entry m records v e before is = record { before = before; is = subst (λ (w : Value). IsEntry m records w e before) is.is is }

-- each note has one
pub entry_of : (m : ℕ) (records : List Record) (v : Value) (notes : List Note) (e : Note) → AreEntries m records v notes → IsElementOf e notes → HasEntry m records e
entry_of m records v [] e are at = absurd at
entry_of m records v (f ∷ fs) e are (inl is) = subst (HasEntry m records) (sym is) (own_entry m records v f are.0 are.1)
entry_of m records v (f ∷ fs) e are (inr at) = entry_of m records are.0 fs e are.2 at
