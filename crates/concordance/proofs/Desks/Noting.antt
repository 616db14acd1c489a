-- What a desk has noted after a word more.
use Rattle.std.proofs.Common.{◌≡◌, ◌≢◌, inl, ℕ, ◌+◌, ◌<◌, ◌≤◌, Bool, List, [], ◌∷◌, ◌++◌, map, length, refl, sym, ◌∙◌, subst, arith}
use Rattle.std.specs.List.{AllByRecursion}
use Rattle.plain_state.specs.declared.value.Value.{Value}
use Rattle.plain_state.specs.declared.value.Value.TheVariants.{Number}
use Rattle.plain_state.specs.State.{Record}
use Rattle.concordance_text.specs.declared.letters.TheConstants.{MOST_LETTERS}
use Rattle.concordance_text.specs.Rows.{IsElementOf, TellsMention}
use Rattle.concordance_text.specs.Words.{Mention, mention}
use Rattle.concordance.specs.Desk.{Desk, desk_register, own}
use Rattle.concordance.specs.Notes.Desks.{ChangesAtMost, HasNoted, HasNotedJust, for_entry, for_finding}
use Rattle.concordance.specs.Notes.Invariant.{AreFalling, HasLines, HoldsNotes, NoneIsLater, note_row}
use Rattle.concordance.specs.Notes.Making.{StoresIn, new_records}
use Rattle.concordance.specs.Notes.Paths.{side}
use Rattle.concordance.specs.Notes.Places.{PathEndsAt, HasNone, IsEntryOf}
use Rattle.concordance.specs.Notes.Records.{AreLines, IsLine, Note, line_record}
use Rattle.concordance.specs.declared.registers.TheConstants.{ENTRY, FIRST, HERE, LATEST}
use Rattle.concordance.proofs.Lists.Elements.{all_at}
use Rattle.concordance.proofs.Notes.Adding.{holds_again, holds_with_entry, holds_with_first}
use Rattle.concordance.proofs.Notes.AddingLines.{holds_with_line, lines_before, tells_note}
use Rattle.concordance.proofs.Notes.Keeping.{HasEntry, entry_of}

-- the invariant speaks of the records, of the clerk's number and of two registers alone
pub holds_there : (m n : ℕ) (records others : List Record) (first start latest last : Value) (notes : List Note) (noted : List Mention) → n ≡ m → others ≡ records → start ≡ first → last ≡ latest
    → HoldsNotes m records first latest notes noted → HoldsNotes n others start last notes noted
holds_there m n records others first start latest last notes noted number same begins ends holds =
    subst (λ (k : ℕ). HoldsNotes k others start last notes noted) (sym number)
    (subst (λ (rs : List Record). HoldsNotes m rs start last notes noted) (sym same)
    (subst (λ (v : Value). HoldsNotes m records v last notes noted) (sym begins)
    (subst (λ (v : Value). HoldsNotes m records first v notes noted) (sym ends) holds)))

-- while an entry is looked for it stays
pub still_noted : (a b : Desk) (notes : List Note) (noted : List Mention) → b.records ≡ a.records → ChangesAtMost for_finding a b → HasNoted a notes noted → HasNoted b notes noted
still_noted a b notes noted same change holds =
    holds_there a.number b.number a.records b.records (desk_register a FIRST) (desk_register b FIRST) (desk_register a LATEST) (desk_register b LATEST) notes noted change.number same (change.registers FIRST refl) (change.registers LATEST refl) holds

-- ---- a word that had no entry

-- after the search, and with its three records
module _ (b c : Desk) (notes : List Note) (noted : List Mention) (holds : HasNoted b notes noted) (word : List ℕ) (line : ℕ) (short : length word ≤ MOST_LETTERS) (none : HasNone notes word)
    (made : c.records ≡ b.records ++ new_records b.number (length b.records) (desk_register b LATEST) word line) (latest : desk_register c LATEST ≡ own b.number (length b.records + 3)) (entry : desk_register c ENTRY ≡ own b.number (length b.records + 3))
    (change : ChangesAtMost for_entry b c) where
  abbrev new : Value
  new = own b.number (length b.records + 3)

  -- the first register leads to the new entry
  pub first_noted : (d : Desk) → desk_register b FIRST ≡ Number 0 → d.number ≡ c.number → d.records ≡ c.records → desk_register d FIRST ≡ desk_register c ENTRY → desk_register d LATEST ≡ desk_register c LATEST
      → HasNotedJust d (noted ++ mention word line ∷ [])
  first_noted d empty number same first last = record {
    notes = record { serial = length b.records + 3; word = word; lines = line ∷ [] } ∷ notes;
    holds = holds_there b.number d.number _ d.records new (desk_register d FIRST) new (desk_register d LATEST) _ _ (number ∙ change.number) (same ∙ made) (first ∙ entry) (last ∙ latest)
        (holds_with_first b.number b.records (desk_register b FIRST) (desk_register b LATEST) notes noted holds word line short none empty);
  }

  -- the entry at which the path ended leads to it
  pub side_noted : (d : Desk) (v : Value) (right : Bool) (at : PathEndsAt b.number b.records (desk_register b FIRST) notes word v right) → d.number ≡ c.number → StoresIn c.records at.note.serial (side right) (desk_register c ENTRY) d.records
      → desk_register d FIRST ≡ desk_register c FIRST → desk_register d LATEST ≡ desk_register c LATEST → HasNotedJust d (noted ++ mention word line ∷ [])
  side_noted d v right at number stores first last = record {
    notes = record { serial = length b.records + 3; word = word; lines = line ∷ [] } ∷ notes;
    holds = holds_there b.number d.number d.records d.records (desk_register b FIRST) (desk_register d FIRST) new (desk_register d LATEST) _ _ (number ∙ change.number) refl (first ∙ change.registers FIRST refl) (last ∙ latest)
        (holds_with_entry b.number b.records (desk_register b FIRST) (desk_register b LATEST) notes noted holds word line short none v right at d.records stored);
  }
    where
      stored : StoresIn (b.records ++ new_records b.number (length b.records) (desk_register b LATEST) word line) at.note.serial (side right) new d.records
      stored = subst (λ (rs : List Record). StoresIn rs at.note.serial (side right) new d.records) made (subst (λ (w : Value). StoresIn c.records at.note.serial (side right) w d.records) entry stores)

-- ---- a word that had one

-- the latest line of a note
pub record LatestLine (m : ℕ) (records : List Record) (v : Value) (lines : List ℕ) : Type 0 where
  pub number : ℕ
  pub others : List ℕ
  pub before : Value
  pub lines_are : lines ≡ number ∷ others
  pub is : IsLine m records v number before

pub latest_line : (m : ℕ) (records : List Record) (v : Value) (lines : List ℕ) → 0 < length lines → AreLines m records v lines → LatestLine m records v lines
latest_line m records v [] some are = absurd (omega arith)
latest_line m records v (n ∷ ns) some are = record { number = n; others = ns; before = are.0; lines_are = refl; is = are.1 }

module _ (a : Desk) (notes : List Note) (noted : List Mention) (holds : HasNoted a notes noted) (word : List ℕ) (at : IsEntryOf a.number notes word (desk_register a HERE)) where
  -- its entry
  pub entry_here : HasEntry a.number a.records at.note
  entry_here = entry_of a.number a.records (desk_register a LATEST) notes at.note holds.kept.entries at.noted

  pub line_here : LatestLine a.number a.records entry_here.is.line at.note.lines
  line_here = latest_line a.number a.records entry_here.is.line at.note.lines (all_at HasLines notes at.note holds.kept.lines at.noted).some entry_here.is.lines

  -- noted in this line before
  pub again_noted : (d : Desk) (line : ℕ) → line_here.number ≡ line → d.number ≡ a.number → d.records ≡ a.records → desk_register d FIRST ≡ desk_register a FIRST → desk_register d LATEST ≡ desk_register a LATEST
      → HasNotedJust d (noted ++ mention word line ∷ [])
  again_noted d line same number records first last = record {
    notes = notes;
    holds = holds_again d.number d.records (desk_register d FIRST) (desk_register d LATEST) notes noted (mention word line)
        (holds_there a.number d.number a.records d.records (desk_register a FIRST) (desk_register d FIRST) (desk_register a LATEST) (desk_register d LATEST) notes noted number records first last holds)
        (subst (λ (w : List ℕ). TellsMention (map note_row notes) (mention w line)) at.word_is (tells_note notes at.note line at.noted in_lines));
  }
    where
      in_lines : IsElementOf line at.note.lines
      in_lines = subst (IsElementOf line) (sym line_here.lines_are) (inl (sym same))

  -- in a line behind those
  pub line_noted : (d : Desk) (line : ℕ) → line_here.number ≢ line → NoneIsLater noted line → d.number ≡ a.number → desk_register d FIRST ≡ desk_register a FIRST → desk_register d LATEST ≡ desk_register a LATEST
      → StoresIn (a.records ++ line_record (Number line) entry_here.is.line ∷ []) at.note.serial 1 (own a.number (length a.records + 1)) d.records → HasNotedJust d (noted ++ mention word line ∷ [])
  line_noted d line other none_later number first last stores =
      subst (λ (w : List ℕ). HasNotedJust d (noted ++ mention w line ∷ [])) at.word_is
      (record {
        notes = _;
        holds = holds_there a.number d.number d.records d.records (desk_register a FIRST) (desk_register d FIRST) (desk_register a LATEST) (desk_register d LATEST) _ _ number refl first last
            (holds_with_line a.number a.records (desk_register a FIRST) (desk_register a LATEST) notes noted holds at.note at.noted line above entry_here d.records stores);
      })
    where
      above : AllByRecursion (λ n. n < line) at.note.lines
      above = subst (AllByRecursion (λ n. n < line)) (sym line_here.lines_are)
          (lines_before notes noted at.note line_here.number line line_here.others holds.told at.noted
          (subst (λ (ns : List ℕ). AreFalling ns) line_here.lines_are (all_at HasLines notes at.note holds.kept.lines at.noted).falling) line_here.lines_are none_later other)
