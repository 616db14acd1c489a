-- A new entry, in a field that led nowhere.
use Rattle.std.proofs.Common.{◌≡◌, ◌≢◌, ◌⊎◌, ⊎_elim, inl, inr, ℕ, suc, ◌-◌, Bool, true, false, List, [], ◌∷◌, Option, Some, slice_set, length, refl, sym, ap, ◌∙◌, subst, arith}
use Rattle.std.specs.List.{AllByRecursion}
use Rattle.std.specs.Option.{option_map_or}
use Rattle.std.proofs.lemmas.Bool.{cases_eq}
use Rattle.plain_state.specs.declared.kind.Kind.{Kind}
use Rattle.plain_state.specs.declared.kind.Kind.TheVariants.{Fields, Raw}
use Rattle.plain_state.specs.declared.value.Value.{Value}
use Rattle.plain_state.specs.declared.value.Value.TheVariants.{Number, Reference}
use Rattle.plain_state.specs.State.{Record, at_serial}
use Rattle.plain_state.specs.Writing.{with_value}
use Rattle.concordance.specs.Notes.Invariant.{AreKept, AreTwo, HasLines, LeadsToNote}
use Rattle.concordance.specs.Notes.Paths.{field_or_zero, reached, side, turn_from, turns_of}
use Rattle.concordance.specs.Notes.Places.{PathEndsAt}
use Rattle.concordance.specs.Desk.{own}
use Rattle.concordance.specs.Notes.Records.{AreEntries, AreLines, IsEntry, IsLetters, Note, entry_record, letters_record, line_record}
use Rattle.concordance.proofs.Lists.Elements.{all_at, all_map}
use Rattle.concordance.proofs.Notes.Keeping.{HasEntry, Keeps, letters_kept, lines_kept}
use Rattle.concordance.proofs.Lists.Serials.{at_others, at_stored}
use Rattle.concordance.proofs.Notes.Turns.{KeepsTurns, ends_with_new, still_there}

-- ---- records that can't be one

kind_in : Option Record → Kind
kind_in o = option_map_or (λ (r : Record). r.kind) o Raw

size_in : Option Record → ℕ
size_in o = option_map_or (λ (r : Record). length r.values) o 0

pub no_entry_is_letters : (o : Option Record) (word : List ℕ) (letters line left right before : Value) → o ≡ Some (letters_record word) → o ≡ Some (entry_record letters line left right before) → ⊥
unfolding kind_in
no_entry_is_letters o word letters line left right before e f = let h : Raw ≡ Fields = sym (ap kind_in e) ∙ ap kind_in f in cc

pub no_entry_is_line : (o : Option Record) (number next letters line left right before : Value) → o ≡ Some (line_record number next) → o ≡ Some (entry_record letters line left right before) → ⊥
unfolding size_in
no_entry_is_line o number next letters line left right before e f = let h : ◌≡◌ {A = ℕ} 2 5 = sym (ap size_in e) ∙ ap size_in f in omega arith

-- ---- a field of an entry takes a value

-- the entry with this serial, and what it is then
module _ (records : List Record) (serial : ℕ) (letters line left right before : Value) (there : at_serial records serial ≡ Some (entry_record letters line left right before)) (new : Record) where
  abbrev pub later : List Record
  later = slice_set records (serial - 1) new

  pub stored_keeps : Keeps (λ s. s ≢ serial) records later
  stored_keeps = record {
    letters = λ s word is. at_others records serial _ new there s (λ same. no_entry_is_letters _ word letters line left right before is (ap (at_serial records) same ∙ there)) ∙ is;
    lines = λ s number next is. at_others records serial _ new there s (λ same. no_entry_is_line _ number next letters line left right before is (ap (at_serial records) same ∙ there)) ∙ is;
    entries = λ s ls ln lf rt bf other is. at_others records serial _ new there s other ∙ is;
  }

-- ---- the new entry

-- the entry `from` then leads to the new one
abbrev pub linked : (letters line left right before : Value) (to_right : Bool) (to : Value) → Record
linked letters line left right before to_right to = with_value (entry_record letters line left right before) (side to_right) to

-- the other side stays
pub other_side : (letters line left right before : Value) (to_right : Bool) (to : Value) (turn : Bool) → turn ≢ to_right
    → field_or_zero (Some (linked letters line left right before to_right to)) (side turn) ≡ field_or_zero (Some (entry_record letters line left right before)) (side turn)
other_side letters line left right before true to true other = absurd (other refl)
other_side letters line left right before true to false other = refl
other_side letters line left right before false to true other = refl
other_side letters line left right before false to false other = absurd (other refl)

pub this_side : (letters line left right before : Value) (to_right : Bool) (to : Value) → field_or_zero (Some (linked letters line left right before to_right to)) (side to_right) ≡ to
this_side letters line left right before true to = refl
this_side letters line left right before false to = refl

-- letters, lines and the entry before it stay
pub linked_entry : (records : List Record) (m serial : ℕ) (letters line left right before : Value) (to_right : Bool) (to : Value) (v : Value) (e : Note) (next : Value) → at_serial records e.serial ≡ Some (linked letters line left right before to_right to)
    → v ≡ own m e.serial → IsLetters m records letters e.word → AreLines m records line e.lines → before ≡ next → IsEntry m records v e next
linked_entry records m serial letters line left right before true to v e next there is word lines same =
    record { letters = letters; line = line; left = left; right = to; is = is; entry = there ∙ ap (λ (b : Value). Some (entry_record letters line left to b)) same; word = word; lines = lines }
linked_entry records m serial letters line left right before false to v e next there is word lines same =
    record { letters = letters; line = line; left = to; right = right; is = is; entry = there ∙ ap (λ (b : Value). Some (entry_record letters line to right b)) same; word = word; lines = lines }

cases_bool : (a b : Bool) → (a ≡ b) ⊎ (a ≢ b)
cases_bool true true = inl refl
cases_bool true false = inr (λ e. cc)
cases_bool false true = inr (λ e. cc)
cases_bool false false = inl refl

-- The records have the entry of a new note, which nothing leads to yet. The path of its word ends at the entry `here`.
pub record IsNewEntry (m : ℕ) (records : List Record) (latest : Value) (notes : List Note) (new : Note) : Type 0 where
  pub letters : Value
  pub line : Value
  pub entry : at_serial records new.serial ≡ Some (entry_record letters line (Number 0) (Number 0) latest)
  pub word : IsLetters m records letters new.word
  pub lines : AreLines m records line new.lines
  pub has_lines : HasLines new
  pub alone : AllByRecursion (AreTwo new) notes

-- the entry of the note is an entry, to which its reference leads
new_entry : (m : ℕ) (records : List Record) (latest : Value) (notes : List Note) (new : Note) → IsNewEntry m records latest notes new → IsEntry m records (own m new.serial) new latest
new_entry m records latest notes new is = record { letters = is.letters; line = is.line; left = Number 0; right = Number 0; is = refl; entry = is.entry; word = is.word; lines = is.lines }

no_turns : (m : ℕ) (records : List Record) (new : Note) (letters line before : Value) (right : Bool) → at_serial records new.serial ≡ Some (entry_record letters line (Number 0) (Number 0) before) → turn_from records (own m new.serial) right ≡ Number 0
no_turns m records new letters line before true there = ap (λ o. field_or_zero o 3) there
no_turns m records new letters line before false there = ap (λ o. field_or_zero o 2) there

-- among more notes
leads_on : (m : ℕ) (notes : List Note) (new : Note) (v : Value) → LeadsToNote m notes v → LeadsToNote m (new ∷ notes) v
leads_on m notes new v (inl e) = inl e
leads_on m notes new v (inr to) = inr (to.0, inr to.1, to.2)

module _ (m : ℕ) (records : List Record) (first latest : Value) (notes : List Note) (kept : AreKept m records first latest notes) (new : Note) (is : IsNewEntry m records latest notes new) (v : Value) (to_right : Bool) (at : PathEndsAt m records first notes new.word v to_right)
    (entry : HasEntry m records at.note) where
  abbrev here : ℕ
  here = at.note.serial

  abbrev to : Value
  to = own m new.serial

  abbrev record_then : Record
  record_then = linked entry.is.letters entry.is.line entry.is.left entry.is.right entry.before to_right to

  abbrev then : List Record
  then = slice_set records (here - 1) record_then

  keeps : Keeps (λ s. s ≢ here) records then
  keeps = stored_keeps records here entry.is.letters entry.is.line entry.is.left entry.is.right entry.before entry.is.entry record_then

  others : (s : ℕ) → s ≢ here → at_serial then s ≡ at_serial records s
  others = at_others records here _ record_then entry.is.entry

  this : at_serial then here ≡ Some record_then
  this = at_stored records here _ record_then entry.is.entry

  -- it is not the new one
  apart : new.serial ≢ here
  apart same = (all_at (AreTwo new) notes at.note is.alone at.noted).serials (sym same)

  -- the entry of a note that there was
  old_entry : (w : Value) (e : Note) (before : Value) → IsEntry m records w e before → IsEntry m then w e before
  old_entry w e before old = ⊎_elim
      (λ (same : e.serial ≡ here).
      let one : Some (entry_record old.letters old.line old.left old.right before) ≡ Some (entry_record entry.is.letters entry.is.line entry.is.left entry.is.right entry.before) = sym old.entry ∙ (ap (at_serial records) same ∙ entry.is.entry) in
      let letters : entry.is.letters ≡ old.letters = ap (λ o. field_or_zero o 0) (sym one) in
      let line : entry.is.line ≡ old.line = ap (λ o. field_or_zero o 1) (sym one) in
      let next : entry.before ≡ before = ap (λ o. field_or_zero o 4) (sym one) in
      linked_entry then m here entry.is.letters entry.is.line entry.is.left entry.is.right entry.before to_right to w e before (ap (at_serial then) same ∙ this) old.is
      (subst (λ (l : Value). IsLetters m then l e.word) (sym letters) (letters_kept m (λ s. s ≢ here) records then keeps old.letters e.word old.word))
      (subst (λ (l : Value). AreLines m then l e.lines) (sym line) (lines_kept m (λ s. s ≢ here) records then keeps old.line e.lines old.lines))
      next)
      (λ (other : e.serial ≢ here). record {
        letters = old.letters;
        line = old.line;
        left = old.left;
        right = old.right;
        is = old.is;
        entry = others e.serial other ∙ old.entry;
        word = letters_kept m (λ s. s ≢ here) records then keeps old.letters e.word old.word;
        lines = lines_kept m (λ s. s ≢ here) records then keeps old.line e.lines old.lines;
      })
      (cases_eq e.serial here)

  old_entries : (w : Value) (es : List Note) → AreEntries m records w es → AreEntries m then w es
  old_entries w [] are = are
  old_entries w (e ∷ es) are = (are.0, old_entry w e are.0 are.1, old_entries are.0 es are.2)

  -- ---- turns

  -- what is not this turn of this entry
  other_turn : (serial : ℕ) (right : Bool) → (serial ≡ here → right ≢ to_right) → turn_from then (own m serial) right ≡ turn_from records (own m serial) right
  other_turn serial right other = ⊎_elim
      (λ (same : serial ≡ here).
      ap (λ o. field_or_zero o (side right)) (ap (at_serial then) same ∙ this)
      ∙ (other_side entry.is.letters entry.is.line entry.is.left entry.is.right entry.before to_right to right (other same)
      ∙ ap (λ o. field_or_zero o (side right)) (sym entry.is.entry ∙ ap (at_serial records) (sym same))))
      (λ (apart : serial ≢ here). ap (λ o. field_or_zero o (side right)) (others serial apart))
      (cases_eq serial here)

  this_turn : turn_from then (own m here) to_right ≡ to
  this_turn = ap (λ o. field_or_zero o (side to_right)) this ∙ this_side entry.is.letters entry.is.line entry.is.left entry.is.right entry.before to_right to

  keeps_turn : (w : Value) (right : Bool) → turn_from records w right ≢ Number 0 → turn_from then w right ≡ turn_from records w right
  keeps_turn (Number n) right some = refl
  keeps_turn (Reference i) right some = other_turn i.serial right
      (λ same turn. some (ap (λ (s : ℕ). turn_from records (own m s) right) same ∙ (ap (turn_from records (own m here)) turn ∙ at.ends)))

  keeps_turns : KeepsTurns records then
  keeps_turns = record { kept = keeps_turn }

  leads : (e : Note) → ((right : Bool) → LeadsToNote m notes (turn_from records (own m e.serial) right)) → (right : Bool) → LeadsToNote m (new ∷ notes) (turn_from then (own m e.serial) right)
  leads e old right = ⊎_elim
      (λ (same : e.serial ≡ here). ⊎_elim
      (λ (turn : right ≡ to_right). inr (new, inl refl, ap (λ (s : ℕ). turn_from then (own m s) right) same ∙ (ap (turn_from then (own m here)) turn ∙ this_turn)))
      (λ (turn : right ≢ to_right). stays e old right (λ _. turn))
      (cases_bool right to_right))
      (λ (other : e.serial ≢ here). stays e old right (λ same. absurd (other same)))
      (cases_eq e.serial here)
    where
      stays : (e : Note) → ((right : Bool) → LeadsToNote m notes (turn_from records (own m e.serial) right)) → (right : Bool) → (e.serial ≡ here → right ≢ to_right) → LeadsToNote m (new ∷ notes) (turn_from then (own m e.serial) right)
      stays e old right other = subst (LeadsToNote m (new ∷ notes)) (sym (other_turn e.serial right other)) (leads_on m notes new _ (old right))

  then_entry : at_serial then new.serial ≡ Some (entry_record is.letters is.line (Number 0) (Number 0) latest)
  then_entry = others new.serial apart ∙ is.entry

  new_turns : (right : Bool) → LeadsToNote m (new ∷ notes) (turn_from then (own m new.serial) right)
  new_turns right = inl (no_turns m then new is.letters is.line latest right then_entry)

  new_found : reached then first (turns_of new.word) (suc at.depth) ≡ to
  new_found =
      ap (λ (w : Value). turn_from then w (turns_of new.word at.depth)) (still_there records then first (turns_of new.word) at.depth m here keeps_turns at.reaches)
      ∙ (ap (turn_from then (own m here)) (sym at.turn) ∙ this_turn)

  -- each turn leads where it led, or to the new entry
  either_turn : (w : Value) (right : Bool) → (turn_from then w right ≡ turn_from records w right) ⊎ (turn_from then w right ≡ to)
  either_turn (Number n) right = inl refl
  either_turn (Reference i) right = ⊎_elim
      (λ (same : i.serial ≡ here). ⊎_elim
      (λ (turn : right ≡ to_right). inr (ap (λ (s : ℕ). turn_from then (own m s) right) same ∙ (ap (turn_from then (own m here)) turn ∙ this_turn)))
      (λ (turn : right ≢ to_right). inl (other_turn i.serial right (λ _. turn)))
      (cases_bool right to_right))
      (λ (other : i.serial ≢ here). inl (other_turn i.serial right (λ same. absurd (other same))))
      (cases_eq i.serial here)

  pub kept_with_new : AreKept m then first to (new ∷ notes)
  kept_with_new = record {
    entries = (
      latest,
      record {
        letters = is.letters;
        line = is.line;
        left = Number 0;
        right = Number 0;
        is = refl;
        entry = then_entry;
        word = letters_kept m (λ s. s ≢ here) records then keeps is.letters new.word is.word;
        lines = lines_kept m (λ s. s ≢ here) records then keeps is.line new.lines is.lines;
      },
      old_entries latest notes kept.entries,
    );
    apart = (is.alone, kept.apart);
    lines = (is.has_lines, kept.lines);
    begins = leads_on m notes new first kept.begins;
    turns = (
      new_turns,
      all_map (λ (e : Note). (right : Bool) → LeadsToNote m notes (turn_from records (own m e.serial) right)) (λ (e : Note). (right : Bool) → LeadsToNote m (new ∷ notes) (turn_from then (own m e.serial) right)) notes
          (λ e in_notes old. leads e old) kept.turns,
    );
    found = (
      (suc at.depth, new_found),
      all_map (λ (e : Note). (depth : ℕ) × (reached records first (turns_of e.word) depth ≡ own m e.serial)) (λ (e : Note). (depth : ℕ) × (reached then first (turns_of e.word) depth ≡ own m e.serial)) notes
          (λ e in_notes old. (old.0, still_there records then first (turns_of e.word) old.0 m e.serial keeps_turns old.1)) kept.found,
    );
    ends = λ turns. ends_with_new records then to either_turn (λ right. no_turns m then new is.letters is.line latest right then_entry) first turns (length notes) (kept.ends turns);
  }

-- the first entry of all
pub kept_with_first : (m : ℕ) (records : List Record) (new : Note) → IsNewEntry m records (Number 0) [] new → AreKept m records (own m new.serial) (own m new.serial) (new ∷ [])
kept_with_first m records new is = record {
  entries = (Number 0, new_entry m records (Number 0) [] new is, refl);
  apart = (tt, tt);
  lines = (is.has_lines, tt);
  begins = inr (new, inl refl, refl);
  turns = ((λ right. inl (no_turns m records new is.letters is.line (Number 0) right is.entry)), tt);
  found = ((0, refl), tt);
  ends = λ turns. no_turns m records new is.letters is.line (Number 0) (turns 0) is.entry;
}
