-- A new line of a note, before those that it has.
use Rattle.std.proofs.Common.{◌≡◌, ◌≢◌, ◌⊎◌, ⊎_elim, inl, inr, ℕ, ◌-◌, ◌<◌, Bool, true, false, List, [], ◌∷◌, ◌++◌, length, Some, slice_set, refl, sym, ap, ◌∙◌, subst, arith}
use Rattle.std.specs.List.{AllByRecursion}
use Rattle.std.proofs.lemmas.Bool.{cases_eq}
use Rattle.std.proofs.lemmas.List.{length-append}
use Rattle.plain_state.specs.declared.value.Value.{Value}
use Rattle.plain_state.specs.declared.value.Value.TheVariants.{Number, Reference}
use Rattle.plain_state.specs.State.{Record, at_serial}
use Rattle.concordance_text.specs.Rows.{IsElementOf}
use Rattle.concordance.specs.Notes.Invariant.{AreApart, AreKept, AreTwo, HasLines, LeadsToNote}
use Rattle.concordance.specs.Notes.Paths.{field_or_zero, reached, side, turn_from, turns_of}
use Rattle.concordance.specs.Desk.{own}
use Rattle.concordance.specs.Notes.Records.{AreEntries, AreLines, IsEntry, IsLine, Note, entry_record}
use Rattle.concordance.proofs.Lists.Elements.{all_at, all_map, all_replaced, in_back, in_either, in_front}
use Rattle.concordance.proofs.Notes.Keeping.{HasEntry, Keeps, entries_kept, entry_kept, letters_kept, lines_kept}
use Rattle.concordance.proofs.Notes.NewEntry.{stored_keeps}
use Rattle.concordance.proofs.Lists.Serials.{at_others, at_stored}
use Rattle.concordance.proofs.Notes.Turns.{KeepsTurns, same_path, still_there}

-- the note with one more line
abbrev pub with_line : Note → (number : ℕ) → Note
with_line e number = record { serial = e.serial; word = e.word; lines = number ∷ e.lines }

-- ---- others have other serials

front_apart : (front back : List Note) (e : Note) → AreApart (front ++ e ∷ back) → AllByRecursion (λ (f : Note). f.serial ≢ e.serial) front
front_apart [] back e apart = tt
front_apart (f ∷ fs) back e apart = ((λ same. (all_at (AreTwo f) (fs ++ e ∷ back) e apart.0 (in_back e fs (e ∷ back) (inl refl))).serials (sym same)), front_apart fs back e apart.1)

back_apart : (front back : List Note) (e : Note) → AreApart (front ++ e ∷ back) → AllByRecursion (λ (f : Note). f.serial ≢ e.serial) back
back_apart [] back e apart = all_map (AreTwo e) (λ (f : Note). f.serial ≢ e.serial) back (λ f at two. two.serials) apart.0
back_apart (f ∷ fs) back e apart = back_apart fs back e apart.1

pub still_apart : (front back : List Note) (e : Note) (number : ℕ) → AreApart (front ++ e ∷ back) → AreApart (front ++ with_line e number ∷ back)
still_apart [] back e number apart = (all_map (AreTwo e) (AreTwo (with_line e number)) back (λ f at two. record { words = two.words; serials = two.serials }) apart.0, apart.1)
still_apart (f ∷ fs) back e number apart = (
  all_replaced (AreTwo f) fs back e (with_line e number) (λ two. record { words = two.words; serials = two.serials }) apart.0,
  still_apart fs back e number apart.1,
)

module _ (m : ℕ) (records : List Record) (first latest : Value) (front back : List Note) (e : Note) (kept : AreKept m records first latest (front ++ e ∷ back)) (number : ℕ) (entry : HasEntry m records e) (line : Value)
    (is_line : IsLine m records line number entry.is.line) (above : AllByRecursion (λ k. k < number) e.lines) where
  abbrev new : Note
  new = with_line e number

  abbrev record_then : Record
  record_then = entry_record entry.is.letters line entry.is.left entry.is.right entry.before

  abbrev then : List Record
  then = slice_set records (e.serial - 1) record_then

  abbrev Other : ℕ → Type 0
  Other s = s ≢ e.serial

  keeps : Keeps Other records then
  keeps = stored_keeps records e.serial entry.is.letters entry.is.line entry.is.left entry.is.right entry.before entry.is.entry record_then

  others : (s : ℕ) → s ≢ e.serial → at_serial then s ≡ at_serial records s
  others = at_others records e.serial _ record_then entry.is.entry

  this : at_serial then e.serial ≡ Some record_then
  this = at_stored records e.serial _ record_then entry.is.entry

  new_lines : AreLines m then line (number ∷ e.lines)
  new_lines = (
    entry.is.line,
    record { serial = is_line.serial; is = is_line.is; line = keeps.lines is_line.serial _ entry.is.line is_line.line },
    lines_kept m Other records then keeps entry.is.line e.lines entry.is.lines,
  )

  changed : (v before : Value) → IsEntry m records v e before → IsEntry m then v new before
  changed v before old =
      let one : Some (entry_record old.letters old.line old.left old.right before) ≡ Some (entry_record entry.is.letters entry.is.line entry.is.left entry.is.right entry.before) = sym old.entry ∙ entry.is.entry in
      let next : entry.before ≡ before = ap (λ o. field_or_zero o 4) (sym one) in
      record {
        letters = entry.is.letters;
        line = line;
        left = entry.is.left;
        right = entry.is.right;
        is = old.is;
        entry = this ∙ ap (λ (b : Value). Some (entry_record entry.is.letters line entry.is.left entry.is.right b)) next;
        word = letters_kept m Other records then keeps entry.is.letters e.word entry.is.word;
        lines = new_lines;
      }

  entries_then : (v : Value) (ahead : List Note) → AllByRecursion (λ (f : Note). f.serial ≢ e.serial) ahead → AreEntries m records v (ahead ++ e ∷ back) → AreEntries m then v (ahead ++ new ∷ back)
  entries_then v [] other are = (are.0, changed v are.0 are.1, entries_kept m Other records then keeps are.0 back (back_apart front back e kept.apart) are.2)
  entries_then v (f ∷ fs) other are = (are.0, entry_kept m Other records then keeps v f are.0 other.0 are.1, entries_then are.0 fs other.1 are.2)

  -- ---- turns

  same_field : (right : Bool) → field_or_zero (Some record_then) (side right) ≡ field_or_zero (Some (entry_record entry.is.letters entry.is.line entry.is.left entry.is.right entry.before)) (side right)
  same_field true = refl
  same_field false = refl

  same_turn : (serial : ℕ) (right : Bool) → turn_from then (own m serial) right ≡ turn_from records (own m serial) right
  same_turn serial right = ⊎_elim
      (λ (same : serial ≡ e.serial).
      ap (λ o. field_or_zero o (side right)) (ap (at_serial then) same ∙ this)
      ∙ (same_field right ∙ ap (λ o. field_or_zero o (side right)) (sym entry.is.entry ∙ ap (at_serial records) (sym same))))
      (λ (other : serial ≢ e.serial). ap (λ o. field_or_zero o (side right)) (others serial other))
      (cases_eq serial e.serial)

  keeps_turn : (w : Value) (right : Bool) → turn_from records w right ≢ Number 0 → turn_from then w right ≡ turn_from records w right
  keeps_turn (Number n) right some = refl
  keeps_turn (Reference i) right some = same_turn i.serial right

  keeps_turns : KeepsTurns records then
  keeps_turns = record { kept = keeps_turn }

  abbrev notes : List Note
  notes = front ++ e ∷ back

  abbrev later : List Note
  later = front ++ new ∷ back

  among : (f : Note) → IsElementOf f front ⊎ IsElementOf f (e ∷ back) → (g : Note) × IsElementOf g later × (f.serial ≡ g.serial)
  among f (inl at) = (f, in_front f front (new ∷ back) at, refl)
  among f (inr (inl same)) = (new, in_back new front (new ∷ back) (inl refl), ap (λ (g : Note). g.serial) same)
  among f (inr (inr at)) = (f, in_back f front (new ∷ back) (inr at), refl)

  leads_on : (v : Value) → LeadsToNote m notes v → LeadsToNote m later v
  leads_on v (inl none) = inl none
  leads_on v (inr to) = let g = among to.0 (in_either to.0 front (e ∷ back) to.1) in inr (g.0, g.1, to.2 ∙ ap (own m) g.2)

  same_there : (v : Value) (right : Bool) → turn_from then v right ≡ turn_from records v right
  same_there (Number n) right = refl
  same_there (Reference i) right = same_turn i.serial right

  as_many : length later ≡ length notes
  as_many = length-append front (new ∷ back) ∙ sym (length-append front (e ∷ back))

  pub kept_with_line : AreKept m then first latest later
  kept_with_line = record {
    entries = entries_then latest front (front_apart front back e kept.apart) kept.entries;
    apart = still_apart front back e number kept.apart;
    lines = all_replaced HasLines front back e new (λ old. record { some = omega arith; falling = (above, old.falling) }) kept.lines;
    begins = leads_on first kept.begins;
    turns = all_replaced (λ (f : Note). (right : Bool) → LeadsToNote m later (turn_from then (own m f.serial) right)) front back e new (λ to. to)
        (all_map (λ (f : Note). (right : Bool) → LeadsToNote m notes (turn_from records (own m f.serial) right)) (λ (f : Note). (right : Bool) → LeadsToNote m later (turn_from then (own m f.serial) right)) notes
        (λ f at to right. subst (LeadsToNote m later) (sym (same_turn f.serial right)) (leads_on _ (to right))) kept.turns);
    found = all_replaced (λ (f : Note). (depth : ℕ) × (reached then first (turns_of f.word) depth ≡ own m f.serial)) front back e new (λ to. to)
        (all_map (λ (f : Note). (depth : ℕ) × (reached records first (turns_of f.word) depth ≡ own m f.serial)) (λ (f : Note). (depth : ℕ) × (reached then first (turns_of f.word) depth ≡ own m f.serial)) notes
        (λ f at to. (to.0, still_there records then first (turns_of f.word) to.0 m f.serial keeps_turns to.1)) kept.found);
    ends = λ turns. same_path records then first turns (λ d right. same_there (reached records first turns d) right) (length later) ∙ (ap (reached records first turns) as_many ∙ kept.ends turns);
  }
