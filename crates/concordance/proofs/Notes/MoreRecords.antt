-- Notes stay kept if more records are made.
use Rattle.std.proofs.Common.{◌≡◌, ◌≢◌, ⊎_elim, ℕ, Bool, List, ◌++◌, length, Option, Some, None, refl, sym, ap, ◌∙◌, subst}
use Rattle.std.specs.Prelude.{⊤}
use Rattle.plain_state.specs.declared.value.Value.{Value}
use Rattle.plain_state.specs.declared.value.Value.TheVariants.{Number, Reference}
use Rattle.plain_state.specs.State.{Record, at_serial}
use Rattle.concordance_text.specs.Rows.{IsElementOf}
use Rattle.concordance.specs.Notes.Invariant.{AreKept, LeadsToNote}
use Rattle.concordance.specs.Notes.Paths.{Turns, field_or_zero, reached, side, turn_from, turns_of}
use Rattle.concordance.specs.Desk.{own}
use Rattle.concordance.specs.Notes.Records.{Note, entry_record, letters_record, line_record}
use Rattle.concordance.proofs.Lists.Elements.{all_by, all_map}
use Rattle.concordance.proofs.Notes.Keeping.{Keeps, entries_kept, entry_of}
use Rattle.concordance.proofs.Lists.Serials.{at_front}
use Rattle.concordance.proofs.Notes.Turns.{KeepsTurns, reaches_notes, same_path, still_there}

module _ (records more : List Record) where
  pub more_keeps : (Stays : ℕ → Type 0) → Keeps Stays records (records ++ more)
  more_keeps Stays = record {
    letters = λ serial word is. at_front records more serial (letters_record word) is;
    lines = λ serial number before is. at_front records more serial (line_record number before) is;
    entries = λ serial letters line left right before stays is. at_front records more serial (entry_record letters line left right before) is;
  }

  field_kept : (serial x : ℕ) (o : Option Record) → at_serial records serial ≡ o → field_or_zero o x ≢ Number 0 → field_or_zero (at_serial (records ++ more) serial) x ≡ field_or_zero o x
  field_kept serial x None is some = absurd (some refl)
  field_kept serial x (Some r) is some = ap (λ o. field_or_zero o x) (at_front records more serial r is)

  turn_kept : (v : Value) (right : Bool) → turn_from records v right ≢ Number 0 → turn_from (records ++ more) v right ≡ turn_from records v right
  turn_kept (Number n) right some = refl
  turn_kept (Reference i) right some = field_kept i.serial (side right) (at_serial records i.serial) refl some

  pub more_keeps_turns : KeepsTurns records (records ++ more)
  more_keeps_turns = record { kept = turn_kept }

  module _ (m : ℕ) (first latest : Value) (notes : List Note) (kept : AreKept m records first latest notes) where
    -- an entry leads to where it led
    pub same_turn : (e : Note) → IsElementOf e notes → (right : Bool) → turn_from (records ++ more) (own m e.serial) right ≡ turn_from records (own m e.serial) right
    same_turn e at right =
        let h = entry_of m records latest notes e kept.entries at in
        ap (λ o. field_or_zero o (side right)) (at_front records more e.serial _ h.is.entry ∙ sym h.is.entry)

    same_there : (turns : Turns) (d : ℕ) (right : Bool) → turn_from (records ++ more) (reached records first turns d) right ≡ turn_from records (reached records first turns d) right
    same_there turns d right = ⊎_elim
        (λ none. ap (λ (v : Value). turn_from (records ++ more) v right) none ∙ sym (ap (λ (v : Value). turn_from records v right) none))
        (λ to. ap (λ (v : Value). turn_from (records ++ more) v right) to.2 ∙ (same_turn to.0 to.1 right ∙ sym (ap (λ (v : Value). turn_from records v right) to.2)))
        (reaches_notes m records first latest notes kept turns d)

    pub kept_by_more : AreKept m (records ++ more) first latest notes
    kept_by_more = record {
      entries = entries_kept m (λ s. ⊤) records (records ++ more) (more_keeps (λ s. ⊤)) latest notes (all_by (λ (e : Note). ⊤) notes (λ e at. tt)) kept.entries;
      apart = kept.apart;
      lines = kept.lines;
      begins = kept.begins;
      turns = all_map (λ (e : Note). (right : Bool) → LeadsToNote m notes (turn_from records (own m e.serial) right)) (λ (e : Note). (right : Bool) → LeadsToNote m notes (turn_from (records ++ more) (own m e.serial) right)) notes
          (λ e at to right. subst (LeadsToNote m notes) (sym (same_turn e at right)) (to right)) kept.turns;
      found = all_map (λ (e : Note). (depth : ℕ) × (reached records first (turns_of e.word) depth ≡ own m e.serial)) (λ (e : Note). (depth : ℕ) × (reached (records ++ more) first (turns_of e.word) depth ≡ own m e.serial)) notes
          (λ e at to. (to.0, still_there records (records ++ more) first (turns_of e.word) to.0 m e.serial more_keeps_turns to.1)) kept.found;
      ends = λ turns. same_path records (records ++ more) first turns (same_there turns) (length notes) ∙ kept.ends turns;
    }
