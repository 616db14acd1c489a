-- The invariant with a word more that had no entry, or that was noted in its line.
use Rattle.std.proofs.Common.{◌≡◌, ◌≢◌, ℕ, ◌+◌, ◌-◌, ◌≤◌, Bool, true, false, List, [], ◌∷◌, ◌++◌, map, length, Some, slice_set, refl, sym, ap, ◌∙◌, subst, arith}
use Rattle.std.specs.List.{AllByRecursion, sum_by}
use Rattle.std.proofs.lemmas.List.{length-append, length-map}
use Rattle.std.proofs.lemmas.List.Sums.{sum_by-append}
use Rattle.std.proofs.Math.ListN.{length-set}
use Rattle.plain_state.specs.declared.value.Value.{Value}
use Rattle.plain_state.specs.declared.value.Value.TheVariants.{Number}
use Rattle.plain_state.specs.Layout.{size_of}
use Rattle.plain_state.specs.State.{Record}
use Rattle.plain_state.specs.Writing.{with_value}
use Rattle.plain_state.proofs.Elements.{at_serial_within}
use Rattle.concordance_text.specs.declared.letters.TheConstants.{MOST_LETTERS}
use Rattle.concordance_text.specs.Rows.{IsElementOf, TellsMention}
use Rattle.concordance_text.specs.Words.{Mention, mention}
use Rattle.concordance.specs.Notes.Invariant.{AreFilled, AreKept, AreTwo, HasLines, HoldsNotes, note_row}
use Rattle.concordance.specs.Notes.Making.{StoresIn, new_records}
use Rattle.concordance.specs.Notes.Paths.{side, turns_of}
use Rattle.concordance.specs.Notes.Places.{PathEndsAt, HasNone}
use Rattle.concordance.specs.Desk.{own}
use Rattle.concordance.specs.Notes.Records.{Note, entry_record}
use Rattle.concordance.proofs.Lists.Elements.{all_at, all_by}
use Rattle.concordance.proofs.Notes.Finding.{none_at_all}
use Rattle.concordance.proofs.Notes.Keeping.{HasEntry, entry_of}
use Rattle.concordance.proofs.Notes.MoreRecords.{kept_by_more, more_keeps_turns, same_turn}
use Rattle.concordance.proofs.Notes.NewEntry.{IsNewEntry, kept_with_first, kept_with_new, linked}
use Rattle.concordance.proofs.Lists.Serials.{at_behind, stored_sizes}
use Rattle.concordance.proofs.Notes.Telling.{told_again, told_with_new, words_with_new}
use Rattle.concordance.proofs.Notes.Turns.{still_there}

-- ---- a word that was noted in this line

pub holds_again : (m : ℕ) (records : List Record) (first latest : Value) (notes : List Note) (noted : List Mention) (n : Mention) → HoldsNotes m records first latest notes noted → TellsMention (map note_row notes) n
    → HoldsNotes m records first latest notes (noted ++ n ∷ [])
holds_again m records first latest notes noted n holds tells = record {
  kept = holds.kept;
  told = told_again notes noted n (holds.told.only n tells) holds.told;
  filled =
      let more = length-append noted (n ∷ []) in
      let words = holds.filled.few_words in
      let made = holds.filled.few_records in
      record { words = holds.filled.words; few_words = omega (arith, more, words); few_records = omega (arith, more, made) };
}

-- ---- a word that has no entry

-- what the new records fill
new_sizes : (m made : ℕ) (latest : Value) (word : List ℕ) (line : ℕ) → sum_by size_of (new_records m made latest word line) ≡ length word + 10
new_sizes m made latest word line =
    let n = length-map {A = ℕ} {B = Value} word Number in
    omega (arith, n)

linked_size : (letters line left right before : Value) (to_right : Bool) (to : Value) → size_of (linked letters line left right before to_right to) ≡ 6
linked_size letters line left right before true to = refl
linked_size letters line left right before false to = refl

module _ (m : ℕ) (records : List Record) (first latest : Value) (notes : List Note) (noted : List Mention) (holds : HoldsNotes m records first latest notes noted) (word : List ℕ) (line : ℕ) (short : length word ≤ MOST_LETTERS) (none : HasNone notes word) where
  abbrev made : ℕ
  made = length records

  abbrev more : List Record
  more = new_records m made latest word line

  abbrev then : List Record
  then = records ++ more

  abbrev pub new_note : Note
  new_note = record { serial = made + 3; word = word; lines = line ∷ [] }

  kept : AreKept m then first latest notes
  kept = kept_by_more records more m first latest notes holds.kept

  pub new_alone : AllByRecursion (AreTwo new_note) notes
  new_alone = all_by (AreTwo new_note) notes (λ e at. record { words = all_at (λ (f : Note). f.word ≢ word) notes e none at; serials = λ same. newer e at same })
    where
      newer : (e : Note) → IsElementOf e notes → e.serial ≡ made + 3 → ⊥
      newer e at same =
          let w = at_serial_within records e.serial _ (entry_of m records latest notes e holds.kept.entries at).is.entry in
          let past = w.1 in
          omega (arith, past, same)

  pub new_has_lines : HasLines new_note
  new_has_lines = record { some = omega arith; falling = (tt, tt) }

  new_is : IsNewEntry m then latest notes new_note
  new_is = record {
    letters = own m (made + 1);
    line = own m (made + 2);
    entry = at_behind records more 2;
    word = record { serial = made + 1; is = refl; letters = at_behind records more 0 };
    lines = (Number 0, record { serial = made + 2; is = refl; line = at_behind records more 1 }, refl);
    has_lines = new_has_lines;
    alone = new_alone;
  }

  filled : (later : List Record) → sum_by size_of later ≡ sum_by size_of then → length later ≡ length then → AreFilled later (new_note ∷ notes) (noted ++ mention word line ∷ [])
  filled later same_words same_count =
      let all = sum_by-append size_of records more in
      let new = new_sizes m made latest word line in
      let old = holds.filled.words in
      let few = holds.filled.few_words in
      let count = holds.filled.few_records in
      let need = words_with_new notes new_note in
      let mentions = length-append noted (mention word line ∷ []) in
      let length_then = length-append records more in
      record {
        words = omega (arith, same_words, all, new, old, need);
        few_words = omega (arith, few, need, mentions, short);
        few_records = omega (arith, same_count, count, mentions, length_then);
      }

  -- the first of all
  pub holds_with_first : first ≡ Number 0 → HoldsNotes m then (own m (made + 3)) (own m (made + 3)) (new_note ∷ notes) (noted ++ mention word line ∷ [])
  holds_with_first is = record {
    kept = first_kept notes empty (subst (λ (v : Value). AreKept m then v latest notes) is kept) new_is;
    told = told_with_new notes noted (made + 3) word line holds.told;
    filled = filled then refl refl;
  }
    where
      empty : notes ≡ []
      empty = none_at_all m then latest notes (subst (λ (v : Value). AreKept m then v latest notes) is kept)

      first_kept : (es : List Note) → es ≡ [] → AreKept m then (Number 0) latest es → IsNewEntry m then latest es new_note → AreKept m then (own m (made + 3)) (own m (made + 3)) (new_note ∷ es)
      first_kept [] e old is = kept_with_first m then new_note (subst (λ (v : Value). IsNewEntry m then v [] new_note) old.entries is)
      first_kept (f ∷ fs) e old is = absurd (cc)

  -- in the field at which its path ended
  module _ (v : Value) (right : Bool) (at : PathEndsAt m records first notes word v right) (later : List Record) (stores : StoresIn then at.note.serial (side right) (own m (made + 3)) later) where
    entry : HasEntry m then at.note
    entry = entry_of m then latest notes at.note kept.entries at.noted

    abbrev ends : PathEndsAt m then first notes word v right
    ends = record {
      note = at.note;
      noted = at.noted;
      is = at.is;
      depth = at.depth;
      reaches = still_there records then first (turns_of word) at.depth m at.note.serial (more_keeps_turns records more) at.reaches;
      turn = at.turn;
      ends = same_turn records more m first latest notes holds.kept at.note at.noted right ∙ at.ends;
    }

    module _ (now : HasEntry m then at.note) where
      abbrev entry_now : Record
      entry_now = entry_record now.is.letters now.is.line now.is.left now.is.right now.before

      abbrev entry_then : Record
      entry_then = linked now.is.letters now.is.line now.is.left now.is.right now.before right (own m (made + 3))

      same_entry : stores.old ≡ entry_now
      same_entry = let e : Some stores.old ≡ Some entry_now = sym stores.there ∙ now.is.entry in cc

      later_is : later ≡ slice_set then (at.note.serial - 1) entry_then
      later_is = stores.later_is ∙ ap (λ (r : Record). slice_set then (at.note.serial - 1) (with_value r (side right) (own m (made + 3)))) same_entry

      sizes : sum_by size_of (slice_set then (at.note.serial - 1) entry_then) ≡ sum_by size_of then
      sizes = stored_sizes then at.note.serial entry_now entry_then now.is.entry (linked_size now.is.letters now.is.line now.is.left now.is.right now.before right (own m (made + 3)))

      with_entry : HoldsNotes m later first (own m (made + 3)) (new_note ∷ notes) (noted ++ mention word line ∷ [])
      with_entry = record {
        kept = subst (λ (rs : List Record). AreKept m rs first (own m (made + 3)) (new_note ∷ notes)) (sym later_is) (kept_with_new m then first latest notes kept new_note new_is v right ends now);
        told = told_with_new notes noted (made + 3) word line holds.told;
        filled = filled later (ap (sum_by size_of) later_is ∙ sizes) (ap (λ (rs : List Record). length rs) later_is ∙ length-set then _ _);
      }

    pub holds_with_entry : HoldsNotes m later first (own m (made + 3)) (new_note ∷ notes) (noted ++ mention word line ∷ [])
    holds_with_entry = with_entry entry
