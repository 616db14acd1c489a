-- The invariant with a line more of a word that had an entry.
use Rattle.std.proofs.Common.{◌≡◌, ◌≢◌, inl, inr, ℕ, ◌+◌, ◌-◌, ◌<◌, ◌≤◌, List, [], ◌∷◌, ◌++◌, map, length, Some, slice_set, refl, sym, ap, ◌∙◌, subst, arith}
use Rattle.std.specs.List.{AllByRecursion, sum_by}
use Rattle.std.proofs.lemmas.List.{length-append}
use Rattle.std.proofs.lemmas.List.Sums.{sum_by-append}
use Rattle.std.proofs.Math.ListN.{length-set}
use Rattle.plain_state.specs.declared.value.Value.{Value}
use Rattle.plain_state.specs.declared.value.Value.TheVariants.{Number}
use Rattle.plain_state.specs.Layout.{size_of}
use Rattle.plain_state.specs.State.{Record}
use Rattle.plain_state.specs.Writing.{with_value}
use Rattle.concordance_text.specs.Rows.{IsElementOf, TellsMention}
use Rattle.concordance_text.specs.Words.{Mention, mention}
use Rattle.concordance.specs.Notes.Invariant.{AreFalling, AreFilled, AreKept, HoldsNotes, NoneIsLater, TellJust, note_row, words_noted}
use Rattle.concordance.specs.Notes.Making.{StoresIn}
use Rattle.concordance.specs.Notes.Paths.{field_or_zero}
use Rattle.concordance.specs.Desk.{own}
use Rattle.concordance.specs.Notes.Records.{IsLine, Note, entry_record, line_record}
use Rattle.concordance.proofs.Lists.Elements.{StandsIn, all_at, all_by, stands_in}
use Rattle.concordance.proofs.Notes.Keeping.{HasEntry, entry_of}
use Rattle.concordance.proofs.Notes.MoreRecords.{kept_by_more}
use Rattle.concordance.proofs.Notes.NewLine.{kept_with_line, with_line}
use Rattle.concordance.proofs.Lists.Serials.{at_behind, at_front, stored_sizes}
use Rattle.concordance.proofs.Notes.Telling.{told_with_line, words_with_line}

pub tells_note : (notes : List Note) (e : Note) (k : ℕ) → IsElementOf e notes → IsElementOf k e.lines → TellsMention (map note_row notes) (mention e.word k)
tells_note [] e k at in_lines = absurd at
tells_note (f ∷ fs) e k (inl same) in_lines = inl (ap (λ (g : Note). g.word) same, subst (λ (g : Note). IsElementOf k g.lines) same in_lines)
tells_note (f ∷ fs) e k (inr at) in_lines = inr (tells_note fs e k at in_lines)

-- the lines of a note whose latest is another one are before it
pub lines_before : (notes : List Note) (noted : List Mention) (e : Note) (k line : ℕ) (ks : List ℕ) → TellJust notes noted → IsElementOf e notes → AreFalling (k ∷ ks) → e.lines ≡ k ∷ ks → NoneIsLater noted line → k ≢ line
    → AllByRecursion (λ n. n < line) (k ∷ ks)
lines_before notes noted e k line ks told at falling is none_later other =
    let here : IsElementOf k e.lines = subst (IsElementOf k) (sym is) (inl refl) in
    let up : k ≤ line = all_at (λ (n : Mention). n.line ≤ line) noted (mention e.word k) none_later (told.only (mention e.word k) (tells_note notes e k at here)) in
    let below : k < line = omega arith in
    (below, all_by (λ n. n < line) ks (λ n in_ks. let less = all_at (λ j. j < k) ks n falling.0 in_ks in omega (arith, less, below)))

module _ (m : ℕ) (records : List Record) (first latest : Value) (notes : List Note) (noted : List Mention) (holds : HoldsNotes m records first latest notes noted) (e : Note) (at : IsElementOf e notes) (line : ℕ) (above : AllByRecursion (λ n. n < line) e.lines) where
  abbrev place : StandsIn e notes
  place = stands_in e notes at

  abbrev pub later_notes : List Note
  later_notes = place.front ++ with_line e line ∷ place.back

  -- behind these records a line is made that leads to those before it, and the entry leads to it
  module _ (entry : HasEntry m records e) (later : List Record) (stores : StoresIn (records ++ line_record (Number line) entry.is.line ∷ []) e.serial 1 (own m (length records + 1)) later) where
    abbrev more : List Record
    more = line_record (Number line) entry.is.line ∷ []

    abbrev then : List Record
    then = records ++ more

    kept_then : AreKept m then first latest notes
    kept_then = kept_by_more records more m first latest notes holds.kept

    module _ (now : HasEntry m then e) where
      same_line : entry.is.line ≡ now.is.line
      same_line = ap (λ o. field_or_zero o 1) (sym (at_front records more e.serial _ entry.is.entry) ∙ now.is.entry)

      is_line : IsLine m then (own m (length records + 1)) line now.is.line
      is_line = record { serial = length records + 1; is = refl; line = at_behind records more 0 ∙ ap (λ (v : Value). Some (line_record (Number line) v)) same_line }

      abbrev entry_now : Record
      entry_now = entry_record now.is.letters now.is.line now.is.left now.is.right now.before

      abbrev entry_then : Record
      entry_then = entry_record now.is.letters (own m (length records + 1)) now.is.left now.is.right now.before

      same_entry : stores.old ≡ entry_now
      same_entry = let f : Some stores.old ≡ Some entry_now = sym stores.there ∙ now.is.entry in cc

      later_is : later ≡ slice_set then (e.serial - 1) entry_then
      later_is = stores.later_is ∙ ap (λ (r : Record). slice_set then (e.serial - 1) (with_value r 1 (own m (length records + 1)))) same_entry

      filled_with_line : AreFilled later later_notes (noted ++ mention e.word line ∷ [])
      filled_with_line =
          let sizes : sum_by size_of later ≡ sum_by size_of then = ap (sum_by size_of) later_is ∙ stored_sizes then e.serial entry_now entry_then now.is.entry refl in
          let all = sum_by-append size_of records more in
          let new : sum_by size_of more ≡ 3 = refl in
          let old = holds.filled.words in
          let few = holds.filled.few_words in
          let count = holds.filled.few_records in
          let need = words_with_line place.front place.back e line in
          let same : words_noted notes ≡ words_noted (place.front ++ e ∷ place.back) = ap words_noted place.is in
          let mentions = length-append noted (mention e.word line ∷ []) in
          let made : length later ≡ length then = ap (λ (rs : List Record). length rs) later_is ∙ length-set then _ _ in
          let length_then = length-append records more in
          record {
            words = omega (arith, sizes, all, new, old, need, same);
            few_words = omega (arith, few, need, mentions, same);
            few_records = omega (arith, made, count, mentions, length_then);
          }

      with_line_now : HoldsNotes m later first latest later_notes (noted ++ mention e.word line ∷ [])
      with_line_now = record {
        kept = subst (λ (rs : List Record). AreKept m rs first latest later_notes) (sym later_is)
            (kept_with_line m then first latest place.front place.back e (subst (AreKept m then first latest) place.is kept_then) line now (own m (length records + 1)) is_line above);
        told = told_with_line place.front place.back e noted line (subst (λ (es : List Note). TellJust es noted) place.is holds.told);
        filled = filled_with_line;
      }

    pub holds_with_line : HoldsNotes m later first latest later_notes (noted ++ mention e.word line ∷ [])
    holds_with_line = with_line_now (entry_of m then latest notes e kept_then.entries at)
