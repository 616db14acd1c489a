-- What the notes, and a word more that had no entry, need of the rows that have all of them.
use Rattle.std.proofs.Common.{⊎_elim, inl, ℕ, ◌+◌, ◌≤◌, List, ◌∷◌, ◌++◌, length, arith}
use Rattle.plain_state.specs.declared.value.Value.{Value}
use Rattle.plain_state.specs.State.{Record}
use Rattle.concordance_text.specs.declared.letters.TheConstants.{MOST_LETTERS}
use Rattle.concordance_text.specs.Rows.{AreRowsOf, WordRow, need}
use Rattle.concordance_text.specs.Words.{Mention, mention}
use Rattle.concordance.specs.Notes.Invariant.{HoldsNotes, words_noted}
use Rattle.concordance.specs.Notes.Places.{HasNone}
use Rattle.concordance.specs.Notes.Records.{Note}
use Rattle.concordance.proofs.Lists.Elements.{in_back, in_front, in_last}
use Rattle.concordance.proofs.Notes.Adding.{new_alone, new_has_lines, new_note}
use Rattle.concordance.proofs.Notes.Needing.{notes_need_no_more}
use Rattle.concordance.proofs.Notes.Telling.{told_with_new, words_with_new}

module _ (m : ℕ) (records : List Record) (first latest : Value) (notes : List Note) (noted : List Mention) (holds : HoldsNotes m records first latest notes noted) (more : List Mention) (rows : List WordRow) where
  pub need_of_noted : AreRowsOf (noted ++ more) rows → words_noted notes ≤ need rows
  need_of_noted are = notes_need_no_more (noted ++ more) rows notes are holds.kept.apart holds.kept.lines (λ n tells. in_front n noted more (holds.told.only n tells))

  pub need_with_new : (word : List ℕ) (line : ℕ) → length word ≤ MOST_LETTERS → HasNone notes word → AreRowsOf (noted ++ mention word line ∷ more) rows → words_noted notes + (length word + 10) ≤ need rows
  need_with_new word line short none are =
      let new = new_note m records first latest notes noted holds word line short none in
      let told = told_with_new notes noted new.serial word line holds.told in
      let all = notes_need_no_more (noted ++ mention word line ∷ more) rows (new ∷ notes) are
      (new_alone m records first latest notes noted holds word line short none, holds.kept.apart)
      (new_has_lines m records first latest notes noted holds word line short none, holds.kept.lines)
      (λ n tells. ⊎_elim (λ old. in_front n noted (mention word line ∷ more) old) (λ is. in_back n noted (mention word line ∷ more) (inl is)) (in_last n (mention word line) noted (told.only n tells))) in
      let words = words_with_new notes new in
      omega (arith, all, words)
