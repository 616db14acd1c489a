-- The search for a word's entry, from the first entry on.
use Rattle.std.proofs.Common.{◌≡◌, ◌≢◌, inl, inr, ℕ, suc, ◌+◌, List, refl, sym, ap, ◌∙◌, subst, arith}
use Rattle.plain_state.specs.declared.value.Value.{Value}
use Rattle.plain_state.specs.declared.value.Value.TheVariants.{Number}
use Rattle.plain_state.specs.State.{Record}
use Rattle.concordance_text.specs.Rows.{IsElementOf}
use Rattle.concordance.specs.Desk.{own}
use Rattle.concordance.specs.Notes.Invariant.{AreKept, LeadsToNote}
use Rattle.concordance.specs.Notes.Paths.{bits_after, bits_of, doubled, is_high, reached, turn_from, turns_of}
use Rattle.concordance.specs.Notes.Places.{PathEndsAt, HasNone, PassesOthers}
use Rattle.concordance.specs.Notes.Records.{Note}
use Rattle.concordance.proofs.Notes.Finding.{none_behind, passes_none, passes_one}
use Rattle.concordance.proofs.Notes.Turns.{reaches_notes}

-- The value leads to an entry on the path of the word, and none before it there is of the word; the turns from there on are these bits.
pub record IsOnPath (m : ℕ) (records : List Record) (first : Value) (notes : List Note) (word : List ℕ) (here : Value) (bits : ℕ) : Type 0 where
  pub note : Note
  pub noted : IsElementOf note notes
  pub is : here ≡ own m note.serial
  pub depth : ℕ
  pub bits_are : bits ≡ bits_after word depth
  pub reaches : reached records first (turns_of word) depth ≡ own m note.serial
  pub passed : PassesOthers m records first notes word depth

-- by another value that leads there
abbrev pub on_path_too : (m : ℕ) (records : List Record) (first : Value) (notes : List Note) (word : List ℕ) (here : Value) (bits : ℕ) (there : Value) → IsOnPath m records first notes word here bits → there ≡ here → IsOnPath m records first notes word there bits
on_path_too m records first notes word here bits there on same = record { note = on.note; noted = on.noted; is = same ∙ on.is; depth = on.depth; bits_are = on.bits_are; reaches = on.reaches; passed = on.passed }

module _ (m : ℕ) (records : List Record) (first latest : Value) (notes : List Note) (kept : AreKept m records first latest notes) (word : List ℕ) where
  -- at the first entry, if there is one
  first_on_path : LeadsToNote m notes first → first ≢ Number 0 → IsOnPath m records first notes word first (bits_of word)
  first_on_path (inl none) some = absurd (some none)
  first_on_path (inr to) some = record { note = to.0; noted = to.1; is = to.2; depth = 0; bits_are = refl; reaches = to.2; passed = passes_none m records first latest notes kept word }

  pub begins_on_path : first ≢ Number 0 → IsOnPath m records first notes word first (bits_of word)
  begins_on_path some = first_on_path kept.begins some

  -- from an entry that is of another word, by the next turn
  module _ (here : Value) (bits : ℕ) (on : IsOnPath m records first notes word here bits) (other : on.note.word ≢ word) where
    abbrev next : Value
    next = turn_from records (own m on.note.serial) (is_high bits)

    turn_is : is_high bits ≡ turns_of word on.depth
    unfolding turns_of
    turn_is = ap is_high on.bits_are

    reaches_next : reached records first (turns_of word) (suc on.depth) ≡ next
    reaches_next =
        ap (λ (v : Value). turn_from records v (turns_of word on.depth)) on.reaches
        ∙ ap (turn_from records (own m on.note.serial)) (sym turn_is)

    passed_more : PassesOthers m records first notes word (suc on.depth)
    passed_more = let e : on.depth + 1 ≡ suc on.depth = omega arith in
        subst (PassesOthers m records first notes word) e (passes_one m records first latest notes kept word on.depth on.note on.passed on.noted on.reaches other)

    -- it leads nowhere
    pub ends_here : next ≡ Number 0 → HasNone notes word × PathEndsAt m records first notes word here (is_high bits)
    ends_here none = (
      none_behind m records first latest notes kept word (suc on.depth) passed_more (reaches_next ∙ none),
      record { note = on.note; noted = on.noted; is = on.is; depth = on.depth; reaches = on.reaches; turn = turn_is; ends = none },
    )

    leads_next : LeadsToNote m notes next
    leads_next = subst (LeadsToNote m notes) reaches_next (reaches_notes m records first latest notes kept (turns_of word) (suc on.depth))

    goes_on_to : LeadsToNote m notes next → next ≢ Number 0 → IsOnPath m records first notes word next (doubled bits)
    goes_on_to (inl none) some = absurd (some none)
    goes_on_to (inr to) some = record {
      note = to.0;
      noted = to.1;
      is = to.2;
      depth = suc on.depth;
      bits_are = ap doubled on.bits_are;
      reaches = reaches_next ∙ to.2;
      passed = passed_more;
    }

    -- or to the next entry
    pub goes_on : next ≢ Number 0 → IsOnPath m records first notes word next (doubled bits)
    goes_on some = goes_on_to leads_next some
