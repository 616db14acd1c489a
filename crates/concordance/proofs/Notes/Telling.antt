-- What notes tell, and what they fill, with one word more.
use Rattle.std.proofs.Common.{◌≡◌, ◌⊎◌, ⊎_elim, inl, inr, ℕ, ◌+◌, List, [], ◌∷◌, ◌++◌, map, sym, ap, ap₂, subst, arith}
use Rattle.std.proofs.lemmas.List.Sums.{sum_by-cons}
use Rattle.concordance_text.specs.Rows.{IsElementOf, TellsMention, heap_words_for}
use Rattle.concordance_text.specs.Words.{Mention, mention}
use Rattle.concordance.specs.Notes.Invariant.{TellJust, note_row, words_noted}
use Rattle.concordance.specs.Notes.Records.{Note}
use Rattle.concordance.proofs.Lists.Elements.{in_back, in_front, in_last}
use Rattle.concordance.proofs.Notes.NewLine.{with_line}

-- a mention by its word and its line
same_mention : (n : Mention) (word : List ℕ) (line : ℕ) → n.word ≡ word → n.line ≡ line → n ≡ mention word line
same_mention n word line e f = ap₂ mention e f

-- ---- a new note

pub told_with_new : (notes : List Note) (noted : List Mention) (serial : ℕ) (word : List ℕ) (line : ℕ) → TellJust notes noted → TellJust (record { serial = serial; word = word; lines = line ∷ [] } ∷ notes) (noted ++ mention word line ∷ [])
told_with_new notes noted serial word line told = record {
  all = λ n at. ⊎_elim (λ old. inr (told.all n old)) (λ new. inl (ap (λ (k : Mention). k.word) new, inl (ap (λ (k : Mention). k.line) new))) (in_last n (mention word line) noted at);
  only = λ n tells. ⊎_elim
      (λ this. ⊎_elim (λ e. in_back n noted (mention word line ∷ []) (inl (same_mention n word line this.0 e))) (λ none. absurd none) this.1)
      (λ old. in_front n noted (mention word line ∷ []) (told.only n old)) tells;
}

pub words_with_new : (notes : List Note) (e : Note) → words_noted (e ∷ notes) ≡ heap_words_for (note_row e) + words_noted notes
words_with_new notes e = sum_by-cons heap_words_for (note_row e) (map note_row notes)

-- ---- a new line of a note

still_told : (front back : List Note) (e : Note) (line : ℕ) (n : Mention) → TellsMention (map note_row (front ++ e ∷ back)) n → TellsMention (map note_row (front ++ with_line e line ∷ back)) n
still_told [] back e line n (inl this) = inl (this.0, inr this.1)
still_told [] back e line n (inr more) = inr more
still_told (f ∷ fs) back e line n (inl this) = inl this
still_told (f ∷ fs) back e line n (inr more) = inr (still_told fs back e line n more)

new_told : (front back : List Note) (e : Note) (line : ℕ) (n : Mention) → n.word ≡ e.word → n.line ≡ line → TellsMention (map note_row (front ++ with_line e line ∷ back)) n
new_told [] back e line n word is = inl (word, inl is)
new_told (f ∷ fs) back e line n word is = inr (new_told fs back e line n word is)

told_before : (front back : List Note) (e : Note) (line : ℕ) (n : Mention) → TellsMention (map note_row (front ++ with_line e line ∷ back)) n → ((n.word ≡ e.word) × (n.line ≡ line)) ⊎ TellsMention (map note_row (front ++ e ∷ back)) n
told_before [] back e line n (inl this) = ⊎_elim (λ new. inl (this.0, new)) (λ old. inr (inl (this.0, old))) this.1
told_before [] back e line n (inr more) = inr (inr more)
told_before (f ∷ fs) back e line n (inl this) = inr (inl this)
told_before (f ∷ fs) back e line n (inr more) = ⊎_elim (λ new. inl new) (λ old. inr (inr old)) (told_before fs back e line n more)

pub told_with_line : (front back : List Note) (e : Note) (noted : List Mention) (line : ℕ) → TellJust (front ++ e ∷ back) noted → TellJust (front ++ with_line e line ∷ back) (noted ++ mention e.word line ∷ [])
told_with_line front back e noted line told = record {
  all = λ n at. ⊎_elim (λ old. still_told front back e line n (told.all n old)) (λ new. new_told front back e line n (ap (λ (k : Mention). k.word) new) (ap (λ (k : Mention). k.line) new)) (in_last n (mention e.word line) noted at);
  only = λ n tells. ⊎_elim
      (λ new. in_back n noted (mention e.word line ∷ []) (inl (same_mention n e.word line new.0 new.1)))
      (λ old. in_front n noted (mention e.word line ∷ []) (told.only n old)) (told_before front back e line n tells);
}

pub words_with_line : (front back : List Note) (e : Note) (line : ℕ) → words_noted (front ++ with_line e line ∷ back) ≡ words_noted (front ++ e ∷ back) + 3
words_with_line [] back e line =
    let before = sum_by-cons heap_words_for (note_row e) (map note_row back) in
    let then = sum_by-cons heap_words_for (note_row (with_line e line)) (map note_row back) in
    omega (arith, before, then)
words_with_line (f ∷ fs) back e line =
    let before = sum_by-cons heap_words_for (note_row f) (map note_row (fs ++ e ∷ back)) in
    let then = sum_by-cons heap_words_for (note_row f) (map note_row (fs ++ with_line e line ∷ back)) in
    let rest = words_with_line fs back e line in
    omega (arith, before, then, rest)

-- ---- a word that was noted in this line

pub told_again : (notes : List Note) (noted : List Mention) (n : Mention) → IsElementOf n noted → TellJust notes noted → TellJust notes (noted ++ n ∷ [])
told_again notes noted n there told = record {
  all = λ k at. ⊎_elim (λ old. told.all k old) (λ same. told.all k (subst (λ j. IsElementOf j noted) (sym same) there)) (in_last k n noted at);
  only = λ k tells. in_front k noted (n ∷ []) (told.only k tells);
}
