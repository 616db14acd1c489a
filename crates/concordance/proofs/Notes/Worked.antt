-- The invariant holds of the notes that are worked out by hand.
use Rattle.std.proofs.Common.{◌≡◌, inl, inr, ℕ, Bool, true, false, List, [], ◌∷◌, codes, map, refl, ap, ap₂, arith}
use Rattle.plain_state.specs.declared.value.Value.TheVariants.{Number}
use Rattle.concordance_text.specs.Rows.{IsElementOf, TellsMention, WordRow}
use Rattle.concordance_text.specs.Words.{Mention, mention, mentions_of}
use Rattle.concordance.specs.Notes.Invariant.{AreKept, LeadsToNote, note_row}
use Rattle.concordance.specs.Notes.Paths.{bits_of, is_high, reached, turn_from, turns_of}
use Rattle.concordance.specs.Desk.{own}
use Rattle.concordance.specs.Notes.Records.{AreEntries, Note}
use Rattle.concordance.specs.Notes.Worked.{HoldsWorkedOut, worked_notes, worked_records}

abbrev note_a : Note
note_a = record { serial = 6; word = codes "a"; lines = 2 ∷ 1 ∷ [] }

abbrev note_b : Note
note_b = record { serial = 3; word = codes "b"; lines = 1 ∷ [] }

abbrev mentions : List Mention
mentions = mentions_of (codes "b a\nA")

entries : AreEntries 1 worked_records (own 1 6) worked_notes
entries = (
  own 1 3,
  record {
    letters = own 1 4;
    line = own 1 7;
    left = Number 0;
    right = Number 0;
    is = refl;
    entry = refl;
    word = record { serial = 4; is = refl; letters = refl };
    lines = (own 1 5, record { serial = 7; is = refl; line = refl }, (Number 0, record { serial = 5; is = refl; line = refl }, refl));
  },
  (
    Number 0,
    record {
      letters = own 1 1;
      line = own 1 2;
      left = own 1 6;
      right = Number 0;
      is = refl;
      entry = refl;
      word = record { serial = 1; is = refl; letters = refl };
      lines = (Number 0, record { serial = 2; is = refl; line = refl }, refl);
    },
    refl,
  ),
)

turns_a : (right : Bool) → LeadsToNote 1 worked_notes (turn_from worked_records (own 1 6) right)
turns_a true = inl refl
turns_a false = inl refl

turns_b : (right : Bool) → LeadsToNote 1 worked_notes (turn_from worked_records (own 1 3) right)
turns_b true = inl refl
turns_b false = inr (note_a, inl refl, refl)

found_a : reached worked_records (own 1 3) (turns_of (codes "a")) 1 ≡ own 1 6
unfolding turns_of bits_of is_high
found_a = refl

two_turns : (right next : Bool) → turn_from worked_records (turn_from worked_records (own 1 3) right) next ≡ Number 0
two_turns true next = refl
two_turns false true = refl
two_turns false false = refl

kept : AreKept 1 worked_records (own 1 3) (own 1 6) worked_notes
kept = record {
  entries = entries;
  apart = (
    (record { words = λ e. (let h : ◌≡◌ {A = ℕ} 98 97 = cc in absurd (omega arith)); serials = λ e. absurd (omega arith) }, tt),
    (tt, tt),
  );
  lines = (record { some = omega arith; falling = ((omega arith, tt), (tt, tt)) }, (record { some = omega arith; falling = (tt, tt) }, tt));
  begins = inr (note_b, inr (inl refl), refl);
  turns = (turns_a, (turns_b, tt));
  found = ((1, found_a), ((0, refl), tt));
  ends = λ turns. two_turns (turns 0) (turns 1);
}

word_is : {n k : Mention} → n ≡ k → n.word ≡ k.word
word_is e = ap (λ (m : Mention). m.word) e

line_is : {n k : Mention} → n ≡ k → n.line ≡ k.line
line_is e = ap (λ (m : Mention). m.line) e

abbrev rows : List WordRow
rows = map note_row worked_notes

all : (n : Mention) → IsElementOf n mentions → TellsMention rows n
all n (inl e) = inr (inl (word_is e, inl (line_is e)))
all n (inr (inl e)) = inl (word_is e, inr (inl (line_is e)))
all n (inr (inr (inl e))) = inl (word_is e, inl (line_is e))
all n (inr (inr (inr none))) = absurd none

is_mention : (n : Mention) (word : List ℕ) (line : ℕ) → n.word ≡ word → n.line ≡ line → n ≡ mention word line
is_mention n word line e f = ap₂ mention e f

only_a : (n : Mention) → n.word ≡ codes "a" → IsElementOf n.line (2 ∷ 1 ∷ []) → IsElementOf n mentions
only_a n word (inl e) = inr (inr (inl (is_mention n (codes "a") 2 word e)))
only_a n word (inr (inl e)) = inr (inl (is_mention n (codes "a") 1 word e))
only_a n word (inr (inr none)) = absurd none

only_b : (n : Mention) → n.word ≡ codes "b" → IsElementOf n.line (1 ∷ []) → IsElementOf n mentions
only_b n word (inl e) = inl (is_mention n (codes "b") 1 word e)
only_b n word (inr none) = absurd none

only : (n : Mention) → TellsMention rows n → IsElementOf n mentions
only n (inl this) = only_a n this.0 this.1
only n (inr (inl this)) = only_b n this.0 this.1
only n (inr (inr none)) = absurd none

pub holds_worked_out : HoldsWorkedOut
holds_worked_out = record {
  kept = kept;
  told = record { all = all; only = only };
  filled = record { words = refl; few_words = omega arith; few_records = omega arith };
}
