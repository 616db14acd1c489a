-- What notes fill is no more than what the rows of the text need.
use Rattle.std.proofs.Common.{◌≡◌, ◌≢◌, inl, inr, ℕ, ◌<◌, ◌≤◌, List, [], ◌∷◌, map, length, refl, sym, ap, ◌∙◌, subst, arith, Less}
use Rattle.std.specs.Cmp.Lexicographic.{slice_cmp}
use Rattle.std.specs.Ordering.{nat_cmp}
use Rattle.std.specs.List.{AllByRecursion}
use Rattle.std.specs.List.Sorted.{IsStrictlySortedBy}
use Rattle.std.proofs.lemmas.Cmp.{nat_list_cmp_total}
use Rattle.concordance_text.specs.Rows.{AreInOrder, AreRowsOf, IsElementOf, TellsMention, WordRow, heap_words_for, need}
use Rattle.concordance_text.specs.Words.{Mention, mention}
use Rattle.concordance_text.proofs.Uniqueness.{never_below_itself}
use Rattle.concordance.specs.Notes.Invariant.{AreApart, AreTwo, HasLines, note_row, words_noted}
use Rattle.concordance.specs.Notes.Records.{Note}
use Rattle.concordance.specs.Notes.Theorems.{NotesNeedNoMore}
use Rattle.concordance.proofs.Notes.AddingLines.{tells_note}
use Rattle.concordance.proofs.Lists.Elements.{all_at}
use Rattle.concordance.proofs.Lists.Sums.{HasPartner, IsOnceBy, falling_are_fewer, partners_sum_to_more}

abbrev word_of : WordRow → List ℕ
word_of r = r.word

-- ---- each word once

above_others : (w : List ℕ) (rows : List WordRow) → AllByRecursion (λ v. slice_cmp nat_cmp w v ≡ Less) (map word_of rows) → AllByRecursion (λ (r : WordRow). word_of r ≢ w) rows
above_others w [] above = tt
above_others w (r ∷ rs) above = ((λ same. never_below_itself nat_list_cmp_total w (subst (λ v. slice_cmp nat_cmp w v ≡ Less) same above.0)), above_others w rs above.1)

rows_once : (rows : List WordRow) → AreInOrder rows → IsOnceBy word_of rows
unfolding IsStrictlySortedBy
rows_once [] ordered = tt
rows_once (r ∷ rs) ordered = (above_others r.word rs ordered.0, rows_once rs ordered.1)

words_apart : (e : Note) (es : List Note) → AllByRecursion (AreTwo e) es → AllByRecursion (λ (r : WordRow). word_of r ≢ e.word) (map note_row es)
words_apart e [] apart = tt
words_apart e (f ∷ fs) apart = (apart.0.words, words_apart e fs apart.1)

notes_once : (notes : List Note) → AreApart notes → IsOnceBy word_of (map note_row notes)
notes_once [] apart = tt
notes_once (e ∷ es) apart = (words_apart e es apart.0, notes_once es apart.1)

-- ---- the row of a word

-- a row that tells this
record TellingRow (rows : List WordRow) (n : Mention) : Type 0 where
  told : WordRow
  is : IsElementOf told rows
  word : n.word ≡ told.word
  line : IsElementOf n.line told.lines

telling_row : (rows : List WordRow) (n : Mention) → TellsMention rows n → TellingRow rows n
telling_row [] n tells = absurd tells
telling_row (r ∷ rs) n (inl this) = record { told = r; is = inl refl; word = this.0; line = this.1 }
telling_row (r ∷ rs) n (inr more) = let t = telling_row rs n more in record { told = t.told; is = inr t.is; word = t.word; line = t.line }

-- of two rows of one word there is one
same_row : (rows : List WordRow) (r s : WordRow) → IsOnceBy word_of rows → IsElementOf r rows → IsElementOf s rows → r.word ≡ s.word → r ≡ s
same_row [] r s once at at' same = absurd at
same_row (t ∷ ts) r s once (inl e) (inl f) same = e ∙ sym f
same_row (t ∷ ts) r s once (inl e) (inr at') same = absurd (all_at (λ (x : WordRow). word_of x ≢ t.word) ts s once.0 at' (sym same ∙ ap word_of e))
same_row (t ∷ ts) r s once (inr at) (inl f) same = absurd (all_at (λ (x : WordRow). word_of x ≢ t.word) ts r once.0 at (same ∙ ap word_of f))
same_row (t ∷ ts) r s once (inr at) (inr at') same = same_row ts r s once.1 at at' same

some_line : (ns : List ℕ) → 0 < length ns → (n : ℕ) × IsElementOf n ns
some_line [] some = absurd (omega arith)
some_line (n ∷ ns) some = (n, inl refl)

-- ---- each note has its row

map_elements : (P : WordRow → Type 0) (notes : List Note) → ((e : Note) → IsElementOf e notes → P (note_row e)) → AllByRecursion P (map note_row notes)
map_elements P [] each = tt
map_elements P (e ∷ es) each = (each e (inl refl), map_elements P es (λ f at. each f (inr at)))

module _ (mentions : List Mention) (rows : List WordRow) (notes : List Note) (are : AreRowsOf mentions rows) (apart : AreApart notes) (lines : AllByRecursion HasLines notes)
    (only : (n : Mention) → TellsMention (map note_row notes) n → IsElementOf n mentions) where
  told_by_row : (e : Note) → IsElementOf e notes → (k : ℕ) → IsElementOf k e.lines → TellingRow rows (mention e.word k)
  told_by_row e at k in_lines = telling_row rows (mention e.word k) (are.all (mention e.word k) (only (mention e.word k) (tells_note notes e k at in_lines)))

  partner : (e : Note) → IsElementOf e notes → HasPartner word_of heap_words_for word_of heap_words_for rows (note_row e)
  partner e at =
      let has = all_at HasLines notes e lines at in
      let k = some_line e.lines has.some in
      let t = told_by_row e at k.0 k.1 in
      let fewer = falling_are_fewer e.lines t.told.lines has.falling (λ n in_lines.
      let u = told_by_row e at n in_lines in
      subst (λ (r : WordRow). IsElementOf n r.lines) (same_row rows u.told t.told (rows_once rows are.ordered) u.is t.is (sym u.word ∙ t.word)) u.line) in
      let letters : length e.word ≡ length t.told.word = ap (λ (w : List ℕ). length w) t.word in
      record { partner = t.told; is = t.is; same = sym t.word; less = omega (arith, fewer, letters) }

  pub need_no_more : words_noted notes ≤ need rows
  need_no_more = partners_sum_to_more word_of heap_words_for word_of heap_words_for (map note_row notes) rows (notes_once notes apart)
      (map_elements (HasPartner word_of heap_words_for word_of heap_words_for rows) notes partner)

pub notes_need_no_more : NotesNeedNoMore
notes_need_no_more mentions rows notes are apart lines only = need_no_more mentions rows notes are apart lines only
