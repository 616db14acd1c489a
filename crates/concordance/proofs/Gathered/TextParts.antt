-- The parts of a text, of which the first so many are gathered.
use Rattle.std.proofs.Common.{add-one, ◌≡◌, ⊎_elim, ℕ, zero, suc, ◌+◌, ◌^◌, ◌<◌, List, [], ◌∷◌, ◌++◌, flat_map, length, Some, slice_get, take, refl, sym, ap, ◌∙◌, subst, arith, append_assoc, append-nil}
use Rattle.std.specs.List.{AllByRecursion}
use Rattle.std.specs.List.Sorted.{IsStrictlySortedBy}
use Rattle.std.proofs.lemmas.List.Splits.{length-slice_split}
use Rattle.std.proofs.lemmas.List.Sums.{count_by-le-length}
use Rattle.std.proofs.lemmas.Option.{same_Some}
use Rattle.plain_state.specs.declared.value.Value.{Value}
use Rattle.plain_state.specs.State.{Heap, made_by}
use Rattle.plain_heap.specs.Call.{board_word}
use Rattle.ael_threads.specs.Seats.{Seated}
use Rattle.concordance_text.specs.declared.part.Part.{Part}
use Rattle.concordance_text.specs.Parts.{AreInEarlierLines, AreInLineOrder, IsNumbered, bytes_of, mentions_of_part}
use Rattle.concordance_text.specs.Rows.{AreRowsOf, IsElementOf, WordRow}
use Rattle.concordance_text.specs.Words.{Mention, ends_line, lines_of, mention}
use Rattle.concordance_text.proofs.LineNumbers.{letters_are_bytes, line_within, word_within}
use Rattle.concordance_text.proofs.Uniqueness.{all_in, some_line}
use Rattle.concordance_text.proofs.WordRuns.{in_either, in_left, in_right}
use Rattle.concordance.specs.Gathering.{AllAreNoted, HasGot, BoardLeadsToNotes, HasSmallNumbers, LeadsToEntries, whole_desk_of, whole_register, with_notes}
use Rattle.concordance.specs.Notes.Invariant.{HasLines}
use Rattle.concordance.specs.Notes.Records.{AreEntries, Note}
use Rattle.concordance.proofs.Gathered.NewRows.{all_of, part_added, tells_line}
use Rattle.concordance.proofs.Gathered.NotedPlaces.{carried}

-- ---- one part more

pub flat_map_more : {A X : Type 0} (f : A → List X) (xs : List A) (k : ℕ) (x : A) → slice_get xs k ≡ Some x → flat_map f (take (suc k) xs) ≡ flat_map f (take k xs) ++ f x
flat_map_more f [] k x is = absurd cc
flat_map_more f (y ∷ ys) zero x is = append-nil (f y) ∙ ap f (same_Some y x is)
flat_map_more f (y ∷ ys) (suc k) x is = ap (λ l. f y ++ l) (flat_map_more f ys k x is) ∙ sym (append_assoc (f y) _ _)

in_flat : {A X : Type 0} (f : A → List X) (xs : List A) (k : ℕ) (x : A) (y : X) → slice_get xs k ≡ Some x → IsElementOf y (f x) → IsElementOf y (flat_map f xs)
in_flat f [] k x y is h = absurd cc
in_flat f (z ∷ zs) zero x y is h = in_left y (f z) _ (subst (λ a. IsElementOf y (f a)) (sym (same_Some z x is)) h)
in_flat f (z ∷ zs) (suc k) x y is h = in_right y (f z) _ (in_flat f zs k x y is h)

-- its words stand in later lines than those of the parts before it
pub earlier_parts : (parts : List Part) (k : ℕ) (part : Part) → AreInLineOrder parts → slice_get parts k ≡ Some part → AreInEarlierLines (flat_map mentions_of_part (take k parts)) (mentions_of_part part)
earlier_parts [] k part order is m n h there = absurd cc
earlier_parts (p ∷ ps) zero part order is m n h there = absurd h
earlier_parts (p ∷ ps) (suc k) part order is m n h there =
    ⊎_elim (λ j. order.0 m n j (in_flat mentions_of_part ps k part n is there)) (λ j. earlier_parts ps k part order.1 is m n j there)
    (in_either m (mentions_of_part p) (flat_map mentions_of_part (take k ps)) h)

pub all_at : {A : Type 0} (P : A → Type 0) (xs : List A) (k : ℕ) (x : A) → AllByRecursion P xs → slice_get xs k ≡ Some x → P x
all_at P [] k x all is = absurd cc
all_at P (y ∷ ys) zero x all is = subst P (same_Some y x is) all.0
all_at P (y ∷ ys) (suc k) x all is = all_at P ys k x all.1 is

-- ---- its numbers are small

module _ (heap : Heap) (k : ℕ) (part : Part) (numbered : IsNumbered part) (has : BoardLeadsToNotes heap k (mentions_of_part part)) where
  small_line : (m : Mention) → IsElementOf m (mentions_of_part part) → m.line < 2 ^ 32
  small_line m h =
      let text = bytes_of part in
      omega (arith, numbered, (line_within part.line (lines_of text) m h).1, length-slice_split ends_line text, count_by-le-length ends_line text)

  small_note : (e : Note) → IsElementOf e has.notes → HasSmallNumbers e
  small_note e there =
      let told : (n : ℕ) → IsElementOf n e.lines → IsElementOf (mention e.word n) (mentions_of_part part) = λ n line. has.told.only (mention e.word n) (tells_line has.notes e n there line) in
      let line = some_line e.lines (all_in HasLines e has.notes has.lines there).some in
      let m = mention e.word line.0 in
      let in_part = told line.0 line.1 in
      let text = bytes_of part in
      record {
        letters = letters_are_bytes part.line text m in_part;
        short = omega (arith, numbered, word_within part.line text m in_part);
        lines = all_of (λ n. n < 2 ^ 32) e.lines (λ n h. small_line (mention e.word n) (told n h));
      }

  pub small_notes : AllByRecursion HasSmallNumbers has.notes
  small_notes = all_of HasSmallNumbers has.notes small_note

-- ---- a part is gathered

pub some_at : {A : Type 0} (xs : List A) (k : ℕ) → k < length xs → (x : A) × (slice_get xs k ≡ Some x)
some_at [] k within = absurd (omega (arith, within))
some_at (x ∷ xs) zero within = (x, refl)
some_at (x ∷ xs) (suc k) within = some_at xs k (omega (arith, within))

pub no_rows : AreRowsOf [] []
unfolding IsStrictlySortedBy
no_rows = record { ordered = tt; rising = tt; some = tt; all = λ m h. absurd h; only = λ m h. absurd h }

module _ (heap : Heap) (parts : List Part) (noted : AllAreNoted heap parts) (numbered : AllByRecursion IsNumbered parts) where
  abbrev pub part_at : (k : ℕ) → k < length parts → (part : Part) × (slice_get parts k ≡ Some part)
  part_at k within = some_at parts k within

  abbrev pub notes_at : (k : ℕ) (within : k < length parts) → BoardLeadsToNotes heap k (mentions_of_part (part_at k within).0)
  notes_at k within = let p = part_at k within in noted k p.0 p.1

  -- once a register has got the board's word for it, it leads to the entries of its notes
  abbrev pub part_leads : (a b : Seated) (r k : ℕ) → (whole_desk_of a).heap ≡ heap → HasGot a r (board_word (whole_desk_of a).heap k) b → (within : k < length parts) → LeadsToEntries (whole_desk_of b) r
  part_leads a b r k same got within =
      let p = part_at k within in
      let has = notes_at k within in
      let there = subst (λ (h : Heap). AreEntries k (made_by h k) (board_word h k) has.notes) (sym same) has.entries in
      record {
        clerk = k;
        notes = has.notes;
        entries = carried (λ (h : Heap) (v : Value). AreEntries k (made_by h k) v has.notes) a b (board_word (whole_desk_of a).heap k) (whole_register (whole_desk_of b) r) got.read got.taken there;
        small = small_notes heap k p.0 (all_at IsNumbered parts k p.0 numbered p.1) has;
      }

  pub part_gathered : (order : AreInLineOrder parts) (k : ℕ) (within : k < length parts) (rows more : List WordRow) → AreRowsOf (flat_map mentions_of_part (take k parts)) rows → more ≡ with_notes (notes_at k within).notes rows
      → AreRowsOf (flat_map mentions_of_part (take (k + 1) parts)) more
  part_gathered order k within rows more are becomes =
      let p = part_at k within in
      let has = notes_at k within in
      let added = part_added heap k (flat_map mentions_of_part (take k parts)) (mentions_of_part p.0) rows are (earlier_parts parts k p.0 order p.1) has in
      let more_parts : flat_map mentions_of_part (take (k + 1) parts) ≡ flat_map mentions_of_part (take k parts) ++ mentions_of_part p.0 =
      ap (λ (j : ℕ). flat_map mentions_of_part (take j parts)) (add-one k) ∙ flat_map_more mentions_of_part parts k p.0 p.1 in
      subst (λ (ms : List Mention). AreRowsOf ms more) (sym more_parts) (subst (AreRowsOf (flat_map mentions_of_part (take k parts) ++ mentions_of_part p.0)) (sym becomes) added)
