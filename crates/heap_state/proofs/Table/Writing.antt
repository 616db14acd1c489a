-- A table written from a list of entries says what they say, also one with room for checkpoints.
use Rattle.std.proofs.Common.{◌≡◌, ◌≢◌, ◌<◌, ◌≤◌, ℕ, zero, suc, List, true, false, [], ◌∷◌, set, replicate, refl, sym, ap, subst, ◌∙◌, arith, ⊎_elim}
use Rattle.std.specs.Prelude.{Contains}
use Rattle.std.proofs.Math.Path.{fun_ext}
use Rattle.std.proofs.lemmas.Bool.{cases_Bool, cases_eq}
use Rattle.std.proofs.lemmas.List.{get_or-replicate, length-replicate}
use Rattle.space_map.specs.AreaWord.{area_in}
use Rattle.space_map.specs.GateWord.{gate_in}
use Rattle.space_map.specs.PageWord.{decode_page}
use Rattle.space_map.specs.Table.{Row, Gate, Area, WeakHead, Size, Page, is_row, place_of, table_length, saving_length}
use Rattle.space_map.proofs.Rows.{place_of-lt}
use Rattle.heap_state.specs.Memory.Entries.{whole_place_of, Entry, SizeIs, row_of, word_of, with_entry, blank_words, blank_table, written, table_with, EachFits, EntryFits, HasSizes}
use Rattle.heap_state.specs.Memory.Table.{Table, HasForm, IsFormed, table_by, table_of, word_in}
use Rattle.heap_state.specs.Saving.Words.{Saves, saves_of, AreFormedSaves}
use Rattle.heap_state.specs.Saving.Written.{saves_with, blank_whole, written_whole, saves_with_all}
use Rattle.heap_state.specs.Theorems.Rows.{WritesTables}
use Rattle.heap_state.specs.Theorems.Saves.{WritesWholeTables}
use Rattle.heap_state.proofs.Table.StoredRows.{row_is, word_in-same}
use Rattle.heap_state.proofs.Table.CheckpointRows.{said_after, blank_whole_formed, blank_whole_says}
use Rattle.heap_state.proofs.Table.Stores.{HasForms, IsSize, forms_after, says_after, size_stays}

-- ---- words that are 0

-- the words after these rows were written in others
written_on : List ℕ → ℕ → List Entry → List ℕ
written_on base n [] = base
written_on base n (e ∷ entries) = set (written_on base n entries) (whole_place_of n (row_of e)) (word_of e)

written_is : (n : ℕ) (entries : List Entry) → written n entries ≡ written_on (blank_words n) n entries
unfolding written_on
written_is n [] = refl
written_is n (e ∷ entries) = ap (λ ws. set ws (whole_place_of n (row_of e)) (word_of e)) (written_is n entries)

whole_is : (n : ℕ) (entries : List Entry) → written_whole n entries ≡ written_on (blank_whole n) n entries
unfolding written_on
whole_is n [] = refl
whole_is n (e ∷ entries) = ap (λ ws. set ws (whole_place_of n (row_of e)) (word_of e)) (whole_is n entries)

-- each row's word 0 has its form
blank_form : (row : Row) → HasForm row 0
unfolding decode_page
blank_form Gate = omega arith
blank_form (Area space) = omega arith
blank_form WeakHead = omega arith
blank_form (Page page) = refl
blank_form _ = tt

module _ (n long : ℕ) (whole : table_length n ≤ long) where
  blank_word : (row : Row) → word_in n (replicate long 0) row ≡ 0
  unfolding word_in
  blank_word row = ⊎_elim
      (λ (e : is_row n row ≡ true). let short = place_of-lt n row (row_is n row e) in rw e (get_or-replicate long (place_of n row) 0 0 (omega (arith, short, whole))))
      (λ (e : is_row n row ≡ false). rw e refl)
      (cases_Bool (is_row n row))

  blank_forms : HasForms n (replicate long 0)
  blank_forms = record { whole = rw (length-replicate {A = ℕ} long 0) whole; rows = λ row is. rw (blank_word row) (blank_form row) }

  blank_says : table_of n (replicate long 0) ≡ blank_table n
  unfolding table_of gate_in area_in decode_page
  blank_says = ap (table_by n) (fun_ext blank_word)

-- ---- with entries

-- the words have the forms of their rows and say this
record HasSaid (n : ℕ) (words : List ℕ) (t : Table) : Type 0 where
  forms : HasForms n words
  says : table_of n words ≡ t

module _ (n long : ℕ) (whole : table_length n ≤ long) where
  has_said : (entries : List Entry) → EachFits n entries → HasSaid n (written_on (replicate long 0) n entries) (table_with n entries)
  unfolding written_on
  has_said [] fits = record { forms = blank_forms n long whole; says = blank_says n long whole }
  has_said (e ∷ entries) fits =
      let w = has_said entries fits.1 in
      record {
        forms = forms_after n (written_on (replicate long 0) n entries) e w.forms fits.0;
        says = says_after n (written_on (replicate long 0) n entries) e w.forms fits.0 ∙ ap (with_entry e) w.says;
      }

  -- a size that is among the entries is written, and fits
  size_written : (entries : List Entry) → EachFits n entries → (space pages : ℕ) → space < 2 → Contains entries (SizeIs space pages)
      → IsSize n (word_in n (written_on (replicate long 0) n entries) (Size space))
  unfolding written_on
  size_written [] fits space pages is (k, below, same) = absurd (omega (arith, below))
  size_written (e ∷ entries) fits space pages is (zero, below, same) =
      let at : EntryFits n (SizeIs space pages) = subst (EntryFits n) same fits.0 in
      let word = word_in-same n (written_on (replicate long 0) n entries) (Size space) pages is (has_said entries fits.1).forms.whole in
      subst (λ (x : Entry). IsSize n (word_in n (set (written_on (replicate long 0) n entries) (whole_place_of n (row_of x)) (word_of x)) (Size space))) (sym same)
      (subst (IsSize n) (sym word) (at.1, at.2))
  size_written (e ∷ entries) fits space pages is (suc k, below, same) =
      size_stays n (written_on (replicate long 0) n entries) e (has_said entries fits.1).forms fits.0 space (size_written entries fits.1 space pages is (k, omega (arith, below), same))

  formed_on : (entries : List Entry) → EachFits n entries → HasSizes entries → IsFormed n (written_on (replicate long 0) n entries)
  formed_on entries fits sizes =
      let w = has_said entries fits in
      record {
        whole = w.forms.whole;
        rows = w.forms.rows;
        sizes = λ space is. ⊎_elim
            (λ (e : space ≡ 0). rw e (size_written entries fits 0 sizes.first.0 (omega arith) sizes.first.1))
            (λ (e : space ≢ 0). let one : space ≡ 1 = omega (arith, is, e) in rw one (size_written entries fits 1 sizes.second.0 (omega arith) sizes.second.1))
            (cases_eq space 0);
      }

pub writes_tables : WritesTables
writes_tables n entries fits sizes = record {
  formed = rw (written_is n entries) (formed_on n (table_length n) (omega arith) entries fits sizes);
  says = rw (written_is n entries) (has_said n (table_length n) (omega arith) entries fits).says;
}

-- ---- with room for checkpoints

-- what is said of checkpoints, in words that can be read
record HasSavesSaid (n : ℕ) (words : List ℕ) (s : Saves) : Type 0 where
  formed : AreFormedSaves n words
  says : saves_of n words ≡ s

saves_said : (n : ℕ) (entries : List Entry) → EachFits n entries → HasSavesSaid n (written_whole n entries) (saves_with_all entries)
saves_said n [] fits = record { formed = blank_whole_formed n; says = blank_whole_says n }
saves_said n (e ∷ entries) fits =
    let w = saves_said n entries fits.1 in
    let said = said_after n (written_whole n entries) e w.formed fits.0 in
    record { formed = said.1; says = said.0 ∙ ap (saves_with e) w.says }

pub writes_whole_tables : WritesWholeTables
writes_whole_tables n entries fits sizes =
    let whole : table_length n ≤ saving_length n = omega arith in
    let said = saves_said n entries fits in
    record {
      formed = rw (whole_is n entries) (formed_on n (saving_length n) whole entries fits sizes);
      says = rw (whole_is n entries) (has_said n (saving_length n) whole entries fits).says;
      saves_formed = said.formed;
      saves = said.says;
    }
