-- A store in a row of the table changes one part of what the table says. A family of rows whose words have a format gives it here.
use Rattle.std.proofs.Common.{◌≡◌, ℕ, ◌≤◌, ◌==◌, true, false, cond, List, length, set, refl, sym, ap, subst, ◌∙◌, arith, ⊎_elim}
use Rattle.std.proofs.Math.ListN.{length-set}
use Rattle.std.proofs.Math.Path.{fun_ext}
use Rattle.std.proofs.lemmas.Bool.{cases_Bool}
use Rattle.space_map.specs.AreaWord.{area_in, encode_area}
use Rattle.space_map.specs.PageWord.{encode_page}
use Rattle.space_map.specs.Table.{Row, Area, Size, SnapNumber, LastSaved, Page, IsRow, table_length}
use Rattle.space_map.proofs.AreaWords.{area_in-encode_area, encode_area-lt}
use Rattle.space_map.proofs.GateWords.{gate_in-encode_gate, encode_gate-lt}
use Rattle.space_map.proofs.PageWords.{decode_page-encode_page}
use Rattle.space_map.proofs.Rows.{row_eq, row_eq-decides}
use Rattle.heap_state.specs.Memory.Entries.{WholeRow, Within, Behind, whole_place_of, IsWholeRow, Entry, GateIs, AreaIs, WeakIs, SizeIs, PageIs, SnapIs, LastSavedIs, SaveIs, EntryFits, row_of, word_of, with_entry}
use Rattle.heap_state.specs.Functions.{put}
use Rattle.heap_state.specs.Memory.Table.{HasForm, page_word_in, table_by, table_of, word_in}
use Rattle.heap_state.specs.Theorems.Rows.{StoresBeside, StoresEntry}
use Rattle.heap_state.proofs.Table.StoredRows.{put_any, word_in-set_any}

-- ---- each family

-- the table has the row, if there is room for it
pub entry_has_row : (n : ℕ) (e : Entry) → EntryFits n e → IsWholeRow n (row_of e)
entry_has_row n (GateIs gate) fits = tt
entry_has_row n (AreaIs space area) fits = fits.0
entry_has_row n (WeakIs word) fits = tt
entry_has_row n (SizeIs space pages) fits = fits.0
entry_has_row n (PageIs page word) fits = fits.0
entry_has_row n (SnapIs number) fits = tt
entry_has_row n (LastSavedIs number) fits = tt
entry_has_row n (SaveIs page word) fits = fits.0
entry_has_row n _ fits = fits

-- a word of a row of the table has the form of its row
abbrev HasFormAt : WholeRow → ℕ → Type 0
HasFormAt (Within row) word = HasForm row word
HasFormAt (Behind row) word = Unit {0}

-- its word has the form
has_form : (n : ℕ) (e : Entry) → EntryFits n e → HasFormAt (row_of e) (word_of e)
has_form n (GateIs gate) fits = encode_gate-lt gate fits
has_form n (AreaIs space area) fits = encode_area-lt area fits.1
has_form n (WeakIs word) fits = fits
has_form n (PageIs page word) fits = rw (decode_page-encode_page word fits.1) refl
has_form n _ fits = tt

-- a word that is stored at a place says what is put there
put_said : {X : Type 0} (says : ℕ → X) (words : ℕ → ℕ) (place word : ℕ) (said : X) → says word ≡ said
    → (λ x. says (cond (x == place) word (words x))) ≡ put (λ x. says (words x)) place said
unfolding put
put_said says words place word said is = fun_ext (λ x. ⊎_elim
    (λ (e : (x == place) ≡ true). rw e is)
    (λ (e : (x == place) ≡ false). rw e refl)
    (cases_Bool (x == place)))

module _ (n : ℕ) (words : Row → ℕ) where
  -- its part changes, and no other
  one_part : (e : Entry) → EntryFits n e → table_by n (put_any words (row_of e) (word_of e)) ≡ with_entry e (table_by n words)
  unfolding put
  one_part (GateIs gate) fits = ap (λ z. record (table_by n words) { gate = z }) (gate_in-encode_gate gate fits)
  one_part (AreaIs space area) fits =
      ap (λ z. record (table_by n words) { area = z })
      (put_said area_in (λ x. words (Area x)) space (encode_area area) area (area_in-encode_area area fits.1))
  one_part (PageIs page word) fits =
      ap (λ z. record (table_by n words) { page = z })
      (put_said page_word_in (λ x. words (Page x)) page (encode_page word) word (rw (decode_page-encode_page word fits.1) refl))
  one_part _ fits = refl

-- ---- a store

forms_stay : (words : Row → ℕ) (row : WholeRow) (word : ℕ) → HasFormAt row word → (other : Row) → HasForm other (words other)
    → HasForm other (put_any words row word other)
forms_stay words (Behind row) word form other stood = stood
forms_stay words (Within row) word form other stood = ⊎_elim
    (λ (test : row_eq other row ≡ true). rw test (subst (λ (r : Row). HasForm r word) (sym ((row_eq-decides other row).0 test)) form))
    (λ (test : row_eq other row ≡ false). rw test stood)
    (cases_Bool (row_eq other row))

-- so many pages a space may have in use
abbrev pub IsSize : ℕ → ℕ → Type 0
IsSize n pages = (4 ≤ pages) × (pages ≤ n)

-- the words of the sizes stay such numbers
sizes_stay : (n : ℕ) (words : Row → ℕ) (e : Entry) → EntryFits n e → (space : ℕ) → IsSize n (words (Size space))
    → IsSize n (put_any words (row_of e) (word_of e) (Size space))
sizes_stay n words (SizeIs other pages) fits space stood = ⊎_elim
    (λ (test : (space == other) ≡ true). rw test (fits.1, fits.2))
    (λ (test : (space == other) ≡ false). rw test stood)
    (cases_Bool (space == other))
sizes_stay n words _ fits space stood = stood

-- the words hold a whole table, and each has the form of its row
pub record HasForms (n : ℕ) (words : List ℕ) : Type 0 where
  pub whole : table_length n ≤ length words
  pub rows : (row : Row) → IsRow n row → HasForm row (word_in n words row)

module _ (n : ℕ) (words : List ℕ) (e : Entry) (forms : HasForms n words) (fits : EntryFits n e) where
  abbrev after : List ℕ
  after = set words (whole_place_of n (row_of e)) (word_of e)

  pub word_in-after : word_in n after ≡ put_any (word_in n words) (row_of e) (word_of e)
  word_in-after = word_in-set_any n words (row_of e) (word_of e) (entry_has_row n e fits) forms.whole

  pub forms_after : HasForms n after
  forms_after = record {
    whole = omega (arith, length-set words (whole_place_of n (row_of e)) (word_of e), forms.whole);
    rows = λ row has. subst (λ (f : Row → ℕ). HasForm row (f row)) (sym word_in-after)
        (forms_stay (word_in n words) (row_of e) (word_of e) (has_form n e fits) row (forms.rows row has));
  }

  pub says_after : table_of n after ≡ with_entry e (table_of n words)
  unfolding table_of
  says_after = ap (table_by n) word_in-after ∙ one_part n (word_in n words) e fits

  pub size_stays : (space : ℕ) → IsSize n (word_in n words (Size space)) → IsSize n (word_in n after (Size space))
  size_stays space stood = subst (λ (f : Row → ℕ). IsSize n (f (Size space))) (sym word_in-after) (sizes_stay n (word_in n words) e fits space stood)

pub stores_entry : StoresEntry
stores_entry n words e formed fits =
    let forms : HasForms n words = record { whole = formed.whole; rows = formed.rows } in
    let later = forms_after n words e forms fits in
    record {
      formed = record { whole = later.whole; rows = later.rows; sizes = λ space is. size_stays n words e forms fits space (formed.sizes space is) };
      says = says_after n words e forms fits;
    }

pub stores_beside : StoresBeside
unfolding table_of
stores_beside n words (Within SnapNumber) word formed is has = stores_entry n words (SnapIs word) formed tt
stores_beside n words (Within LastSaved) word formed is has = stores_entry n words (LastSavedIs word) formed tt
stores_beside n words (Within _) word formed is has = absurd is
stores_beside n words (Behind row) word formed is has =
    let same = word_in-set_any n words (Behind row) word has formed.whole in
    record {
      formed = record {
        whole = omega (arith, length-set words (whole_place_of n (Behind row)) word, formed.whole);
        rows = λ other has. subst (λ (f : Row → ℕ). HasForm other (f other)) (sym same) (formed.rows other has);
        sizes = λ space is. subst (λ (f : Row → ℕ). IsSize n (f (Size space))) (sym same) (formed.sizes space is);
      };
      says = ap (table_by n) same;
    }
