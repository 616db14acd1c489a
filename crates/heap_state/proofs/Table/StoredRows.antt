-- A store in a row of the table changes what that row says and nothing else, one behind the table nothing.
use Rattle.std.proofs.Common.{◌≡◌, ◌≢◌, ℕ, ◌<◌, ◌≤◌, true, false, cond, List, length, refl, ap, ◌∙◌, arith, get_or, set, get_or-set_other, get_or-set_same, ⊎_elim}
use Rattle.std.proofs.Math.Path.{fun_ext}
use Rattle.std.proofs.lemmas.Bool.{cases_Bool}
use Rattle.std.proofs.lemmas.Bool.Decides.{not_from_Decides}
use Rattle.space_map.specs.Table.{Row, IsRow, is_row, place_of, save_place_of, table_length}
use Rattle.space_map.proofs.Rows.{is_row-decides, place_of-apart, place_of-lt, save_place_of-ge, row_eq, row_eq-decides}
use Rattle.heap_state.specs.Memory.Entries.{WholeRow, Within, Behind, whole_place_of, IsWholeRow}
use Rattle.heap_state.specs.Memory.Table.{word_in}

-- a row that the table has is one that it has
pub row_is : (n : ℕ) (row : Row) → is_row n row ≡ true → IsRow n row
row_is n row test = (is_row-decides n row).0 test

-- the word of a row that the table has
pub word_in-row : (n : ℕ) (words : List ℕ) (row : Row) → IsRow n row → word_in n words row ≡ get_or words (place_of n row) 0
unfolding word_in
word_in-row n words row is = rw ((is_row-decides n row).1 is)

module _ (n : ℕ) (words : List ℕ) (row : Row) (word : ℕ) (is : IsRow n row) where
  abbrev after : List ℕ
  after = set words (place_of n row) word

  pub word_in-same : table_length n ≤ length words → word_in n after row ≡ word
  word_in-same whole =
      let short = place_of-lt n row is in
      let inside : place_of n row < length words = omega arith in
      word_in-row n after row is ∙ get_or-set_same words (place_of n row) word 0 inside

  pub word_in-other : (other : Row) → other ≢ row → word_in n after other ≡ word_in n words other
  unfolding word_in
  word_in-other other apart = ⊎_elim
      (λ (e : is_row n other ≡ true). rw e (get_or-set_other words (place_of n row) (place_of n other) word 0 (place_of-apart n other row (row_is n other e) is apart)))
      (λ (e : is_row n other ≡ false). rw e refl)
      (cases_Bool (is_row n other))

-- ---- the words of all rows

-- those where one row has this word
abbrev pub put_row : (Row → ℕ) → Row → ℕ → Row → ℕ
put_row words row word other = cond (row_eq other row) word (words other)

pub word_in-set : (n : ℕ) (words : List ℕ) (row : Row) (word : ℕ) → IsRow n row → table_length n ≤ length words
    → word_in n (set words (place_of n row) word) ≡ put_row (word_in n words) row word
word_in-set n words row word is whole = fun_ext (λ other. ⊎_elim
    (λ (test : row_eq other row ≡ true). rw test
    (ap (word_in n (after n words row word is)) ((row_eq-decides other row).0 test) ∙ word_in-same n words row word is whole))
    (λ (test : row_eq other row ≡ false). rw test (word_in-other n words row word is other (not_from_Decides (row_eq other row) (row_eq-decides other row) test)))
    (cases_Bool (row_eq other row)))

-- ---- rows behind the table too

-- the words of all rows of the table, where a row of it or one behind it has this word
abbrev pub put_any : (Row → ℕ) → WholeRow → ℕ → Row → ℕ
put_any words (Within row) word = put_row words row word
put_any words (Behind row) word = words

pub word_in-set_any : (n : ℕ) (words : List ℕ) (row : WholeRow) (word : ℕ) → IsWholeRow n row → table_length n ≤ length words
    → word_in n (set words (whole_place_of n row) word) ≡ put_any (word_in n words) row word
unfolding word_in
word_in-set_any n words (Within row) word is whole = word_in-set n words row word is whole
word_in-set_any n words (Behind row) word is whole = fun_ext (λ other. ⊎_elim
    (λ (e : is_row n other ≡ true).
    let before = place_of-lt n other (row_is n other e) in
    let behind = save_place_of-ge n row in
    rw e (get_or-set_other words (save_place_of n row) (place_of n other) word 0 (λ same. omega (arith, before, behind, same))))
    (λ (e : is_row n other ≡ false). rw e refl)
    (cases_Bool (is_row n other)))
