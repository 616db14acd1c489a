-- Rows of checkpoints: what a store in a row of the table or of theirs changes of what is said.
use Rattle.std.proofs.Common.{◌≡◌, ◌≢◌, ℕ, ◌+◌, ◌*◌, ◌<◌, ◌≤◌, ⊎_elim, true, false, List, length, refl, sym, ap, ◌∙◌, arith, set, get_or-set_other, get_or-set_same}
use Rattle.std.proofs.Math.ListN.{length-set}
use Rattle.std.proofs.Math.Path.{fun_ext}
use Rattle.std.proofs.lemmas.Bool.{cases_Bool, cases_eq}
use Rattle.std.proofs.lemmas.List.{get_or-replicate, length-replicate}
use Rattle.space_map.specs.declared.save_word.SaveWord.{SaveWord}
use Rattle.space_map.specs.SaveWord.{SaveFits, encode_save, decode_save}
use Rattle.space_map.specs.Table.{Row, Gate, Traced, Area, WeakHead, WeakTurn, Size, SnapNumber, LastSaved, Page, Cross, HeapWord, Announce, SaveRow, SaveOf, ImageOf, IsRow, is_row, IsSaveRow, is_save_row, place_of, save_place_of, saving_length}
use Rattle.space_map.proofs.Rows.{is_row-decides, is_save_row-decides, place_of-lt, place_of-apart, save_place_of-ge, save_place_of-lt, same_save_row}
use Rattle.space_map.proofs.SaveWords.{decode_save-encode_save}
use Rattle.heap_state.specs.Functions.{put}
use Rattle.heap_state.specs.Memory.Entries.{Entry, GateIs, TracedIs, AreaIs, WeakIs, WeakTurnIs, SizeIs, PageIs, CrossIs, WordIs, AnnounceIs, SnapIs, LastSavedIs, SaveIs, ImageIs, EntryFits, row_of, word_of, whole_place_of}
use Rattle.heap_state.specs.Memory.Table.{word_in, table_by, table_of}
use Rattle.heap_state.specs.Saving.Words.{Saves, save_word_in, save_said_in, saves_of, AreFormedSaves}
use Rattle.heap_state.specs.Saving.Written.{saves_with, blank_saves, blank_whole}
use Rattle.heap_state.specs.Theorems.Saves.{SavesAre, ChangesSaves, SavesStay, NumbersAreStored, SavesAreStored}
use Rattle.heap_state.proofs.Puts.{put_is}

-- ---- a row whose place another store leaves

module _ (n : ℕ) (words : List ℕ) (place word : ℕ) where
  abbrev after : List ℕ
  after = set words place word

  word_in-beside : (row : Row) → (IsRow n row → place_of n row ≢ place) → word_in n after row ≡ word_in n words row
  unfolding word_in
  word_in-beside row apart = ⊎_elim
      (λ (e : is_row n row ≡ true). rw e (get_or-set_other words place (place_of n row) word 0 (apart ((is_row-decides n row).0 e))))
      (λ (e : is_row n row ≡ false). rw e refl)
      (cases_Bool (is_row n row))

  save_word_in-beside : (row : SaveRow) → (IsSaveRow n row → save_place_of n row ≢ place) → save_word_in n after row ≡ save_word_in n words row
  unfolding save_word_in
  save_word_in-beside row apart = ⊎_elim
      (λ (e : is_save_row n row ≡ true). rw e (get_or-set_other words place (save_place_of n row) word 0 (apart ((is_save_row-decides n row).0 e))))
      (λ (e : is_save_row n row ≡ false). rw e refl)
      (cases_Bool (is_save_row n row))

-- the word of a row that was stored there
word_in-there : (n : ℕ) (words : List ℕ) (row : Row) (word : ℕ) → IsRow n row → place_of n row < length words
    → word_in n (set words (place_of n row) word) row ≡ word
unfolding word_in
word_in-there n words row word is inside = rw ((is_row-decides n row).1 is) (get_or-set_same words (place_of n row) word 0 inside)

save_word_in-there : (n : ℕ) (words : List ℕ) (row : SaveRow) (word : ℕ) → IsSaveRow n row → save_place_of n row < length words
    → save_word_in n (set words (save_place_of n row) word) row ≡ word
unfolding save_word_in
save_word_in-there n words row word is inside = rw ((is_save_row-decides n row).1 is) (get_or-set_same words (save_place_of n row) word 0 inside)

-- ---- by parts

same_saves : (a b : Saves) → a.snap ≡ b.snap → a.done ≡ b.done → a.save ≡ b.save → a.image ≡ b.image → a ≡ b
same_saves a b snap done save image = λ i. record { snap = snap i; done = done i; save = save i; image = image i }

-- the words of a table but SNAP and DONE, which it doesn't read
read_words : (Row → ℕ) → Row → ℕ
read_words f SnapNumber = 0
read_words f LastSaved = 0
read_words f Gate = f Gate
read_words f Traced = f Traced
read_words f (Area space) = f (Area space)
read_words f WeakHead = f WeakHead
read_words f WeakTurn = f WeakTurn
read_words f (Size space) = f (Size space)
read_words f (Page page) = f (Page page)
read_words f (Cross page) = f (Cross page)
read_words f (HeapWord addr) = f (HeapWord addr)
read_words f (Announce worker) = f (Announce worker)

same_read : (f g : Row → ℕ) → ((row : Row) → row ≢ SnapNumber → row ≢ LastSaved → f row ≡ g row) → (row : Row) → read_words f row ≡ read_words g row
unfolding read_words
same_read f g same SnapNumber = refl
same_read f g same LastSaved = refl
same_read f g same Gate = same Gate (λ e. cc) (λ e. cc)
same_read f g same Traced = same Traced (λ e. cc) (λ e. cc)
same_read f g same (Area space) = same (Area space) (λ e. cc) (λ e. cc)
same_read f g same WeakHead = same WeakHead (λ e. cc) (λ e. cc)
same_read f g same WeakTurn = same WeakTurn (λ e. cc) (λ e. cc)
same_read f g same (Size space) = same (Size space) (λ e. cc) (λ e. cc)
same_read f g same (Page page) = same (Page page) (λ e. cc) (λ e. cc)
same_read f g same (Cross page) = same (Cross page) (λ e. cc) (λ e. cc)
same_read f g same (HeapWord addr) = same (HeapWord addr) (λ e. cc) (λ e. cc)
same_read f g same (Announce worker) = same (Announce worker) (λ e. cc) (λ e. cc)

same_table : (n : ℕ) (f g : Row → ℕ) → ((row : Row) → row ≢ SnapNumber → row ≢ LastSaved → f row ≡ g row) → table_by n f ≡ table_by n g
unfolding read_words
same_table n f g same = ap (table_by n) (fun_ext (same_read f g same))

-- a row of the table stands before those of checkpoints
rows_apart : (n : ℕ) (row : Row) (other : SaveRow) → IsRow n row → save_place_of n other ≢ place_of n row
rows_apart n row other is same = let before = place_of-lt n row is in let behind = save_place_of-ge n other in omega (arith, before, behind, same)

inside : (n : ℕ) (words : List ℕ) (row : SaveRow) → saving_length n ≤ length words → IsSaveRow n row → save_place_of n row < length words
inside n words row whole is = let short = save_place_of-lt (record { pages = n; checkpoints = true }) row refl is in omega (arith, whole, short)

-- ---- stores in rows of the table

module _ (n : ℕ) (words : List ℕ) (row : Row) (word : ℕ) (is : IsRow n row) where
  abbrev stored : List ℕ
  stored = set words (place_of n row) word

  save_words_stay : (other : SaveRow) → save_word_in n stored other ≡ save_word_in n words other
  save_words_stay other = save_word_in-beside n words (place_of n row) word other (λ has. rows_apart n row other is)

  formed_still : AreFormedSaves n words → AreFormedSaves n stored
  formed_still formed = record {
    whole = rw (length-set words (place_of n row) word) formed.whole;
    saves = λ page most. rw (save_words_stay (SaveOf page)) (formed.saves page most);
  }

  -- SNAP and DONE after it
  says_numbers : (snap done : ℕ) → word_in n stored SnapNumber ≡ snap → word_in n stored LastSaved ≡ done
      → SavesAre n words (place_of n row) word (record (saves_of n words) { snap = snap; done = done })
  unfolding saves_of
  says_numbers snap done snap_is done_is = record {
    says = same_saves _ _ snap_is done_is (fun_ext (λ page. ap save_said_in (save_words_stay (SaveOf page)))) (fun_ext (λ addr. save_words_stay (ImageOf addr)));
    formed = formed_still;
  }

  other_words_stay : (other : Row) → other ≢ row → word_in n stored other ≡ word_in n words other
  other_words_stay other apart = word_in-beside n words (place_of n row) word other (λ has. place_of-apart n other row has is apart)

pub saves_stay : SavesStay
unfolding saves_of
saves_stay n words row word is not_snap not_done = says_numbers n words row word is (word_in n words SnapNumber) (word_in n words LastSaved)
    (other_words_stay n words row word is SnapNumber (λ e. not_snap (sym e)))
    (other_words_stay n words row word is LastSaved (λ e. not_done (sym e)))

pub numbers_are_stored : NumbersAreStored
unfolding saves_of table_of
numbers_are_stored = record {
  snap = λ n words number whole. record {
    saves = says_numbers n words SnapNumber number tt number (word_in n words LastSaved)
        (word_in-there n words SnapNumber number tt (let short = place_of-lt n SnapNumber tt in omega (arith, whole, short)))
        (other_words_stay n words SnapNumber number tt LastSaved (λ e. cc));
    table = same_table n _ _ (λ row not_snap not_done. other_words_stay n words SnapNumber number tt row not_snap);
  };
  done = λ n words number whole. record {
    saves = says_numbers n words LastSaved number tt (word_in n words SnapNumber) number
        (other_words_stay n words LastSaved number tt SnapNumber (λ e. cc))
        (word_in-there n words LastSaved number tt (let short = place_of-lt n LastSaved tt in omega (arith, whole, short)));
    table = same_table n _ _ (λ row not_snap not_done. other_words_stay n words LastSaved number tt row not_done);
  };
}

-- ---- stores in rows of checkpoints

module _ (n : ℕ) (words : List ℕ) (row : SaveRow) (word : ℕ) (is : IsSaveRow n row) where
  abbrev saved : List ℕ
  saved = set words (save_place_of n row) word

  words_stay : (other : Row) → word_in n saved other ≡ word_in n words other
  words_stay other = word_in-beside n words (save_place_of n row) word other (λ has same. rows_apart n other row has (sym same))

  table_stays : table_of n saved ≡ table_of n words
  unfolding table_of
  table_stays = ap (table_by n) (fun_ext words_stay)

  other_saves_stay : (other : SaveRow) → other ≢ row → save_word_in n saved other ≡ save_word_in n words other
  other_saves_stay other apart = save_word_in-beside n words (save_place_of n row) word other (λ has same. apart (same_save_row n other row has is same))

said : (v : SaveWord) → SaveFits v → save_said_in (encode_save v) ≡ v
said v fits = rw (decode_save-encode_save v fits) refl

module _ (n : ℕ) (words : List ℕ) (page : ℕ) (v : SaveWord) (whole : saving_length n ≤ length words) (is : page ≤ 2 * n) (fits : SaveFits v) where
  abbrev marked : List ℕ
  marked = set words (save_place_of n (SaveOf page)) (encode_save v)

  mark_there : save_word_in n marked (SaveOf page) ≡ encode_save v
  mark_there = save_word_in-there n words (SaveOf page) (encode_save v) is (inside n words (SaveOf page) whole is)

  mark_elsewhere : (p : ℕ) → p ≢ page → save_word_in n marked (SaveOf p) ≡ save_word_in n words (SaveOf p)
  mark_elsewhere p apart = other_saves_stay n words (SaveOf page) (encode_save v) is (SaveOf p) (λ e. apart (cc))

  save_stored : ChangesSaves n words (save_place_of n (SaveOf page)) (encode_save v) (record (saves_of n words) { save = put (saves_of n words).save page v })
  unfolding saves_of
  save_stored = record {
    saves = record {
      says = same_saves _ _ (words_stay n words (SaveOf page) (encode_save v) is SnapNumber) (words_stay n words (SaveOf page) (encode_save v) is LastSaved)
          (put_is _ _ page v (ap save_said_in mark_there ∙ said v fits) (λ p apart. ap save_said_in (mark_elsewhere p apart)))
          (fun_ext (λ addr. other_saves_stay n words (SaveOf page) (encode_save v) is (ImageOf addr) (λ e. cc)));
      formed = λ formed. record {
        whole = rw (length-set words (save_place_of n (SaveOf page)) (encode_save v)) formed.whole;
        saves = λ p most. ⊎_elim
            (λ (same : p ≡ page). rw (same, mark_there, decode_save-encode_save v fits) refl)
            (λ (apart : p ≢ page). rw (mark_elsewhere p apart) (formed.saves p most))
            (cases_eq p page);
      };
    };
    table = table_stays n words (SaveOf page) (encode_save v) is;
  }

image_stored : (n : ℕ) (words : List ℕ) (addr word : ℕ) → saving_length n ≤ length words → addr ≤ 128 * n + 63
    → ChangesSaves n words (save_place_of n (ImageOf addr)) word (record (saves_of n words) { image = put (saves_of n words).image addr word })
unfolding saves_of
image_stored n words addr word whole is = record {
  saves = record {
    says = same_saves _ _ (words_stay n words (ImageOf addr) word is SnapNumber) (words_stay n words (ImageOf addr) word is LastSaved)
        (fun_ext (λ page. ap save_said_in (other_saves_stay n words (ImageOf addr) word is (SaveOf page) (λ e. cc))))
        (put_is _ _ addr word (save_word_in-there n words (ImageOf addr) word is (inside n words (ImageOf addr) whole is))
        (λ a apart. other_saves_stay n words (ImageOf addr) word is (ImageOf a) (λ e. apart (cc))));
    formed = λ formed. record {
      whole = rw (length-set words (save_place_of n (ImageOf addr)) word) formed.whole;
      saves = λ page most. rw (other_saves_stay n words (ImageOf addr) word is (SaveOf page) (λ e. cc)) (formed.saves page most);
    };
  };
  table = table_stays n words (ImageOf addr) word is;
}

pub saves_are_stored : SavesAreStored
saves_are_stored = record { save = save_stored; image = image_stored }

-- ---- a row with what it says

-- after a row of the table that isn't SNAP or DONE
said_in_table : (n : ℕ) (words : List ℕ) (row : Row) (word : ℕ) → AreFormedSaves n words → IsRow n row → row ≢ SnapNumber → row ≢ LastSaved
    → (saves_of n (set words (place_of n row) word) ≡ saves_of n words) × AreFormedSaves n (set words (place_of n row) word)
said_in_table n words row word formed is not_snap not_done = let stay = saves_stay n words row word is not_snap not_done in (stay.says, stay.formed formed)

-- after one of those of checkpoints
said_of_saves : (n : ℕ) (words : List ℕ) (place word : ℕ) (s : Saves) → AreFormedSaves n words → ChangesSaves n words place word s
    → (saves_of n (set words place word) ≡ s) × AreFormedSaves n (set words place word)
said_of_saves n words place word s formed changes = (changes.saves.says, changes.saves.formed formed)

pub said_after : (n : ℕ) (words : List ℕ) (e : Entry) → AreFormedSaves n words → EntryFits n e
    → (saves_of n (set words (whole_place_of n (row_of e)) (word_of e)) ≡ saves_with e (saves_of n words)) × AreFormedSaves n (set words (whole_place_of n (row_of e)) (word_of e))
said_after n words (GateIs gate) formed fits = said_in_table n words Gate _ formed tt (λ e. cc) (λ e. cc)
said_after n words (TracedIs word) formed fits = said_in_table n words Traced _ formed tt (λ e. cc) (λ e. cc)
said_after n words (AreaIs space area) formed fits = said_in_table n words (Area space) _ formed fits.0 (λ e. cc) (λ e. cc)
said_after n words (WeakIs word) formed fits = said_in_table n words WeakHead _ formed tt (λ e. cc) (λ e. cc)
said_after n words (WeakTurnIs word) formed fits = said_in_table n words WeakTurn _ formed tt (λ e. cc) (λ e. cc)
said_after n words (SizeIs space pages) formed fits = said_in_table n words (Size space) _ formed fits.0 (λ e. cc) (λ e. cc)
said_after n words (PageIs page word) formed fits = said_in_table n words (Page page) _ formed fits.0 (λ e. cc) (λ e. cc)
said_after n words (CrossIs page place) formed fits = said_in_table n words (Cross page) _ formed fits (λ e. cc) (λ e. cc)
said_after n words (WordIs addr word) formed fits = said_in_table n words (HeapWord addr) _ formed fits (λ e. cc) (λ e. cc)
said_after n words (AnnounceIs worker place) formed fits = said_in_table n words (Announce worker) _ formed fits (λ e. cc) (λ e. cc)
said_after n words (SnapIs number) formed fits =
    let whole = formed.whole in said_of_saves n words _ number _ formed (numbers_are_stored.snap n words number (omega (arith, whole)))
said_after n words (LastSavedIs number) formed fits =
    let whole = formed.whole in said_of_saves n words _ number _ formed (numbers_are_stored.done n words number (omega (arith, whole)))
said_after n words (SaveIs page v) formed fits = said_of_saves n words _ _ _ formed (saves_are_stored.save n words page v formed.whole fits.0 fits.1)
said_after n words (ImageIs addr word) formed fits = said_of_saves n words _ _ _ formed (saves_are_stored.image n words addr word formed.whole fits)

-- ---- no entries

blank_save : (n : ℕ) (row : SaveRow) → save_word_in n (blank_whole n) row ≡ 0
unfolding save_word_in
blank_save n row = ⊎_elim
    (λ (e : is_save_row n row ≡ true).
    let short = save_place_of-lt (record { pages = n; checkpoints = true }) row refl ((is_save_row-decides n row).0 e) in
    rw e (get_or-replicate (saving_length n) (save_place_of n row) 0 0 (omega (arith, short))))
    (λ (e : is_save_row n row ≡ false). rw e refl)
    (cases_Bool (is_save_row n row))

blank_number : (n : ℕ) (row : Row) → IsRow n row → word_in n (blank_whole n) row ≡ 0
unfolding word_in
blank_number n row is =
    let short = place_of-lt n row is in
    rw ((is_row-decides n row).1 is) (get_or-replicate (saving_length n) (place_of n row) 0 0 (omega (arith, short)))

pub blank_whole_formed : (n : ℕ) → AreFormedSaves n (blank_whole n)
unfolding decode_save
blank_whole_formed n = record {
  whole = rw (length-replicate {A = ℕ} (saving_length n) 0) (omega arith);
  saves = λ page most. rw (blank_save n (SaveOf page)) refl;
}

pub blank_whole_says : (n : ℕ) → saves_of n (blank_whole n) ≡ blank_saves
unfolding saves_of decode_save
blank_whole_says n = same_saves _ _ (blank_number n SnapNumber tt) (blank_number n LastSaved tt)
    (fun_ext (λ page. rw (blank_save n (SaveOf page)) refl)) (fun_ext (λ addr. blank_save n (ImageOf addr)))
