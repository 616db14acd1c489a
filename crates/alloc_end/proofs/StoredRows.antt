-- What a store of an allocation does to the words of the heap, to page words, and to words that say that a page is new.
use Rattle.std.proofs.Common.{◌≡◌, ◌≢◌, ℕ, ◌+◌, ◌*◌, ◌^◌, ◌<◌, ◌≤◌, Bool, true, false, inl, inr, List, arith, refl, sym, ap, ◌∙◌}
use Rattle.std.proofs.lemmas.Bool.{cases_eq, cases_lt}
use Rattle.atom_store.specs.declared.step.Step.TheVariants.{Store}
use Rattle.atom_store.specs.Step.{words_after}
use Rattle.atom_store.proofs.StepWords.{slice_index-words_after, slice_index-stored}
use Rattle.space_map.specs.declared.page_word.PageWord.TheVariants.{Open}
use Rattle.space_map.specs.declared.save_word.SaveWord.TheVariants.{New}
use Rattle.space_map.specs.PageWord.{decode_page, encode_page}
use Rattle.space_map.specs.SaveWord.{decode_save, encode_save}
use Rattle.space_map.specs.Spaces.{Layout}
use Rattle.space_map.specs.Table.{Row, Page, HeapWord, SaveOf, IsRow, place_of, save_place_of}
use Rattle.space_map.specs.TableWords.{row_word, HoldsTable}
use Rattle.space_map.specs.WholeTable.{Behind, HoldsWhole, whole_word}
use Rattle.space_map.proofs.PageWords.{decode_page-encode_page}
use Rattle.space_map.proofs.Rows.{place_of-apart, place_of-lt, same_save_row, save_place_of-ge, save_place_of-lt}
use Rattle.space_map.proofs.SaveWords.{decode_save-encode_save}
use Rattle.alloc_end.specs.Soundness.{HasRoomToMark}
use Rattle.alloc_end.specs.Theorems.{AreZero, AreOpen, AreNew}

word_apart : (n a b : ℕ) → a ≢ b → place_of n (HeapWord a) ≢ place_of n (HeapWord b)
unfolding place_of
word_apart n a b apart same = apart (omega arith)

page_word_apart : (n page a : ℕ) → page ≤ 2 * n → a ≤ 128 * n + 63 → place_of n (Page page) ≢ place_of n (HeapWord a)
page_word_apart n page a is_page is_word = place_of-apart n (Page page) (HeapWord a) is_page is_word (λ same. cc)

page_apart : (n page other : ℕ) → page ≢ other → place_of n (Page page) ≢ place_of n (Page other)
unfolding place_of
page_apart n page other apart same = apart (omega arith)

-- after a store in a word of the heap its other words are what they were
pub other_word : (n a b value : ℕ) (before after : List ℕ) → after ≡ words_after (Store (place_of n (HeapWord b)) value) before → a ≢ b
    → row_word n (HeapWord a) after ≡ row_word n (HeapWord a) before
other_word n a b value before after makes apart =
    ap (row_word n (HeapWord a)) makes ∙ slice_index-words_after (Store (place_of n (HeapWord b)) value) before (place_of n (HeapWord a)) (word_apart n a b apart)

pub this_word : (n a value : ℕ) (before after : List ℕ) → HoldsTable n before → a ≤ 128 * n + 63
    → after ≡ words_after (Store (place_of n (HeapWord a)) value) before → row_word n (HeapWord a) after ≡ value
this_word n a value before after whole is_word makes =
    let inside = place_of-lt n (HeapWord a) is_word in
    ap (row_word n (HeapWord a)) makes ∙ slice_index-stored (place_of n (HeapWord a)) value before (omega (arith, inside, whole))

-- so do page words, and words of the heap after a store in a page word
page_stays : (n page b value : ℕ) (before after : List ℕ) → page ≤ 2 * n → b ≤ 128 * n + 63
    → after ≡ words_after (Store (place_of n (HeapWord b)) value) before → row_word n (Page page) after ≡ row_word n (Page page) before
page_stays n page b value before after is_page is_word makes =
    ap (row_word n (Page page)) makes
    ∙ slice_index-words_after (Store (place_of n (HeapWord b)) value) before (place_of n (Page page)) (page_word_apart n page b is_page is_word)

word_stays : (n a page value : ℕ) (before after : List ℕ) → page ≤ 2 * n → a ≤ 128 * n + 63
    → after ≡ words_after (Store (place_of n (Page page)) value) before → row_word n (HeapWord a) after ≡ row_word n (HeapWord a) before
word_stays n a page value before after is_page is_word makes =
    ap (row_word n (HeapWord a)) makes
    ∙ slice_index-words_after (Store (place_of n (Page page)) value) before (place_of n (HeapWord a)) (λ same. page_word_apart n page a is_page is_word (sym same))

other_page : (n page other value : ℕ) (before after : List ℕ) → after ≡ words_after (Store (place_of n (Page other)) value) before → page ≢ other
    → row_word n (Page page) after ≡ row_word n (Page page) before
other_page n page other value before after makes apart =
    ap (row_word n (Page page)) makes ∙ slice_index-words_after (Store (place_of n (Page other)) value) before (place_of n (Page page)) (page_apart n page other apart)

this_page : (n page value : ℕ) (before after : List ℕ) → HoldsTable n before → page ≤ 2 * n
    → after ≡ words_after (Store (place_of n (Page page)) value) before → row_word n (Page page) after ≡ value
this_page n page value before after whole is_page makes =
    let inside = place_of-lt n (Page page) is_page in
    ap (row_word n (Page page)) makes ∙ slice_index-stored (place_of n (Page page)) value before (omega (arith, inside, whole))

-- so do all rows that each table has, after a store behind them
pub row_before : (n page value : ℕ) (row : Row) (before after : List ℕ) → IsRow n row
    → after ≡ words_after (Store (save_place_of n (SaveOf page)) value) before → row_word n row after ≡ row_word n row before
row_before n page value row before after is makes =
    let inside = place_of-lt n row is in
    let behind = save_place_of-ge n (SaveOf page) in
    ap (row_word n row) makes
    ∙ slice_index-words_after (Store (save_place_of n (SaveOf page)) value) before (place_of n row) (λ same. omega (arith, inside, behind, same))

-- ---- zeros and open pages

pub zero_more : (n from next : ℕ) (before after : List ℕ) → HoldsTable n before → next ≤ 128 * n → AreZero n from next before
    → after ≡ words_after (Store (place_of n (HeapWord next)) 0) before → AreZero n from (next + 1) after
zero_more n from next before after whole below zero makes a low high =
    elim (cases_lt a next) [
      | inl earlier ↦ other_word n a next 0 before after makes (omega arith) ∙ zero a low earlier
      | inr later ↦ let here : a ≡ next = omega arith in rw here (this_word n next 0 before after whole (omega arith) makes)
    ]

pub zero_stays : (n from upto page value : ℕ) (before after : List ℕ) → page ≤ 2 * n → upto ≤ 128 * n → AreZero n from upto before
    → after ≡ words_after (Store (place_of n (Page page)) value) before → AreZero n from upto after
zero_stays n from upto page value before after is_page below zero makes a low high =
    word_stays n a page value before after is_page (omega arith) makes ∙ zero a low high

-- behind the word that is written
pub zero_behind : (n from behind at upto value : ℕ) (before after : List ℕ) → AreZero n from upto before → from ≤ behind → at < behind
    → after ≡ words_after (Store (place_of n (HeapWord at)) value) before → AreZero n behind upto after
zero_behind n from behind at upto value before after zero later past makes a low high =
    other_word n a at value before after makes (omega arith) ∙ zero a (omega arith) high

-- so they are, if 0 is stored in any word
pub zero_kept : (n from upto at : ℕ) (before after : List ℕ) → HoldsTable n before → at ≤ 128 * n → AreZero n from upto before
    → after ≡ words_after (Store (place_of n (HeapWord at)) 0) before → AreZero n from upto after
zero_kept n from upto at before after whole inside zero makes a low high =
    elim (cases_eq a at) [
      | inl here ↦ rw here (this_word n at 0 before after whole (omega (arith, inside)) makes)
      | inr apart ↦ other_word n a at 0 before after makes apart ∙ zero a low high
    ]

pub open_more : (n epoch from next : ℕ) (before after : List ℕ) → HoldsTable n before → next ≤ 2 * n → epoch < 2 ^ 32 → AreOpen n epoch from next before
    → after ≡ words_after (Store (place_of n (Page next)) (encode_page (Open epoch))) before → AreOpen n epoch from (next + 1) after
open_more n epoch from next before after whole below late opened makes page low high =
    elim (cases_lt page next) [
      | inl earlier ↦ ap decode_page (other_page n page next (encode_page (Open epoch)) before after makes (omega arith)) ∙ opened page low earlier
      | inr later ↦ let here : page ≡ next = omega arith in
          rw here (ap decode_page (this_page n next (encode_page (Open epoch)) before after whole below makes) ∙ decode_page-encode_page (Open epoch) late)
    ]

pub open_stays : (n epoch from upto a value : ℕ) (before after : List ℕ) → upto ≤ 2 * n → a ≤ 128 * n + 63 → AreOpen n epoch from upto before
    → after ≡ words_after (Store (place_of n (HeapWord a)) value) before → AreOpen n epoch from upto after
open_stays n epoch from upto a value before after below is_word opened makes page low high =
    ap decode_page (page_stays n page a value before after (omega arith) is_word makes) ∙ opened page low high

-- ---- pages marked as new

has_rows : (b : Bool) (snap : ℕ) → (b ≡ false → snap ≡ 0) → 0 < snap → b ≡ true
has_rows true snap none some = refl
has_rows false snap none some = absurd (let zero = none refl in omega (arith, zero, some))

-- that a page is new is stored
pub new_more : (l : Layout) (snap from next : ℕ) (before after : List ℕ) → HoldsWhole l before → HasRoomToMark l snap → 0 < snap → snap < 2 ^ 32 → next ≤ 2 * l.pages
    → AreNew l.pages snap from next before → after ≡ words_after (Store (save_place_of l.pages (SaveOf next)) (encode_save (New snap))) before
    → AreNew l.pages snap from (next + 1) after
new_more l snap from next before after whole room some few inside is makes page low high =
    elim (cases_lt page next) [
      | inl earlier ↦
          ap (λ ws. decode_save (whole_word l.pages (Behind (SaveOf page)) ws)) makes
          ∙ ap decode_save (slice_index-words_after (Store (save_place_of l.pages (SaveOf next)) (encode_save (New snap))) before (save_place_of l.pages (SaveOf page))
          (λ same. let e = same_save_row l.pages (SaveOf page) (SaveOf next) (omega (arith, inside, earlier)) inside same in absurd (other page next earlier e)))
          ∙ is page low earlier
      | inr later ↦
          let here : page ≡ next = omega (arith, later, high) in
          let holds = save_place_of-lt l (SaveOf next) (has_rows l.checkpoints snap room some) inside in
          rw here (ap (λ ws. decode_save (whole_word l.pages (Behind (SaveOf next)) ws)) makes
          ∙ ap decode_save (slice_index-stored (save_place_of l.pages (SaveOf next)) (encode_save (New snap)) before (omega (arith, holds, whole)))
          ∙ decode_save-encode_save (New snap) few)
    ]
  where
    other : (page next : ℕ) → page < next → SaveOf page ≡ SaveOf next → ⊥
    other page next earlier same = let e : page ≡ next = cc in omega (arith, earlier, e)

-- a page's own word is another
pub new_stays : (n snap from upto page value : ℕ) (before after : List ℕ) → page ≤ 2 * n → AreNew n snap from upto before
    → after ≡ words_after (Store (place_of n (Page page)) value) before → AreNew n snap from upto after
new_stays n snap from upto page value before after inside is makes other low high =
    let within = place_of-lt n (Page page) inside in
    let behind = save_place_of-ge n (SaveOf other) in
    ap (λ ws. decode_save (whole_word n (Behind (SaveOf other)) ws)) makes
    ∙ ap decode_save (slice_index-words_after (Store (place_of n (Page page)) value) before (save_place_of n (SaveOf other)) (λ same. omega (arith, within, behind, same)))
    ∙ is other low high
