-- The table of the heap's words, decoded.
use Rattle.std.specs.Prelude.{◌≡◌, ℕ, ◌^◌, ◌<◌, ◌≤◌, ⊤, List, length, Some, unwrap_or, slice_index, if◌then◌else◌}
use Rattle.space_map.specs.declared.area_word.AreaWord.{AreaWord}
use Rattle.space_map.specs.declared.gate_word.GateWord.{GateWord}
use Rattle.space_map.specs.declared.page_word.PageWord.{PageWord}
use Rattle.space_map.specs.declared.page_word.PageWord.TheVariants.{Unset}
use Rattle.space_map.specs.AreaWord.{area_in}
use Rattle.space_map.specs.GateWord.{gate_in}
use Rattle.space_map.specs.PageWord.{decode_page}
use Rattle.space_map.specs.Table.{Row, Gate, Traced, Area, WeakHead, WeakTurn, Size, Page, Cross, HeapWord, Announce, IsRow, place_of, table_length}
pub use Rattle.space_map.specs.Table.{is_row}

-- ---- one word

-- the word in a row of the table, or 0 where the table has no such row
unfoldable pub word_in : ℕ → List ℕ → Row → ℕ
word_in n words row = if is_row n row then slice_index words (place_of n row) else 0

-- a page's word; one that is no page word says nothing
abbrev pub page_word_in : ℕ → PageWord
page_word_in w = unwrap_or (decode_page w) Unset

-- the word has no bit that the format of its row doesn't have; a row without a format has any word
abbrev pub HasForm : Row → ℕ → Type 0
HasForm Gate word = word < 2 ^ 62
HasForm (Area space) word = word < 2 ^ 54
HasForm (Page page) word = decode_page word ≡ Some (page_word_in word)
HasForm WeakHead word = word < 2 ^ 62
HasForm row word = ⊤

-- ---- the table

-- The table: the pages that each space may have and those that it has in use, the gate, TRACED, each space's area word,
-- the head of the chain of copied cells and the turn to walk it, each page's word and crossing, each word of the heap, and
-- the place that each worker announces, and one more.
pub record Table : Type 0 where
  pub pages : ℕ
  pub in_use : ℕ → ℕ
  pub gate : GateWord
  pub traced : ℕ
  pub area : ℕ → AreaWord
  pub weak : ℕ
  pub weak_turn : ℕ
  pub page : ℕ → PageWord
  pub cross : ℕ → ℕ
  pub heap : ℕ → ℕ
  pub announced : ℕ → ℕ

-- what the words of its rows say, with n pages a space
abbrev pub table_by : ℕ → (Row → ℕ) → Table
table_by n word = record {
  pages = n;
  in_use = λ space. word (Size space);
  gate = gate_in (word Gate);
  traced = word Traced;
  area = λ space. area_in (word (Area space));
  weak = word WeakHead;
  weak_turn = word WeakTurn;
  page = λ page. page_word_in (word (Page page));
  cross = λ page. word (Cross page);
  heap = λ addr. word (HeapWord addr);
  announced = λ worker. word (Announce worker);
}

-- what the words of a table say
unfoldable pub table_of : ℕ → List ℕ → Table
table_of n words = table_by n (word_in n words)

-- The words hold a whole table, and each can be read: it has the form of its row. Of the pages that a space may have at least four
-- are in use. Words behind the table are no part of it.
pub record IsFormed (n : ℕ) (words : List ℕ) : Type 0 where
  pub whole : table_length n ≤ length words
  pub rows : (row : Row) → IsRow n row → HasForm row (word_in n words row)
  pub sizes : (space : ℕ) → space < 2 → (4 ≤ word_in n words (Size space)) × (word_in n words (Size space) ≤ n)
