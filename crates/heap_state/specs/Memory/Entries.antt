-- Rows of the table with what they say, and tables written from a list of these.
use Rattle.std.specs.Prelude.{Contains, ℕ, ◌*◌, ◌^◌, ◌<◌, ◌≤◌, ⊤, false, List, [], ◌∷◌, replicate, slice_index, slice_set}
use Rattle.space_map.specs.declared.area_word.AreaWord.{AreaWord}
use Rattle.space_map.specs.declared.gate_word.GateWord.{GateWord}
use Rattle.space_map.specs.declared.page_word.PageWord.{PageWord}
use Rattle.space_map.specs.declared.page_word.PageWord.TheVariants.{Unset}
use Rattle.space_map.specs.declared.save_word.SaveWord.{SaveWord}
use Rattle.space_map.specs.AreaWord.{AreaFits, encode_area}
use Rattle.space_map.specs.GateWord.{GateFits, encode_gate}
use Rattle.space_map.specs.PageWord.{PageFits, encode_page}
use Rattle.space_map.specs.SaveWord.{SaveFits, encode_save}
use Rattle.space_map.specs.Table.{Gate, Traced, Area, WeakHead, WeakTurn, Size, SnapNumber, LastSaved, Page, Cross, HeapWord, Announce, SaveOf, ImageOf, IsRow, IsSaveRow, save_place_of, table_length}
pub use Rattle.space_map.specs.WholeTable.{WholeRow, Within, Behind, IsWholeRow, whole_place_of}
use Rattle.heap_state.specs.Functions.{put}
use Rattle.heap_state.specs.Memory.Table.{Table, word_in}

-- the word in a row of either kind
abbrev pub word_in_whole : ℕ → List ℕ → WholeRow → ℕ
word_in_whole n words (Within row) = word_in n words row
word_in_whole n words (Behind row) = slice_index words (save_place_of n row)

-- ---- entries

-- a row and what it says
pub data Entry : Type 0 where
  GateIs : GateWord → Entry
  TracedIs : ℕ → Entry
  AreaIs : (space : ℕ) → AreaWord → Entry
  WeakIs : (word : ℕ) → Entry
  WeakTurnIs : (word : ℕ) → Entry
  SizeIs : (space pages : ℕ) → Entry
  PageIs : (page : ℕ) → PageWord → Entry
  CrossIs : (page place : ℕ) → Entry
  WordIs : (addr word : ℕ) → Entry
  AnnounceIs : (worker place : ℕ) → Entry
  SnapIs : (number : ℕ) → Entry
  LastSavedIs : (number : ℕ) → Entry
  SaveIs : (page : ℕ) → SaveWord → Entry
  ImageIs : (addr word : ℕ) → Entry

abbrev pub row_of : Entry → WholeRow
row_of (GateIs gate) = Within Gate
row_of (TracedIs word) = Within Traced
row_of (AreaIs space area) = Within (Area space)
row_of (WeakIs word) = Within WeakHead
row_of (WeakTurnIs word) = Within WeakTurn
row_of (SizeIs space pages) = Within (Size space)
row_of (PageIs page word) = Within (Page page)
row_of (CrossIs page place) = Within (Cross page)
row_of (WordIs addr word) = Within (HeapWord addr)
row_of (AnnounceIs worker place) = Within (Announce worker)
row_of (SnapIs number) = Within SnapNumber
row_of (LastSavedIs number) = Within LastSaved
row_of (SaveIs page word) = Behind (SaveOf page)
row_of (ImageIs addr word) = Behind (ImageOf addr)

-- the word that says it
abbrev pub word_of : Entry → ℕ
word_of (GateIs gate) = encode_gate gate
word_of (TracedIs word) = word
word_of (AreaIs space area) = encode_area area
word_of (WeakIs word) = word
word_of (WeakTurnIs word) = word
word_of (SizeIs space pages) = pages
word_of (PageIs page word) = encode_page word
word_of (CrossIs page place) = place
word_of (WordIs addr word) = word
word_of (AnnounceIs worker place) = place
word_of (SnapIs number) = number
word_of (LastSavedIs number) = number
word_of (SaveIs page word) = encode_save word
word_of (ImageIs addr word) = word

-- its parts fit the word, and the table has the row, or has it if there is room for checkpoints
abbrev pub EntryFits : ℕ → Entry → Type 0
EntryFits n (GateIs gate) = GateFits gate
EntryFits n (TracedIs word) = ⊤
EntryFits n (AreaIs space area) = (space < 2) × AreaFits area
EntryFits n (WeakIs word) = word < 2 ^ 62
EntryFits n (WeakTurnIs word) = ⊤
EntryFits n (SizeIs space pages) = (space < 2) × (4 ≤ pages) × (pages ≤ n)
EntryFits n (PageIs page word) = (page ≤ 2 * n) × PageFits word
EntryFits n (CrossIs page place) = IsRow n (Cross page)
EntryFits n (WordIs addr word) = IsRow n (HeapWord addr)
EntryFits n (AnnounceIs worker place) = IsRow n (Announce worker)
EntryFits n (SnapIs number) = ⊤
EntryFits n (LastSavedIs number) = ⊤
EntryFits n (SaveIs page word) = IsSaveRow n (SaveOf page) × SaveFits word
EntryFits n (ImageIs addr word) = IsSaveRow n (ImageOf addr)

-- The table where the row says it. The rows of checkpoints are no part of what is decoded.
abbrev pub with_entry : Entry → Table → Table
with_entry (GateIs gate) t = record t { gate = gate }
with_entry (TracedIs word) t = record t { traced = word }
with_entry (AreaIs space area) t = record t { area = put t.area space area }
with_entry (WeakIs word) t = record t { weak = word }
with_entry (WeakTurnIs word) t = record t { weak_turn = word }
with_entry (SizeIs space pages) t = record t { in_use = put t.in_use space pages }
with_entry (PageIs page word) t = record t { page = put t.page page word }
with_entry (CrossIs page place) t = record t { cross = put t.cross page place }
with_entry (WordIs addr word) t = record t { heap = put t.heap addr word }
with_entry (AnnounceIs worker place) t = record t { announced = put t.announced worker place }
with_entry (SnapIs number) t = t
with_entry (LastSavedIs number) t = t
with_entry (SaveIs page word) t = t
with_entry (ImageIs addr word) t = t

-- ---- whole tables

-- the words of a table, all 0
abbrev pub blank_words : ℕ → List ℕ
blank_words n = replicate (table_length n) 0

-- what they say
abbrev pub blank_table : ℕ → Table
blank_table n = record {
  pages = n;
  in_use = λ space. 0;
  gate = record { epoch = 0; live = 0; running = 0; behind = 0; request = false; left = 0 };
  traced = 0;
  area = λ space. record { front = 0; low = 0; owed = 0 };
  weak = 0;
  weak_turn = 0;
  page = λ page. Unset;
  cross = λ page. 0;
  heap = λ addr. 0;
  announced = λ worker. 0;
}

-- the words after these rows were written, the last of the list first
abbrev pub written : ℕ → List Entry → List ℕ
written n [] = blank_words n
written n (e ∷ entries) = slice_set (written n entries) (whole_place_of n (row_of e)) (word_of e)

-- the table after that
abbrev pub table_with : ℕ → List Entry → Table
table_with n [] = blank_table n
table_with n (e ∷ entries) = with_entry e (table_with n entries)

-- each entry fits
abbrev pub EachFits : ℕ → List Entry → Type 0
EachFits n [] = ⊤
EachFits n (e ∷ entries) = EntryFits n e × EachFits n entries

-- the sizes of both spaces are among them
pub record HasSizes (entries : List Entry) : Type 0 where
  pub first : (pages : ℕ) × Contains entries (SizeIs 0 pages)
  pub second : (pages : ℕ) × Contains entries (SizeIs 1 pages)
