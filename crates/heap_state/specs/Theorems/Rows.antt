-- What is proved of the table's rows.
use Rattle.std.specs.Prelude.{◌≡◌, ℕ, ◌+◌, ◌*◌, ◌^◌, ◌<◌, ◌≤◌, ⊤, List, slice_index, slice_set}
use Rattle.space_map.specs.declared.area_word.AreaWord.{AreaWord}
use Rattle.space_map.specs.declared.gate_word.GateWord.{GateWord}
use Rattle.space_map.specs.declared.page_word.PageWord.{PageWord}
use Rattle.space_map.specs.declared.spaces.TheConstants.{LAST_WORKER, PAGE_WORDS}
use Rattle.space_map.specs.AreaWord.{AreaFits, encode_area}
use Rattle.space_map.specs.GateWord.{GateFits, encode_gate}
use Rattle.space_map.specs.PageWord.{PageFits, encode_page}
use Rattle.space_map.specs.Table.{Row, Gate, Traced, Area, WeakHead, WeakTurn, Size, SnapNumber, LastSaved, Page, Cross, HeapWord, Announce, IsRow, place_of}
use Rattle.heap_state.specs.Memory.Entries.{WholeRow, Within, Behind, whole_place_of, IsWholeRow, Entry, row_of, word_of, EntryFits, with_entry, written, table_with, EachFits, HasSizes}
use Rattle.heap_state.specs.Memory.Era.{era_of, memory_of, from_space, IsLaidOut}
use Rattle.space_map.specs.Spaces.{to_space}
use Rattle.heap_state.specs.Functions.{put}
use Rattle.heap_state.specs.Memory.Table.{Table, table_of, word_in, IsFormed}

-- ---- loads

-- the word at a row's place is the one that the table is decoded from
abbrev pub ReadsRows : Type 0
ReadsRows = (n : ℕ) (words : List ℕ) (row : Row) → IsRow n row → slice_index words (place_of n row) ≡ word_in n words row

-- the shared words are those that spell what the table says
pub record SpellsTable (n : ℕ) (words : List ℕ) : Type 0 where
  pub gate : word_in n words Gate ≡ encode_gate (table_of n words).gate
  pub gate_fits : GateFits (table_of n words).gate
  pub areas : (space : ℕ) → word_in n words (Area space) ≡ encode_area ((table_of n words).area space)
  pub areas_fit : (space : ℕ) → space < 2 → AreaFits ((table_of n words).area space)
  pub sizes : (space : ℕ) → space < 2 → word_in n words (Size space) ≡ (table_of n words).in_use space
  pub pages : (p : ℕ) → p ≤ 2 * n → word_in n words (Page p) ≡ encode_page ((table_of n words).page p)
  pub pages_fit : (p : ℕ) → p ≤ 2 * n → PageFits ((table_of n words).page p)

abbrev pub SpellsShared : Type 0
SpellsShared = (n : ℕ) (words : List ℕ) → IsFormed n words → SpellsTable n words

-- ---- stores, one law a family of places

-- the words after a store in a row of the table, or behind it, and what they say
pub record Stored (n : ℕ) (words : List ℕ) (row : WholeRow) (word : ℕ) (t : Table) : Type 0 where
  pub formed : IsFormed n (slice_set words (whole_place_of n row) word)
  pub says : table_of n (slice_set words (whole_place_of n row) word) ≡ t

abbrev pub StoresGate : Type 0
StoresGate = (n : ℕ) (words : List ℕ) (gate : GateWord) → IsFormed n words → GateFits gate
    → Stored n words (Within Gate) (encode_gate gate) (record (table_of n words) { gate = gate })

abbrev pub StoresTraced : Type 0
StoresTraced = (n : ℕ) (words : List ℕ) (word : ℕ) → IsFormed n words
    → Stored n words (Within Traced) word (record (table_of n words) { traced = word })

abbrev pub StoresArea : Type 0
StoresArea = (n : ℕ) (words : List ℕ) (space : ℕ) (area : AreaWord) → IsFormed n words → space < 2 → AreaFits area
    → Stored n words (Within (Area space)) (encode_area area) (record (table_of n words) { area = put (table_of n words).area space area })

abbrev pub StoresWeak : Type 0
StoresWeak = (n : ℕ) (words : List ℕ) (word : ℕ) → IsFormed n words
    → word < 2 ^ 62 → Stored n words (Within WeakHead) word (record (table_of n words) { weak = word })

abbrev pub StoresWeakTurn : Type 0
StoresWeakTurn = (n : ℕ) (words : List ℕ) (word : ℕ) → IsFormed n words
    → Stored n words (Within WeakTurn) word (record (table_of n words) { weak_turn = word })

abbrev pub StoresSize : Type 0
StoresSize = (n : ℕ) (words : List ℕ) (space pages : ℕ) → IsFormed n words → space < 2 → 4 ≤ pages → pages ≤ n
    → Stored n words (Within (Size space)) pages (record (table_of n words) { in_use = put (table_of n words).in_use space pages })

abbrev pub StoresPage : Type 0
StoresPage = (n : ℕ) (words : List ℕ) (p : ℕ) (page : PageWord) → IsFormed n words → p ≤ 2 * n → PageFits page
    → Stored n words (Within (Page p)) (encode_page page) (record (table_of n words) { page = put (table_of n words).page p page })

abbrev pub StoresCross : Type 0
StoresCross = (n : ℕ) (words : List ℕ) (p word : ℕ) → IsFormed n words → p < 2 * n
    → Stored n words (Within (Cross p)) word (record (table_of n words) { cross = put (table_of n words).cross p word })

abbrev pub StoresHeapWord : Type 0
StoresHeapWord = (n : ℕ) (words : List ℕ) (addr word : ℕ) → IsFormed n words → addr ≤ 128 * n + 63
    → Stored n words (Within (HeapWord addr)) word (record (table_of n words) { heap = put (table_of n words).heap addr word })

abbrev pub StoresAnnounce : Type 0
StoresAnnounce = (n : ℕ) (words : List ℕ) (worker word : ℕ) → IsFormed n words → worker ≤ LAST_WORKER
    → Stored n words (Within (Announce worker)) word (record (table_of n words) { announced = put (table_of n words).announced worker word })

-- the rows of checkpoints, which the decoded table doesn't show
abbrev pub IsOfCheckpoints : WholeRow → Type 0
IsOfCheckpoints (Within SnapNumber) = ⊤
IsOfCheckpoints (Within LastSaved) = ⊤
IsOfCheckpoints (Within row) = ⊥
IsOfCheckpoints (Behind row) = ⊤

-- a store in one of them changes nothing that the table says
abbrev pub StoresBeside : Type 0
StoresBeside = (n : ℕ) (words : List ℕ) (row : WholeRow) (word : ℕ) → IsFormed n words → IsOfCheckpoints row → IsWholeRow n row
    → Stored n words row word (table_of n words)

-- ---- what the epoch sees of them

-- a store of the area of the epoch's space, and one of the old space's area
pub record AreaSeen (t : Table) (v : AreaWord) : Type 0 where
  pub now : memory_of (record t { area = put t.area (to_space t.gate.epoch) v })
      ≡ record (memory_of t) { front = (era_of t).start + v.front; low = (era_of t).start + v.low; owed = v.owed }
  pub old : memory_of (record t { area = put t.area (from_space t.gate.epoch) v })
      ≡ record (memory_of t) { old_front = (era_of t).old_start + v.front; old_low = (era_of t).old_start + v.low; old_owed = v.owed }

-- a store of the old space's size
pub record SizeSeen (t : Table) (pages : ℕ) : Type 0 where
  pub memory : memory_of (record t { in_use = put t.in_use (from_space t.gate.epoch) pages }) ≡ memory_of t
  pub era : era_of (record t { in_use = put t.in_use (from_space t.gate.epoch) pages }) ≡ record (era_of t) { old_span = PAGE_WORDS * pages }

-- a flip: the spaces change places
pub record FlipSeen (t : Table) (gate : GateWord) : Type 0 where
  pub memory : memory_of (record t { gate = gate })
      ≡ record (memory_of t) {
        gate = gate;
        front = (memory_of t).old_front;
        low = (memory_of t).old_low;
        owed = (memory_of t).old_owed;
        old_front = (memory_of t).front;
        old_low = (memory_of t).low;
        old_owed = (memory_of t).owed;
      }
  pub era : era_of (record t { gate = gate })
      ≡ record { epoch = gate.epoch; start = (era_of t).old_start; span = (era_of t).old_span; old_start = (era_of t).start; old_span = (era_of t).span; board = (era_of t).board }

-- the memory and the era that a table has follow it
pub record MemoryFollows : Type 0 where
  pub area : (t : Table) (v : AreaWord) → AreaSeen t v
  pub flip : (t : Table) (gate : GateWord) → gate.epoch ≡ t.gate.epoch + 1 → FlipSeen t gate
  pub size : (t : Table) (pages : ℕ) → SizeSeen t pages
  pub laid_out : (n : ℕ) (words : List ℕ) → IsFormed n words → IsLaidOut (era_of (table_of n words))

-- ---- tables from entries

-- a row written with what it says
abbrev pub StoresEntry : Type 0
StoresEntry = (n : ℕ) (words : List ℕ) (e : Entry) → IsFormed n words → EntryFits n e
    → Stored n words (row_of e) (word_of e) (with_entry e (table_of n words))

-- the words of a table that was written from these entries
pub record Written (n : ℕ) (entries : List Entry) : Type 0 where
  pub formed : IsFormed n (written n entries)
  pub says : table_of n (written n entries) ≡ table_with n entries

abbrev pub WritesTables : Type 0
WritesTables = (n : ℕ) (entries : List Entry) → EachFits n entries → HasSizes entries → Written n entries
