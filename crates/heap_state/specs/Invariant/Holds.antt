-- The invariant of the collected heap, by its words and workers alone.
use Rattle.std.specs.Prelude.{◌≡◌, ◌≢◌, ℕ, ◌+◌, ◌<◌, ◌≤◌, ◌⊎◌, true, false, Contains, Some, None, slice_get}
use Rattle.plain_state.specs.declared.kind.Kind.{Kind}
use Rattle.heap_words.specs.Decoded.{HeaderWord, BusyWord, decode}
use Rattle.heap_words.specs.declared.kind.Kind.{Kind as HeaderKind}
use Rattle.space_map.specs.declared.page_word.PageWord.TheVariants.{Open, Scanning}
use Rattle.space_map.specs.PageWord.{age_of}
use Rattle.heap_state.specs.Configuration.{Configuration, table, era, memory, team}
use Rattle.heap_state.specs.Invariant.Ghost.{Leads, OnBoard}
use Rattle.heap_state.specs.Invariant.HoldsOfCells.{CellsHold}
use Rattle.heap_state.specs.Invariant.Parts.Gate.{Counted}
use Rattle.heap_state.specs.Meaning.Dump.{dump_of}
use Rattle.heap_state.specs.Kept.{kept_of}
use Rattle.heap_state.specs.Meaning.Represents.{IsCopying, IsInHeap, IsOwn, IsFieldOf}
use Rattle.heap_state.specs.Sums.{uncopied}
use Rattle.heap_state.specs.Memory.Walk.{Walked, walk_of, old_walk_of, CrossingsHold}
use Rattle.heap_state.specs.Known.{Known, Stopped, Stock, IsNotAhead, Copy, Scan, Claim, is_mutator, is_live, is_late}
use Rattle.space_map.specs.Spaces.{page_of, first_word}
use Rattle.space_map.specs.declared.spaces.TheConstants.{PAGE_WORDS}

-- the worker at a number below the count
abbrev pub worker_of : Configuration → ℕ → Known
worker_of c k = (team c).worker k

-- ---- what the parts speak of

-- a field of a record in the walk of the epoch's space, at this address
pub record IsWalkedField (c : Configuration) (x : ℕ) : Type 0 where
  pub of : Walked
  pub kind : Kind
  pub len : ℕ
  pub serial : ℕ
  pub mutator : ℕ
  pub i : ℕ
  pub walked : Contains (walk_of c) of
  pub own : IsOwn (dump_of c) of kind len serial mutator
  pub field : IsFieldOf of kind i
  pub at : x ≡ of.at + i

-- the address is a word of the place that the worker has reserved and not published yet
pub record IsReserved (c : Configuration) (k x : ℕ) : Type 0 where
  pub copy : Copy
  pub copies : (worker_of c k).copy ≡ Some copy
  pub reserved : copy.reserved ≡ true
  pub inside : (copy.to ≤ x) × (x < copy.to + copy.size)

-- the worker keeps a header of this length for the record at the place, and copies as many words
pub record KeepsHeader (c : Configuration) (k len a : ℕ) : Type 0 where
  pub below : k < (team c).count
  pub copy : Copy
  pub copies : (worker_of c k).copy ≡ Some copy
  pub from : copy.from ≡ a
  pub size : copy.size ≡ len + 1
  pub head : HeaderKind
  pub serial : ℕ
  pub mutator : ℕ
  pub header : decode copy.header ≡ HeaderWord head len serial mutator

-- ---- the parts

-- The gate counts its mutators. Each live one is of this epoch or of the one before; one of the epoch before is stopped, and
-- the gate counts it as behind. No worker is of a later epoch.
pub record GateHolds (c : Configuration) : Type 0 where
  pub counted : Counted (memory c).gate (team c).count (team c).worker
  pub past : (k : ℕ) → k < (team c).count → (worker_of c k).epoch ≤ (era c).epoch
  pub live : (k : ℕ) → k < (team c).count → is_live (worker_of c k).post ≡ true
      → ((worker_of c k).epoch ≡ (era c).epoch) ⊎ ((worker_of c k).epoch + 1 ≡ (era c).epoch)
  pub late : (k : ℕ) → k < (team c).count → is_live (worker_of c k).post ≡ true → (worker_of c k).epoch + 1 ≡ (era c).epoch
      → ((worker_of c k).post ≡ Stopped) × (0 < (memory c).gate.behind)

-- A header is kept by the worker that its place names, and by no other. Each reserved place is announced by its worker.
pub record HeadersHold (c : Configuration) : Type 0 where
  pub kept : (w : Walked) (len k : ℕ) → IsInHeap (dump_of c) w → decode ((table c).heap w.at) ≡ BusyWord len k → KeepsHeader c k len w.at
  pub alone : (w : Walked) (len k other : ℕ) (copy : Copy) → IsInHeap (dump_of c) w → decode ((table c).heap w.at) ≡ BusyWord len k
      → other < (team c).count → (worker_of c other).copy ≡ Some copy → copy.from ≡ w.at → other ≡ k
  pub announced : (k : ℕ) (copy : Copy) → k < (team c).count → (worker_of c k).copy ≡ Some copy → copy.reserved ≡ true
      → (memory c).announced k ≡ copy.to + 1

-- On an open page no field leads into the old space, and no register does but of a mutator that is behind. TRACED is at most
-- the epoch and one more. If the epoch is traced nothing leads into the old space, and nobody is behind.
pub record AccessHolds (c : Configuration) : Type 0 where
  pub opened : (x : ℕ) → IsWalkedField c x ⊎ OnBoard (era c) x → (memory c).page (page_of x) ≡ Open (era c).epoch → ¬ (Leads (era c) ((memory c).heap x))
  pub registers : (k j : ℕ) → k < (team c).count → is_mutator (worker_of c k).post ≡ true → (worker_of c k).account.end ≡ None
      → is_late (era c).epoch (worker_of c k) ≡ false → j < 8 → ¬ (Leads (era c) ((worker_of c k).registers j))
  pub top : (memory c).traced ≤ (era c).epoch + 1
  pub traced : (memory c).traced ≡ (era c).epoch + 1 → (x : ℕ) → IsWalkedField c x ⊎ OnBoard (era c) x → ¬ (Leads (era c) ((memory c).heap x))
  pub none : (memory c).traced ≡ (era c).epoch + 1 → (memory c).gate.behind ≡ 0

-- while the epoch is not traced there is room for what is owed, and the records of the old space still to be copied are at most
-- that
pub record RoomHolds (c : Configuration) : Type 0 where
  pub order : (memory c).front ≤ (memory c).low
  pub fits : IsCopying (table c) → (memory c).front + (memory c).owed ≤ (memory c).low
  pub enough : IsCopying (table c) → uncopied c (old_walk_of c) ≤ (memory c).owed

-- Of each space as many pages are in use as the heap may have, or fewer, and no fewer than four. While the epoch is not traced, the old
-- space is no larger than the epoch's.
pub record SizesHold (c : Configuration) : Type 0 where
  pub least : (space : ℕ) → space < 2 → 4 ≤ (table c).in_use space
  pub most : (space : ℕ) → space < 2 → (table c).in_use space ≤ c.pages
  pub below : IsCopying (table c) → (era c).old_span ≤ (era c).span

-- a page whose first word is copied has the place of the record over that word as its crossing
abbrev pub CrossingHolds : Configuration → Type 0
CrossingHolds c = CrossingsHold (table c) (kept_of c.workers)

-- A page's word says that a worker scans it exactly if that worker does. What it has passed leads to no old record. No page's
-- word is of a later epoch. If the epoch is traced, as the first one always is, the board and all copied pages are open. Who is
-- about to claim a page in this epoch knows it as full, as the board, or as one that was the filling page. Who is of a past epoch
-- and has read the gate again, as it does before each exchange, finds a word of that epoch or a later one there. On a page that a
-- worker scans no other worker has a reserved place.
pub record ClaimsHold (c : Configuration) : Type 0 where
  pub scanned : (p k : ℕ) → (memory c).page p ≡ Scanning (era c).epoch k → (k < (team c).count) × ((s : Scan) × ((worker_of c k).scan ≡ Some s) × (s.page ≡ p))
  pub scans : (k : ℕ) (s : Scan) → k < (team c).count → (worker_of c k).scan ≡ Some s → (memory c).page s.page ≡ Scanning (era c).epoch k
  pub passed : (k : ℕ) (s : Scan) (x : ℕ) → k < (team c).count → (worker_of c k).scan ≡ Some s → IsWalkedField c x ⊎ OnBoard (era c) x → page_of x ≡ s.page → x < s.cursor
      → ¬ (Leads (era c) ((memory c).heap x))
  pub young : (p : ℕ) → age_of ((memory c).page p) ≤ (era c).epoch + 1
  pub board : (memory c).traced ≡ (era c).epoch + 1 → (memory c).page (page_of (era c).board) ≡ Open (era c).epoch
  pub first : (era c).epoch ≡ 0 → (memory c).page (page_of (era c).board) ≡ Open 0
  pub copied : (memory c).traced ≡ (era c).epoch + 1 → (p : ℕ) → (era c).start ≤ first_word p → first_word p < (memory c).front → (memory c).page p ≡ Open (era c).epoch
  pub knows : (k : ℕ) (q : Claim) → k < (team c).count → (worker_of c k).claim ≡ Some q → (worker_of c k).epoch ≡ (era c).epoch
      → (q.page ≡ page_of (era c).board)
      ⊎ (((era c).start ≤ first_word q.page) × (first_word q.page < (memory c).front) × ((q.in_place ≡ true) ⊎ (first_word q.page + PAGE_WORDS ≤ (memory c).front)))
  pub late : (k : ℕ) (q : Claim) → k < (team c).count → (worker_of c k).claim ≡ Some q → q.sure ≡ true → (worker_of c k).epoch < (era c).epoch
      → (worker_of c k).epoch + 1 ≤ age_of ((memory c).page q.page)
  pub alone : (p j k x : ℕ) → k < (team c).count → (memory c).page p ≡ Scanning (era c).epoch j → IsReserved c k x → page_of x ≡ p → j ≡ k

-- No walked record has a word between FRONT and LOW. The words that a mutator has claimed in this epoch for new records lie
-- from LOW up, and no two mutators have one in common. From its place on these words are 0 as far as it has stored zeros, and
-- as far as it has opened their pages, but for the words that it has stored ahead of a record's header, which are as it stored
-- them.
pub record FreeHolds (c : Configuration) : Type 0 where
  pub walked : (w : Walked) → Contains (walk_of c) w → (w.at + w.size ≤ (memory c).front) ⊎ ((memory c).low ≤ w.at)
  pub above : (k : ℕ) (q : Stock) → k < (team c).count → (worker_of c k).stock ≡ Some q → q.epoch ≡ (era c).epoch → (memory c).low ≤ q.at
  pub apart : (j k : ℕ) (p q : Stock) → j < (team c).count → k < (team c).count → j ≢ k → (worker_of c j).stock ≡ Some p → (worker_of c k).stock ≡ Some q
      → p.epoch ≡ (era c).epoch → q.epoch ≡ (era c).epoch → (p.end ≤ q.at) ⊎ (q.end ≤ p.at)
  pub zeros : (k : ℕ) (q : Stock) (x : ℕ) → k < (team c).count → (worker_of c k).stock ≡ Some q → q.epoch ≡ (era c).epoch → q.at ≤ x → (x < q.zeroed) ⊎ (x < q.opened)
      → IsNotAhead q x → (memory c).heap x ≡ 0
  pub ahead : (k : ℕ) (q : Stock) (i w : ℕ) → k < (team c).count → (worker_of c k).stock ≡ Some q → q.epoch ≡ (era c).epoch → slice_get q.ahead i ≡ Some w
      → (memory c).heap (q.at + 1 + i) ≡ w

-- the invariant
pub record Holds (c : Configuration) : Type 0 where
  pub gate : GateHolds c
  pub headers : HeadersHold c
  pub access : AccessHolds c
  pub room : RoomHolds c
  pub sizes : SizesHold c
  pub crossing : CrossingHolds c
  pub claims : ClaimsHold c
  pub free : FreeHolds c
  pub cells : CellsHold c
