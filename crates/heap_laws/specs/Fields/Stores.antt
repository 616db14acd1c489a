-- One step of a running mutator that is one of the plain machine: it stores nothing, or in a record, on the board, or a new
-- record's header; or it begins a checkpoint.
use Rattle.plain_state.specs.declared.value.Identity.{Identity}
use Rattle.std.specs.Prelude.{◌≡◌, ℕ, ◌+◌, ◌-◌, ◌*◌, ◌<◌, true, Some, None, [], slice_get, slice_set}
use Rattle.heap_words.specs.Decoded.{PointerWord, decode}
use Rattle.plain_state.specs.declared.end.End.{End}
use Rattle.plain_state.specs.declared.end.End.TheVariants.{HeapFull}
use Rattle.plain_state.specs.declared.value.Value.TheVariants.{Reference}
use Rattle.plain_state.specs.declared.kind.Kind.{Kind}
use Rattle.plain_state.specs.declared.kind.Kind.TheVariants.{Weak}
use Rattle.plain_state.specs.declared.value.Value.{Value}
use Rattle.plain_state.specs.Cells.{value_of_cell}
use Rattle.plain_state.specs.State as plain
use Rattle.plain_state.specs.Writing.{with_heap, stored, with_board, gained, took}
use Rattle.plain_state.specs.Layout.{word_of_value}
use Rattle.space_map.specs.declared.area_word.AreaWord.{AreaWord}
use Rattle.space_map.specs.declared.page_word.PageWord.TheVariants.{Open}
use Rattle.heap_state.specs.Memory.Entries.{WordIs}
use Rattle.heap_state.specs.Memory.Era.{Era, Memory}
use Rattle.heap_state.specs.Invariant.Ghost.{Ghost}
use Rattle.heap_state.specs.Meaning.Values.{Shown, Shows, Accounts, RegistersShow, value_of}
use Rattle.heap_state.specs.Known.{Known, Team, Stock, is_running}
use Rattle.heap_state.specs.Functions.{put}
use Rattle.heap_laws.specs.Allocation.Stocks.{SeesRoom}
use Rattle.heap_laws.specs.Fields.Words.{IsWordOf, MayStore, StandsFor}
use Rattle.heap_laws.specs.Fields.Held.{with_mutator, HoldsValue, MutatorGoesOn}
use Rattle.heap_laws.specs.Allocation.Records.{PlacesNext, allocated, next_identity}
use Rattle.heap_laws.specs.Steps.{Ready, IsAreaNow, StepsTo, Steps}
use Rattle.space_map.specs.Spaces.{page_of}
use Rattle.space_map.specs.declared.spaces.TheConstants.{PAGE_WORDS}

-- the worker has what the plain mutator has, with this plain heap
pub record IsAs (g : Ghost) (heap : plain.Heap) (k : ℕ) (w : Known) (q : plain.Mutator) : Type 0 where
  pub account : Accounts heap k w.account q
  pub registers : RegistersShow (value_of g.identity) w.registers q

-- ---- the steps

-- a running mutator learns something, and its account and registers stay: a load that is no step of the plain machine
abbrev pub MutatorsLearn : Type 0
MutatorsLearn = (E : Era) (m : Memory) (team : Team) (g : Ghost) (k : ℕ) (next : Known) → Ready E m team g k
    → is_running (team.worker k).post ≡ true → MutatorGoesOn E m g (team.worker k) next → next.account ≡ (team.worker k).account → next.registers ≡ (team.worker k).registers
    → Steps E m team g k None next g

-- nothing is stored: mutator k of the plain state is the next one
abbrev pub MutatorsStep : Type 0
MutatorsStep = (E : Era) (m : Memory) (team : Team) (g : Ghost) (p : plain.Plain) (k : ℕ) (next : Known) (q : plain.Mutator) → Ready E m team g k
    → is_running (team.worker k).post ≡ true → Shown E m team g p → MutatorGoesOn E m g (team.worker k) next → IsAs g p.heap k next q
    → StepsTo E m team g k None next g (with_mutator p k q)

-- a store in a word of a record that is no cell, and whose page is open: the plain heap changes at that word
abbrev pub MutatorsStore : Type 0
MutatorsStore = (E : Era) (m : Memory) (team : Team) (g : Ghost) (p : plain.Plain) (k : ℕ) (next : Known) (q : plain.Mutator) (a x v : ℕ) (r : plain.Record) (y : Value)
    → Ready E m team g k → is_running (team.worker k).post ≡ true → Shown E m team g p → ¬ (g.kind a ≡ Weak)
    → IsWordOf E g.size g.writer g.kind a x → m.page (page_of (a + word_of_value (g.kind a) x)) ≡ Open E.epoch → MayStore E g.size g.writer (g.kind a) x v
    → plain.record_of p.heap (g.identity a) ≡ Some r → StandsFor g (g.kind a) x v y
    → MutatorGoesOn E m g (team.worker k) next → IsAs g p.heap k next q
    → StepsTo E m team g k (Some (WordIs (a + word_of_value (g.kind a) x) v)) next g (with_mutator (with_heap p (stored p.heap (g.identity a) r x y)) k q)

-- a store on the open board: the plain board changes at that word
abbrev pub MutatorsStoreOnBoard : Type 0
MutatorsStoreOnBoard = (E : Era) (m : Memory) (team : Team) (g : Ghost) (p : plain.Plain) (k : ℕ) (next : Known) (q : plain.Mutator) (x v : ℕ) (y : Value)
    → Ready E m team g k → is_running (team.worker k).post ≡ true → Shown E m team g p
    → x < 16 → m.page (page_of E.board) ≡ Open E.epoch → HoldsValue E g v y
    → MutatorGoesOn E m g (team.worker k) next → IsAs g p.heap k next q
    → StepsTo E m team g k (Some (WordIs (E.board + x) v)) next g (with_mutator (with_heap p (with_board p.heap x y)) k q)

-- a checkpoint is begun, and no row changes: the plain heap keeps its board and its records, and these stay as they are
abbrev pub MutatorsSnap : Type 0
MutatorsSnap = (E : Era) (m : Memory) (team : Team) (g : Ghost) (p : plain.Plain) (k : ℕ) (next : Known) (q : plain.Mutator) → Ready E m team g k
    → is_running (team.worker k).post ≡ true → Shown E m team g p → MutatorGoesOn E m g (team.worker k) next → IsAs g p.heap k next q
    → StepsTo E m team g k None next g (with_mutator (with_heap p (took p.heap)) k q)

-- the mutator that has placed a record of size z at the place of its stock s, with a pointer to it in register d
abbrev pub with_record : Known → Stock → (z d pointer : ℕ) → Known
with_record w s z d pointer = record w {
  stock = Some (record s { at = s.at + z; ahead = [] });
  account = record w.account { serial = w.account.serial + 1 };
  registers = put w.registers d pointer;
}

-- the next record that mutator k makes in the plain heap
abbrev pub plain_next : plain.Heap → ℕ → Identity
plain_next heap k = record { mutator = k; serial = plain.serial_of heap k + 1 }

-- the plain mutator k with a reference to it in register d
abbrev pub with_reference : plain.Heap → ℕ → plain.Mutator → ℕ → plain.Mutator
with_reference heap k q d = record q { registers = slice_set q.registers d (Reference (plain_next heap k)) }

-- the word refers to the record to which the new plain cell does, and a mutator may hold it
abbrev pub HoldsTarget : Era → Ghost → (target : ℕ) → plain.Record → Type 0
HoldsTarget E g target r = (i : Identity) × (value_of_cell r ≡ Some (Reference i)) × HoldsValue E g target (Reference i)

-- the store of a new record's header, of three words if it is a cell: the plain heap gains the record that the words behind it show
abbrev pub MutatorsPlace : Type 0
MutatorsPlace = (E : Era) (m : Memory) (team : Team) (g : Ghost) (p : plain.Plain) (k : ℕ) (next : Known) (q : plain.Mutator) (s : Stock) (c : Kind) (z v target d pointer : ℕ) (r : plain.Record)
    → Ready E m team g k → Shown E m team g p → PlacesNext team k s c z v target → (c ≡ Weak → z ≡ 3) → Shows (value_of g.identity) m.heap s.at c z r
    → (c ≡ Weak → HoldsTarget E g target r)
    → d < 8 → decode pointer ≡ PointerWord s.at
    → MutatorGoesOn E m g (team.worker k) next → IsAs g p.heap k next q
    → StepsTo E m team g k (Some (WordIs s.at v)) (with_record next s z d pointer) (allocated g s.at z c (next_identity team k))
    (with_mutator (with_heap p (gained p.heap k r)) k (with_reference p.heap k q d))

-- ---- ends

-- the mutator with this end
abbrev pub with_end : Known → End → Known
with_end w why = record w { account = record w.account { end = Some why }; access = None; opened = None; gate_step = None }

-- a running mutator gets an end, and the plain one gets the same
abbrev pub MutatorsEnd : Type 0
MutatorsEnd = (E : Era) (m : Memory) (team : Team) (g : Ghost) (p : plain.Plain) (k : ℕ) (q : plain.Mutator) (why : End) → Ready E m team g k
    → is_running (team.worker k).post ≡ true → Shown E m team g p → slice_get p.mutators k ≡ Some q
    → StepsTo E m team g k None (with_end (team.worker k) why) g (with_mutator p k (record q { end = Some why }))

-- Mutator k has seen that its epoch is traced, and then reads in AREA that there is too little room for the pages that it asks
-- for: nothing is owed any more, and it gets its end, with the words from FRONT to LOW and those copied below FRONT.
pub record EndsFull (E : Era) (m : Memory) (team : Team) (g : Ghost) (p : plain.Plain) (k : ℕ) (q : plain.Mutator) (asked room live : ℕ) : Type 0 where
  pub traced : m.traced ≡ E.epoch + 1
  pub room_is : m.front + room ≡ m.low
  pub live_is : E.start + live ≡ m.front
  pub short : room < PAGE_WORDS * asked
  pub ends : StepsTo E m team g k None (with_end (team.worker k) (HeapFull asked room live)) g (with_mutator p k (record q { end = Some (HeapFull asked room live) }))

abbrev pub MutatorsFindNoRoom : Type 0
MutatorsFindNoRoom = (E : Era) (m : Memory) (team : Team) (g : Ghost) (p : plain.Plain) (k asked : ℕ) (q : plain.Mutator) (area : AreaWord) → Ready E m team g k
    → is_running (team.worker k).post ≡ true → Shown E m team g p → slice_get p.mutators k ≡ Some q
    → IsAreaNow E m area → (team.worker k).traced_seen ≡ true → ¬ (SeesRoom true area asked)
    → EndsFull E m team g p k q asked (area.low - area.front) area.front
