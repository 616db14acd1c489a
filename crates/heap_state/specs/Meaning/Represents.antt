-- What it means that a dump or a configuration represents a state of the plain machine.
use Rattle.std.specs.Prelude.{◌≡◌, ◌≢◌, ℕ, ◌+◌, ◌*◌, ◌<◌, ◌≤◌, ◌⊎◌, ⊤, true, length, Contains, Option, Some, None, slice_get}
use Rattle.heap_words.specs.declared.kind.Kind.{Kind as HeaderKind}
use Rattle.heap_words.specs.Decoded.{Decoded, NumberWord, PointerWord, HeaderWord, BusyWord, decode}
use Rattle.plain_state.specs.declared.kind.Kind.{Kind}
use Rattle.plain_state.specs.declared.kind.Kind.TheVariants.{Weak}
use Rattle.plain_state.specs.declared.value.Identity.{Identity}
use Rattle.plain_state.specs.Cells.{value_of_cell}
use Rattle.plain_state.specs.State as plain
use Rattle.plain_state.specs.Layout.{is_field, is_raw, size_of, word_of_value}
use Rattle.plain_state.specs.declared.value.Value.{Value}
use Rattle.plain_state.specs.declared.value.Value.TheVariants.{Number, Reference}
use Rattle.space_map.specs.Spaces.{to_space}
use Rattle.space_map.specs.declared.spaces.TheConstants.{PAGE_WORDS}
use Rattle.heap_state.specs.Configuration.{Configuration, team}
use Rattle.heap_state.specs.Cycles.Copies.{copied_in}
use Rattle.heap_state.specs.Meaning.Denotes.{denoted_in, named_by, own_header_in}
use Rattle.heap_state.specs.Meaning.Dump.{Dump, dump_of}
use Rattle.heap_state.specs.Memory.Era.{era_of, from_space}
use Rattle.heap_state.specs.Invariant.Ghost.{said_kind, header_kind}
use Rattle.heap_state.specs.Memory.Table.{Table}
use Rattle.heap_state.specs.Meaning.Values.{CountShows, Accounts}
use Rattle.heap_state.specs.Memory.Walk.{Walked, walk_in, old_walk_in, IsWalkable, IsOldReadable}

-- ---- the heap's records

-- the epoch is not traced, and the old space has records of the heap too
abbrev pub IsCopying : Table → Type 0
IsCopying t = t.traced ≢ t.gate.epoch + 1

-- the space is walked: it is the epoch's; or, while the epoch is not traced, the old one
abbrev pub IsWalkedSpace : Table → ℕ → Type 0
IsWalkedSpace t space = (space ≡ to_space t.gate.epoch) ⊎ (IsCopying t × (space ≡ from_space t.gate.epoch))

-- of the space no more pages are in use than it may have, and FRONT, LOW and the words in use follow one another
pub record IsInOrder (t : Table) (space : ℕ) : Type 0 where
  pub size : t.in_use space ≤ t.pages
  pub area : ((t.area space).front ≤ (t.area space).low) × ((t.area space).low ≤ PAGE_WORDS * t.in_use space)

-- a record in the walk of the epoch's space; or, while the epoch is not traced, in that of the old space
abbrev pub IsInHeap : Dump → Walked → Type 0
IsInHeap d w = Contains (walk_in d.table d.kept) w ⊎ (IsCopying d.table × Contains (old_walk_in d.table d.kept) w)

-- the header of a record that stands at an address
abbrev pub own_header : Dump → ℕ → Decoded
own_header d a = own_header_in d.kept (decode (d.table.heap a))

-- the value that a word denotes
abbrev pub denoted_in_dump : Dump → ℕ → Option Value
denoted_in_dump d = denoted_in d.table.heap d.kept

-- a record whose own header, with the word after it, says its kind, length, serial and mutator
pub record IsOwn (d : Dump) (w : Walked) (kind : Kind) (len serial mutator : ℕ) : Type 0 where
  pub walked : IsInHeap d w
  pub head : HeaderKind
  pub header : own_header d w.at ≡ HeaderWord head len serial mutator
  pub said : kind ≡ said_kind head (d.table.heap (w.at + 1))

-- the record's own header says this kind, and names this record of the plain state
pub record Names (d : Dump) (p : plain.Plain) (w : Walked) (kind : Kind) (r : plain.Record) : Type 0 where
  pub len : ℕ
  pub serial : ℕ
  pub mutator : ℕ
  pub own : IsOwn d w kind len serial mutator
  pub names : plain.record_of p.heap (record { mutator = mutator; serial = serial }) ≡ Some r

-- the record has a header of its own, in its place or kept by a worker
pub record HasOwn (d : Dump) (w : Walked) : Type 0 where
  pub kind : Kind
  pub len : ℕ
  pub serial : ℕ
  pub mutator : ℕ
  pub own : IsOwn d w kind len serial mutator

-- the word names a worker that keeps the record's header
abbrev pub IsBusy : Decoded → Type 0
IsBusy (BusyWord len worker) = ⊤
IsBusy _ = ⊥

-- a record in the walk of the epoch's space, and one whose header a worker should keep
abbrev pub MustOwn : Dump → Walked → Type 0
MustOwn d w = Contains (walk_in d.table d.kept) w ⊎ IsBusy (decode (d.table.heap w.at))

-- the word of the record is a field
pub record IsFieldOf (w : Walked) (kind : Kind) (i : ℕ) : Type 0 where
  pub inside : (0 < i) × (i < w.size)
  pub field : is_field kind i ≡ true

-- where the word is a pointer, it leads to a record in the heap
abbrev pub LeadsToRecord : Dump → ℕ → Type 0
LeadsToRecord d word = (a : ℕ) → decode word ≡ PointerWord a → (size : ℕ) × IsInHeap d (record { at = a; size = size })

-- ---- place by place

-- register j of mutator m, where this has no end, denotes the plain value, and leads to a record if it is a pointer
pub record RegisterShows (d : Dump) (p : plain.Plain) (m j : ℕ) : Type 0 where
  pub shows : (q : plain.Mutator) → slice_get p.mutators m ≡ Some q → q.end ≡ None → denoted_in_dump d (d.registers m j) ≡ slice_get q.registers j
  pub leads : (q : plain.Mutator) → slice_get p.mutators m ≡ Some q → q.end ≡ None → LeadsToRecord d (d.registers m j)

-- word x of the board denotes the plain value, and leads to a record if it is a pointer
pub record BoardWordShows (d : Dump) (p : plain.Plain) (x : ℕ) : Type 0 where
  pub shows : denoted_in_dump d (d.table.heap ((era_of d.table).board + x)) ≡ slice_get p.heap.board x
  pub leads : LeadsToRecord d (d.table.heap ((era_of d.table).board + x))

-- A record in the walk of the epoch's space has its own header, and so has an old one that isn't forwarded: if not in its place, its
-- worker keeps it. One that has its own header has that many words, and there is a plain record of its identity, of that kind, but for the count of a mixed one's fields, and of as many words. No record before it
-- that has its own header is of its identity, so that of two it is the later one that is wrong.
pub record HeadShows (d : Dump) (p : plain.Plain) (w : Walked) : Type 0 where
  pub owns : MustOwn d w → HasOwn d w
  pub shows : (kind : Kind) (len serial mutator : ℕ) → IsOwn d w kind len serial mutator
      → (w.size ≡ len + 1)
      × ((r : plain.Record) × (plain.record_of p.heap (record { mutator = mutator; serial = serial }) ≡ Some r) × (header_kind r.kind ≡ header_kind kind) × (size_of r ≡ w.size))
  pub once : (v : Walked) (kind other : Kind) (len longer serial mutator : ℕ) → IsOwn d w kind len serial mutator → IsOwn d v other longer serial mutator → w.at ≤ v.at

-- no record that was copied in this epoch has the identity
abbrev pub HasNoCopy : Dump → Identity → Type 0
HasNoCopy d i = (w : Walked) → Contains (copied_in d.table d.kept) w → named_by (decode (d.table.heap w.at)) ≢ Some i

-- The walk over the chain of copied cells may have emptied the cell, whose plain value this is: it was copied in this epoch, which isn't
-- traced and whose turn is taken, its target is the number 0, and the plain one is a record that has no copy.
pub record IsEmptied (d : Dump) (w : Walked) (v : Value) : Type 0 where
  pub copied : Contains (copied_in d.table d.kept) w
  pub walked : IsCopying d.table × (d.table.weak_turn ≡ d.table.gate.epoch + 1)
  pub empty : decode (d.table.heap (w.at + 1)) ≡ NumberWord 0
  pub lost : (i : Identity) × (v ≡ Reference i) × HasNoCopy d i

-- word i of a record of this kind is a cell's target
abbrev pub IsTarget : Kind → (i : ℕ) → Type 0
IsTarget kind i = (kind ≡ Weak) × (i ≡ 1)

-- Word i of a record whose own header says a kind, and names a plain record. Word 1 of a mixed record has the count of the plain
-- record's fields. A field in which a value stands denotes it, and each field leads to a record if it is a pointer. Each other
-- value is the number there. A cell's target denotes the plain cell's value, unless the walk may have emptied it, and leads to a record
-- if it is a pointer.
pub record WordShows (d : Dump) (p : plain.Plain) (w : Walked) (i : ℕ) : Type 0 where
  pub count : (kind : Kind) (r : plain.Record) → Names d p w kind r → i ≡ 1 → (r.kind ≡ kind) × CountShows kind d.table.heap w.at
  pub field : (kind : Kind) (r : plain.Record) (x : ℕ) → Names d p w kind r → i ≡ word_of_value kind x → x < length r.values → is_field kind i ≡ true
      → denoted_in_dump d (d.table.heap (w.at + i)) ≡ slice_get r.values x
  pub number : (kind : Kind) (r : plain.Record) (x : ℕ) → Names d p w kind r → i ≡ word_of_value kind x → x < length r.values → is_raw kind i ≡ true
      → Some (Number (d.table.heap (w.at + i))) ≡ slice_get r.values x
  pub leads : (kind : Kind) (len serial mutator : ℕ) → IsOwn d w kind len serial mutator → IsFieldOf w kind i → LeadsToRecord d (d.table.heap (w.at + i))
  pub target : (kind : Kind) (r : plain.Record) (v : Value) → Names d p w kind r → IsTarget kind i → value_of_cell r ≡ Some v
      → (denoted_in_dump d (d.table.heap (w.at + i)) ≡ Some v) ⊎ IsEmptied d w v
  pub target_leads : (kind : Kind) (len serial mutator : ℕ) → IsOwn d w kind len serial mutator → IsTarget kind i → LeadsToRecord d (d.table.heap (w.at + i))

-- a record shows what it should by its first word, and by each word behind it
pub record RecordShows (d : Dump) (p : plain.Plain) (w : Walked) : Type 0 where
  pub head : HeadShows d p w
  pub words : (i : ℕ) → 0 < i → i < w.size → WordShows d p w i

-- ---- the whole

-- The dump represents the plain state: this has as many mutators, of eight registers each, and a board of sixteen words; each space
-- that is walked is in order; each register, each board word and each record in the heap shows what is in its place; and no walk
-- stops at a word that it can't read, or at a record that doesn't end in its part of the space.
pub record DumpRepresents (d : Dump) (p : plain.Plain) : Type 0 where
  pub as_many : (length p.mutators ≡ d.mutators) × (length p.heap.records ≡ d.mutators)
  pub eight : (m : ℕ) (q : plain.Mutator) → slice_get p.mutators m ≡ Some q → length q.registers ≡ 8
  pub sixteen : length p.heap.board ≡ 16
  pub ordered : (space : ℕ) → IsWalkedSpace d.table space → IsInOrder d.table space
  pub registers : (m j : ℕ) → j < 8 → RegisterShows d p m j
  pub board : (x : ℕ) → x < 16 → BoardWordShows d p x
  pub readable : IsWalkable d.table d.kept
  pub old_readable : IsCopying d.table → IsOldReadable d.table d.kept
  pub records : (w : Walked) → IsInHeap d w → RecordShows d p w

-- The configuration represents the plain state: its dump does, and mutators have what their plain mutators have.
pub record Represents (c : Configuration) (p : plain.Plain) : Type 0 where
  pub accounts : (k : ℕ) (q : plain.Mutator) → slice_get p.mutators k ≡ Some q → Accounts p.heap k ((team c).worker k).account q
  pub dump : DumpRepresents (dump_of c) p
