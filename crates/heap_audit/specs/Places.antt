-- The places of a dump in the order in which they are looked at, and what should be so at each.
use Rattle.std.specs.Prelude.{◌≡◌, ℕ, ◌+◌, ◌*◌, ◌<◌, ◌≤◌, ◌↔◌, ⊤, length, Option, Some, None, slice_get}
use Rattle.plain_state.specs.State as plain
use Rattle.space_map.specs.Spaces.{past_heaps}
use Rattle.space_map.specs.declared.spaces.TheConstants.{PAGE_WORDS}
use Rattle.heap_state.specs.Meaning.Dump.{Dump}
use Rattle.heap_state.specs.Meaning.Represents.{BoardWordShows, DumpRepresents, HeadShows, IsInHeap, IsInOrder, IsWalkedSpace, RegisterShows, WordShows}
use Rattle.heap_state.specs.Memory.Walk.{Walked}
use Rattle.heap_audit.specs.Breaks.{BreaksAt}
use Rattle.heap_audit.specs.declared.places.place.Place.{Place}
use Rattle.heap_audit.specs.declared.places.place.Place.TheVariants.{Size, Area, Register, Board, Word}

-- ---- places

-- the dump has the place
abbrev pub IsPlace : Dump → Place → Type 0
IsPlace d (Size space) = space < 2
IsPlace d (Area space) = space < 2
IsPlace d (Register m j) = (m < d.mutators) × (j < 8)
IsPlace d (Board x) = x < 16
IsPlace d (Word address) = ⊤

-- How many places come before this one: the sizes and areas of both spaces by space, the registers by mutator, the board, and the words of
-- the heap.
abbrev pub places_before : Dump → Place → ℕ
places_before d (Size space) = 2 * space
places_before d (Area space) = 2 * space + 1
places_before d (Register m j) = 4 + 8 * m + j
places_before d (Board x) = 4 + 8 * d.mutators + x
places_before d (Word address) = 4 + 8 * d.mutators + 16 + address

-- the place has a number that tables have
abbrev pub IsShort : Place → Type 0
IsShort (Size space) = space < 2
IsShort (Area space) = space < 2
IsShort (Register m j) = ⊤
IsShort (Board x) = x < 16
IsShort (Word address) = address < 2 * past_heaps

-- ---- what should be so

-- At a word of the heap no walk breaks. A record in the heap that begins there shows what it should by its first word, and one that has
-- this word as another shows what it should by it.
pub record WordSeen (d : Dump) (p : plain.Plain) (address : ℕ) : Type 0 where
  pub unbroken : ¬ (BreaksAt d address)
  pub head : (w : Walked) → IsInHeap d w → w.at ≡ address → HeadShows d p w
  pub word : (w : Walked) (i : ℕ) → IsInHeap d w → 0 < i → i < w.size → w.at + i ≡ address → WordShows d p w i

-- if a space is walked, no more pages of it are in use than it may have
abbrev pub SpaceSize : Dump → ℕ → Type 0
SpaceSize d space = IsWalkedSpace d.table space → d.table.in_use space ≤ d.table.pages

-- and FRONT, LOW and the words in use follow one another
abbrev pub SpaceArea : Dump → ℕ → Type 0
SpaceArea d space =
    IsWalkedSpace d.table space → ((d.table.area space).front ≤ (d.table.area space).low) × ((d.table.area space).low ≤ PAGE_WORDS * d.table.in_use space)

-- what should be so at a place is so
abbrev pub SeenAt : Dump → plain.Plain → Place → Type 0
SeenAt d p (Size space) = SpaceSize d space
SeenAt d p (Area space) = SpaceArea d space
SeenAt d p (Register m j) = RegisterShows d p m j
SeenAt d p (Board x) = BoardWordShows d p x
SeenAt d p (Word address) = WordSeen d p address

-- it is so at each place
abbrev pub AllSeen : Dump → plain.Plain → Type 0
AllSeen d p = (place : Place) → IsPlace d place → SeenAt d p place

-- it is so at each place before this one, but not here
pub record IsFirstUnseen (d : Dump) (p : plain.Plain) (place : Place) : Type 0 where
  pub is_place : IsPlace d place
  pub before : (other : Place) → IsPlace d other → places_before d other < places_before d place → SeenAt d p other
  pub unseen : ¬ (SeenAt d p place)

-- no place is told if it is so at each, else the first at which it isn't
abbrev pub TellsFirstUnseen : Dump → plain.Plain → Option Place → Type 0
TellsFirstUnseen d p None = AllSeen d p
TellsFirstUnseen d p (Some place) = IsFirstUnseen d p place

-- none is told if the space is in order where it is walked, else its size, or its area word, if that isn't
abbrev pub TellsSpace : Dump → ℕ → Option Place → Type 0
TellsSpace d space None = IsWalkedSpace d.table space → IsInOrder d.table space
TellsSpace d space (Some (Size s)) = (s ≡ space) × (SpaceSize d s → ⊥)
TellsSpace d space (Some (Area s)) = (s ≡ space) × SpaceSize d s × (SpaceArea d s → ⊥)
TellsSpace d space (Some (Register m j)) = ⊥
TellsSpace d space (Some (Board x)) = ⊥
TellsSpace d space (Some (Word address)) = ⊥

-- none is told if each space that is walked is in order, else the first place of its size or its area that isn't
abbrev pub TellsFirstWrongSpace : Dump → Option Place → Type 0
TellsFirstWrongSpace d None = (space : ℕ) → IsWalkedSpace d.table space → IsInOrder d.table space
TellsFirstWrongSpace d (Some (Size space)) =
    (space < 2) × (SpaceSize d space → ⊥) × ((other : ℕ) → other < space → IsWalkedSpace d.table other → IsInOrder d.table other)
TellsFirstWrongSpace d (Some (Area space)) =
    (space < 2) × SpaceSize d space × (SpaceArea d space → ⊥) × ((other : ℕ) → other < space → IsWalkedSpace d.table other → IsInOrder d.table other)
TellsFirstWrongSpace d (Some (Register m j)) = ⊥
TellsFirstWrongSpace d (Some (Board x)) = ⊥
TellsFirstWrongSpace d (Some (Word address)) = ⊥

-- ---- all of it

-- the plain state has as many mutators as the dump, of eight registers each, and a board of sixteen words
pub record HasForm (d : Dump) (p : plain.Plain) : Type 0 where
  pub as_many : (length p.mutators ≡ d.mutators) × (length p.heap.records ≡ d.mutators)
  pub eight : (m : ℕ) (q : plain.Mutator) → slice_get p.mutators m ≡ Some q → length q.registers ≡ 8
  pub sixteen : length p.heap.board ≡ 16

-- then all is so exactly where the dump represents the plain state
abbrev pub PlacesShowAll : Type 0
PlacesShowAll = (d : Dump) (p : plain.Plain) → HasForm d p → AllSeen d p ↔ DumpRepresents d p
