-- What holds of cells, by words and workers alone: the chain of those that were copied in the epoch, and the walk over it.
use Rattle.std.specs.Prelude.{◌≡◌, ℕ, ◌+◌, ◌<◌, ◌≤◌, ◌⊎◌, List, [], ◌∷◌, Contains, Some, length, if◌then◌else◌, slice_get}
use Rattle.plain_state.specs.declared.kind.Kind.TheVariants.{Weak}
use Rattle.heap_words.specs.declared.kind.Kind.TheVariants as header_kinds
use Rattle.heap_words.specs.Decoded.{HeaderWord, decode}
use Rattle.space_map.specs.declared.page_word.PageWord.TheVariants.{Open}
use Rattle.space_map.specs.Spaces.{page_of, first_word}
use Rattle.heap_state.specs.Cells.{MayCopy}
use Rattle.heap_state.specs.Configuration.{Configuration, table, era, memory, team}
use Rattle.heap_state.specs.Cycles.Copies.{copied_of}
use Rattle.heap_state.specs.Invariant.Ghost.{Leads}
use Rattle.heap_state.specs.Meaning.Dump.{dump_of}
use Rattle.heap_state.specs.Meaning.Represents.{IsCopying, IsOwn}
use Rattle.heap_state.specs.Memory.Walk.{Walked, walk_of}
use Rattle.heap_state.specs.Known.{Linking, Pass, Begins, At, Done, cell_to_link}

-- ---- the chain

-- a cell that was copied in this epoch stands at the place
pub record IsCopiedAt (c : Configuration) (a : ℕ) : Type 0 where
  pub size : ℕ
  pub copied : Contains (copied_of c) (record { at = a; size = size })
  pub len : ℕ
  pub serial : ℕ
  pub mutator : ℕ
  pub header : decode ((table c).heap a) ≡ HeaderWord header_kinds.Weak len serial mutator

-- its copier is still to link it
pub record WaitsForLink (c : Configuration) (a : ℕ) : Type 0 where
  pub worker : ℕ
  pub member : worker < (team c).count
  pub links : cell_to_link ((team c).worker worker).linking ≡ Some a

-- WEAK, or a link, leads to the first of these cells, and the link of each to the next; that of the last is 0
unfoldable pub LeadsThrough : (heap : ℕ → ℕ) → (word : ℕ) → List ℕ → Type 0
LeadsThrough heap word [] = word ≡ 0
LeadsThrough heap word (a ∷ cells) = (word ≡ a + 1) × LeadsThrough heap (heap (a + 2)) cells

-- The chain leads once through each cell that was copied in this epoch, but for those that wait for their links.
pub record IsChain (c : Configuration) (cells : List ℕ) : Type 0 where
  pub leads : LeadsThrough (table c).heap (table c).weak cells
  pub copied : (i a : ℕ) → slice_get cells i ≡ Some a → IsCopiedAt c a × ¬ (WaitsForLink c a)
  pub once : (i j a : ℕ) → slice_get cells i ≡ Some a → slice_get cells j ≡ Some a → i ≡ j
  pub all : (a : ℕ) → IsCopiedAt c a → ((i : ℕ) × (slice_get cells i ≡ Some a)) ⊎ WaitsForLink c a

-- ---- the walk

-- so many cells of the chain, from its first on, are passed
abbrev pub HasPassed : List ℕ → Pass → (count : ℕ) → Type 0
HasPassed cells Begins count = count ≡ 0
HasPassed cells (At v) count = (i : ℕ) × (slice_get cells i ≡ Some v.cell) × (count ≡ (if v.past then i + 1 else i))
HasPassed cells Done count = count ≡ length cells

-- no target of the cells that the walk has passed leads into the old space
pub record Passes (c : Configuration) (cells : List ℕ) (q : Pass) : Type 0 where
  pub count : ℕ
  pub passed : HasPassed cells q count
  pub clean : (i a : ℕ) → i < count → slice_get cells i ≡ Some a → ¬ (Leads (era c) ((memory c).heap (a + 1)))

-- The turn to walk is taken: no cell waits for its link, nobody is behind, and the board and all copied pages are open.
pub record TurnHolds (c : Configuration) (cells : List ℕ) : Type 0 where
  pub none_wait : (a : ℕ) → ¬ (WaitsForLink c a)
  pub none_behind : (memory c).gate.behind ≡ 0
  pub board : (memory c).page (page_of (era c).board) ≡ Open (era c).epoch
  pub copied : (p : ℕ) → (era c).start ≤ first_word p → first_word p < (memory c).front → (memory c).page p ≡ Open (era c).epoch
  pub passes : (k : ℕ) (q : Pass) → k < (team c).count → ((team c).worker k).pass ≡ Some q → Passes c cells q

-- ---- the whole

-- the target of a cell in the walk of the epoch's space, at this address
pub record IsWalkedTarget (c : Configuration) (x : ℕ) : Type 0 where
  pub of : Walked
  pub len : ℕ
  pub serial : ℕ
  pub mutator : ℕ
  pub walked : Contains (walk_of c) of
  pub own : IsOwn (dump_of c) of Weak len serial mutator
  pub at : x ≡ of.at + 1

-- WEAKTURN is at most the epoch and one more. While the epoch isn't traced there is the chain; whoever has a cell to link is behind, or scans
-- a page; and if the turn is taken all else is done. Once it is traced no target of a walked cell leads into the old space, and no target
-- of a cell that was made since the flip does, ever.
pub record CellsHold (c : Configuration) : Type 0 where
  pub top : (table c).weak_turn ≤ (era c).epoch + 1
  pub licensed : (k : ℕ) (l : Linking) → k < (team c).count → ((team c).worker k).linking ≡ Some l → MayCopy (era c) ((team c).worker k)
  pub chain : IsCopying (table c) → (cells : List ℕ) × IsChain c cells × ((table c).weak_turn ≡ (era c).epoch + 1 → TurnHolds c cells)
  pub clean : (memory c).traced ≡ (era c).epoch + 1 → (x : ℕ) → IsWalkedTarget c x → ¬ (Leads (era c) ((memory c).heap x))
  pub new : (x : ℕ) → IsWalkedTarget c x → (memory c).low ≤ x → ¬ (Leads (era c) ((memory c).heap x))
