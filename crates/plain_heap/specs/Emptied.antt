-- Cells that refer to what isn't reachable are emptied: their value is the number 0 from then on.
use Rattle.std.specs.Prelude.{◌≡◌, Bool, false, not, List, Option, Some, None, fold, if◌then◌else◌}
use Rattle.std.specs.List.{filter}
use Rattle.std.specs.Option.{option_map, option_map_or}
use Rattle.plain_state.specs.declared.value.Identity.{Identity}
use Rattle.plain_state.specs.declared.value.Value.{Value}
use Rattle.plain_state.specs.declared.value.Value.TheVariants.{Number, Reference}
use Rattle.plain_state.specs.Cells.{LosesTarget, cell_of, is_cell, without_target}
use Rattle.plain_state.specs.State.{Record, Heap, Plain, record_of}
use Rattle.plain_state.specs.Writing.{stored, with_heap}
use Rattle.plain_heap.specs.Reaching.{identities, reaches}

-- the value refers to a record that isn't reachable
abbrev pub is_unreached : Plain → Value → Bool
is_unreached o (Number n) = false
is_unreached o (Reference i) = not (reaches o i)

-- the cell with this identity refers to such a record
abbrev pub loses_target : Plain → Identity → Bool
loses_target o i = option_map_or (is_unreached o) (cell_of o.heap i) false

-- the cells that do
abbrev pub cells_to_empty : Plain → List Identity
cells_to_empty o = filter (loses_target o) (identities o.heap)

-- the record of an identity has the number 0, if it is a cell
abbrev pub emptied_record : Heap → Identity → Option Record → Heap
emptied_record heap i None = heap
emptied_record heap i (Some r) = if is_cell r.kind then stored heap i r 0 (Number 0) else heap

abbrev pub emptied_cell : Heap → Identity → Heap
emptied_cell heap i = emptied_record heap i (record_of heap i)

-- the state p, in which each cell is emptied whose target isn't reachable in the state o
unfoldable pub emptied : (o p : Plain) → Plain
emptied o p = with_heap p (fold emptied_cell p.heap (cells_to_empty o))

-- ---- what that changes

-- The cells whose targets aren't reachable in the first state have the number 0. Any other record is what it was, also a cell that the first
-- state doesn't have; and so are the board, the mutators, and what is kept of checkpoints.
pub record EmptiesLostCells (o p : Plain) : Type 0 where
  pub lost : (i : Identity) → LosesTarget o i → record_of (emptied o p).heap i ≡ option_map without_target (record_of p.heap i)
  pub kept : (i : Identity) → ¬ (LosesTarget o i) → record_of (emptied o p).heap i ≡ record_of p.heap i
  pub board : (emptied o p).heap.board ≡ p.heap.board
  pub snaps : (emptied o p).heap.snaps ≡ p.heap.snaps
  pub snapped : (emptied o p).heap.snapped ≡ p.heap.snapped
  pub mutators : (emptied o p).mutators ≡ p.mutators

abbrev pub EmptiedOfLostCells : Type 0
EmptiedOfLostCells = (o p : Plain) → EmptiesLostCells o p
