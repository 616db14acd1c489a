-- Cells: records of the kind weak, each of which refers to a record without keeping it.
use Rattle.std.specs.Prelude.{◌≡◌, Bool, true, false, Option, Some, None, if◌then◌else◌, slice_get}
use Rattle.std.specs.Option.{option_and_then}
use Rattle.plain_state.specs.declared.kind.Kind.{Kind}
use Rattle.plain_state.specs.declared.kind.Kind.TheVariants.{Weak}
use Rattle.plain_state.specs.declared.value.Identity.{Identity}
use Rattle.plain_state.specs.declared.value.Value.{Value}
use Rattle.plain_state.specs.declared.value.Value.TheVariants.{Number, Reference}
use Rattle.plain_state.specs.Reachable.{Reachable}
use Rattle.plain_state.specs.State.{Record, Heap, Plain, record_of}
use Rattle.plain_state.specs.Writing.{with_value}

-- a record of this kind is a cell
abbrev pub is_cell : Kind → Bool
is_cell Weak = true
is_cell _ = false

-- the value of a record, if it is a cell
abbrev pub value_of_cell : Record → Option Value
value_of_cell r = if is_cell r.kind then slice_get r.values 0 else None

-- the value of the cell with this identity, if there is such a cell
abbrev pub cell_of : Heap → Identity → Option Value
cell_of heap i = option_and_then value_of_cell (record_of heap i)

-- the record with the number 0, if it is a cell
abbrev pub without_target : Record → Record
without_target r = if is_cell r.kind then with_value r 0 (Number 0) else r

-- the state has the cell, whose target isn't reachable there
pub record LosesTarget (o : Plain) (i : Identity) : Type 0 where
  pub target : Identity
  pub is : cell_of o.heap i ≡ Some (Reference target)
  pub unreachable : ¬ (Reachable o target)

-- each cell of the state o has in the state p the value that it had
abbrev pub KeepsCells : (o p : Plain) → Type 0
KeepsCells o p = (i : Identity) (v : Value) → cell_of o.heap i ≡ Some v → cell_of p.heap i ≡ Some v

-- Each cell of the state o whose target isn't reachable there is empty in the state p, and any other one has the value that it had.
pub record HasLostCells (o p : Plain) : Type 0 where
  pub lost : (i : Identity) → LosesTarget o i → cell_of p.heap i ≡ Some (Number 0)
  pub kept : (i : Identity) (v : Value) → cell_of o.heap i ≡ Some v → ¬ (LosesTarget o i) → cell_of p.heap i ≡ Some v

-- each cell that the state p has and the state o hasn't refers to a record
abbrev pub NewCellsRefer : (o p : Plain) → Type 0
NewCellsRefer o p = (i : Identity) (v : Value) → cell_of o.heap i ≡ None → cell_of p.heap i ≡ Some v → (j : Identity) × (v ≡ Reference j)

-- What cells have in the state p, in the epoch that began at the flip of the state o. Until the epoch is traced each has what it had then;
-- from then on those are empty whose targets weren't reachable at the flip, and no others of that state. One that was made since refers to
-- a record.
pub record CellsFollow (traced : Type 0) (o p : Plain) : Type 0 where
  pub untraced : ¬ traced → KeepsCells o p
  pub lost : traced → HasLostCells o p
  pub made : NewCellsRefer o p
