-- How the cells to be emptied are found: each record has a mark, which is set once the record is found, and those whose fields are still
-- to be followed are kept in a list.
use Rattle.std.specs.Prelude.{◌≡◌, ℕ, zero, suc, ◌-◌, Bool, true, false, not, List, [], ◌∷◌, ◌++◌, length, map, replicate, Option, Some, None, count_by, sum_by, if◌then◌else◌, slice_get, slice_index_or, slice_set}
use Rattle.std.specs.List.{filter, flat_map, range_with_len}
use Rattle.std.specs.Option.{option_map_or}
use Rattle.plain_state.specs.declared.value.Identity.{Identity}
use Rattle.plain_state.specs.declared.value.Value.{Value}
use Rattle.plain_state.specs.declared.value.Value.TheVariants.{Number, Reference}
use Rattle.plain_state.specs.Cells.{value_of_cell}
use Rattle.plain_state.specs.State.{Record, Heap, Plain, at_serial, made_by, record_of}
use Rattle.plain_heap.specs.Emptied.{cells_to_empty}
use Rattle.plain_heap.specs.Order.{Story}
use Rattle.plain_heap.specs.Reaching.{reaches}

-- ---- marks

-- those of the records of each mutator, of which none is set
abbrev pub no_marks : List (List Record) → List (List Bool)
no_marks records = map (λ list. replicate (length list) false) records

-- the mark of the record with this serial among those of one mutator, if there is one
abbrev pub mark_at : List Bool → (serial : ℕ) → Option Bool
mark_at marks zero = None
mark_at marks (suc n) = slice_get marks n

-- the mark of a record
abbrev pub mark_of : List (List Bool) → Identity → Option Bool
mark_of marks i = mark_at (slice_index_or marks i.mutator []) i.serial

-- there is a mark, and it isn't set
abbrev pub is_unset : Option Bool → Bool
is_unset None = false
is_unset (Some set) = not set

abbrev pub with_mark : List (List Bool) → Identity → List (List Bool)
with_mark marks i = slice_set marks i.mutator (slice_set (slice_index_or marks i.mutator []) (i.serial - 1) true)

-- how many aren't set
abbrev pub unset : List (List Bool) → ℕ
unset marks = sum_by (λ list. count_by not list) marks

-- the marks tell which records are reachable
abbrev pub AreOfReachable : Plain → List (List Bool) → Type 0
AreOfReachable p marks = (i : Identity) (r : Record) → record_of p.heap i ≡ Some r → mark_of marks i ≡ Some (reaches p i)

-- ---- the search

pub record Search : Type 0 where
  pub marks : List (List Bool)
  pub work : List Identity

-- the record to which a value refers is found, unless it has been
abbrev pub found : Search → Identity → Search
found s i = if is_unset (mark_of s.marks i) then record { marks = with_mark s.marks i; work = s.work ++ i ∷ [] } else s

abbrev pub followed : Search → Value → Search
followed s (Number n) = s
followed s (Reference i) = found s i

-- ---- cells

-- the value refers to a record whose mark isn't set
abbrev pub is_unfound : List (List Bool) → Value → Bool
is_unfound marks (Number n) = false
is_unfound marks (Reference i) = is_unset (mark_of marks i)

-- the record is a cell with such a value
abbrev pub is_lost : List (List Bool) → Record → Bool
is_lost marks r = option_map_or (is_unfound marks) (value_of_cell r) false

-- those of these records of mutator m, and of all
abbrev pub lost_among : List (List Bool) → (m : ℕ) → List Record → List Identity
lost_among marks m records =
    filter (λ i. option_map_or (is_lost marks) (at_serial records i.serial) false) (map (λ serial. record { mutator = m; serial = serial }) (range_with_len 1 (length records)))

abbrev pub lost_cells : List (List Bool) → Heap → List Identity
lost_cells marks heap = flat_map (λ m. lost_among marks m (made_by heap m)) (range_with_len 0 (length heap.records))

-- ---- a run

-- what a run keeps of a story: the present state, and the cells that are to be emptied
pub record Keeps (s : Story) (now : Plain) (cells : List Identity) : Type 0 where
  pub now_is : now ≡ s.now
  pub cells_are : cells ≡ cells_to_empty s.flip
