-- The record that holds a page's first word.
use Rattle.std.specs.Prelude.{◌≡◌, ℕ, ◌<◌, ◌≤◌, Contains, List, map}
use Rattle.space_map.specs.Spaces.{HoldsFirstWord, first_word}
use Rattle.heap_state.specs.Kept.{Kept, IsReservedIn}
use Rattle.heap_state.specs.Memory.Era.{era_of, memory_of}
use Rattle.heap_state.specs.Memory.Table.{Table}
use Rattle.heap_state.specs.Memory.Walk.{Walked, walk_in}

-- what each worker keeps, where pairs say it: the header, and the place and one more
abbrev pub pairs_kept : List (ℕ × ℕ) → List Kept
pairs_kept pairs = map (λ (pair : ℕ × ℕ). record { header = pair.0; place = pair.1 }) pairs

-- the page of the epoch's space begins below FRONT, in no place that is reserved
pub record IsCrossed (t : Table) (kept : List Kept) (page : ℕ) : Type 0 where
  pub in_space : (era_of t).start ≤ first_word page
  pub below_front : first_word page < (memory_of t).front
  pub unreserved : ¬ (IsReservedIn kept (first_word page))

-- a record of the walk at this address holds the page's first word
pub record IsCovered (t : Table) (kept : List Kept) (page at : ℕ) : Type 0 where
  pub item : Walked
  pub walked : Contains (walk_in t kept) item
  pub is_at : item.at ≡ at
  pub holds : HoldsFirstWord item.at item.size page
