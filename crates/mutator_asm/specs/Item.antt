-- The items of a schedule.
use Rattle.std.specs.Prelude.{ℕ, List, Option, Some, None, Result, Ok, Err, ◌&&◌, nat_le, ◌==◌, Bool, if◌then◌else◌}
use Rattle.std.specs.List.{list_any, before_first, after_first}
use Rattle.plain_state.specs.declared.sizes.TheConstants.{LAST_WORKER}
use Rattle.mutator_asm.specs.declared.item.Item.{Item}
use Rattle.mutator_asm.specs.declared.item.TheConstants.{TIMES_MAX}
use Rattle.mutator_asm.specs.declared.mistake.Mistake.{Mistake}
use Rattle.mutator_asm.specs.Token.{number_of}

-- a star stands between a worker and its count
abbrev pub is_star : ℕ → Bool
is_star b = b == 42

-- what was read, where it is a number from low to high
abbrev pub within : ℕ → ℕ → Result ℕ Mistake → Option ℕ
within low high (Ok n) = if nat_le low n && nat_le n high then Some n else None
within low high (Err mistake) = None

-- a worker, by its number
abbrev pub worker_item : List ℕ → Option ℕ
worker_item t = within 0 LAST_WORKER (number_of t)

-- how many steps a worker makes
abbrev pub times_of : List ℕ → Option ℕ
times_of t = within 1 TIMES_MAX (number_of t)

-- an item, where both its parts could be read
abbrev pub item_from : Option ℕ → Option ℕ → Option Item
item_from (Some worker) (Some times) = Some (record { worker = worker; times = times })
item_from (Some worker) None = None
item_from None times = None

-- the item that a token writes: w, or w*k
unfoldable pub item_of : List ℕ → Option Item
item_of t =
    if list_any is_star t then item_from (worker_item (before_first is_star t)) (times_of (after_first is_star t))
    else item_from (worker_item t) (Some 1)
