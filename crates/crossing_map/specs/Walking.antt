-- The next item of a walk.
use Rattle.std.specs.Prelude.{ℕ, zero, suc, ◌+◌, ◌-◌, Bool, false, List, ◌++◌, max, nat_le, if◌then◌else◌}
use Rattle.heap_state.specs.Kept.{Kept, reserved_in}
use Rattle.heap_state.specs.Memory.Table.{Table}
use Rattle.heap_state.specs.Memory.Walk.{Met, AtEnd, Nothing, Reserved, Record, Broken, Walked, meets, next_place, walk, is_protected, ReadsAll}
use Rattle.crossing_map.specs.declared.area.Area.{Area}
use Rattle.crossing_map.specs.declared.walked.Walked.{Walked as Next}
use Rattle.crossing_map.specs.declared.walked.Walked.TheVariants as next

-- ---- in one part of a space

-- what a walk to `end` comes to next, by what it meets at a place and by what it comes to behind: a record has to end there
abbrev pub next_at : (end at : ℕ) → Met → Next → Next
next_at end at AtEnd behind = next.Ended
next_at end at Nothing behind = behind
next_at end at (Reserved size) behind = behind
next_at end at (Record size) behind = if nat_le (at + size) end then next.Record at size else next.Broken at
next_at end at Broken behind = next.Broken at

-- what a walk to `end` comes to next, in at most so many turns
unfoldable pub next_in : ℕ → (passes : ℕ → Bool) (reserved heap : ℕ → ℕ) → ℕ → ℕ → Next
next_in zero passes reserved heap end at = next.Ended
next_in (suc turns) passes reserved heap end at =
    next_at end at (meets passes reserved heap end at) (next_in turns passes reserved heap end (next_place end at (meets passes reserved heap end at)))

-- ---- in both parts

-- the first of these that is not the end
abbrev pub or_next : Next → Next → Next
or_next next.Ended behind = behind
or_next (next.Record at size) behind = next.Record at size
or_next (next.Broken at) behind = next.Broken at

-- a walk over the copies passes over no page, one over new records over those that are not open in the epoch
abbrev pub passes_none : ℕ → Bool
passes_none p = false

abbrev pub passes_closed : Table → ℕ → ℕ → Bool
passes_closed t epoch p = is_protected epoch (t.page p)

abbrev pub nothing_reserved : ℕ → ℕ
nothing_reserved a = 0

-- what the walk of a space comes to next from a place on: up to FRONT, then from LOW up
abbrev pub next_walked : Table → List Kept → (epoch : ℕ) → Area → ℕ → Next
next_walked t kept epoch area at =
    or_next (next_in (area.front - at) passes_none (reserved_in kept) t.heap area.front at)
    (next_in (area.end - max at area.low) (passes_closed t epoch) nothing_reserved t.heap area.end (max at area.low))

-- the walk that is left from a place on, as a list; from the space's first word on it is the space's whole walk
abbrev pub walk_from : Table → List Kept → (epoch : ℕ) → Area → ℕ → List Walked
walk_from t kept epoch area at =
    walk (area.front - at) passes_none (reserved_in kept) t.heap area.front at
    ++ walk (area.end - max at area.low) (passes_closed t epoch) nothing_reserved t.heap area.end (max at area.low)

-- all that it meets can be read
abbrev pub ReadsFrom : Table → List Kept → (epoch : ℕ) → Area → ℕ → Type 0
ReadsFrom t kept epoch area at =
    ReadsAll (area.front - at) passes_none (reserved_in kept) t.heap area.front at
    × ReadsAll (area.end - max at area.low) (passes_closed t epoch) nothing_reserved t.heap area.end (max at area.low)
