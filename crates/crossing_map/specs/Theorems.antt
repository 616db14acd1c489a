-- What is proved of the next item of a walk.
use Rattle.std.specs.Prelude.{◌≡◌, ℕ, ◌+◌, ◌<◌, ◌≤◌, ◌↔◌, ◌⊎◌, Bool, List, [], ◌∷◌}
use Rattle.heap_state.specs.Kept.{Kept, reserved_in}
use Rattle.heap_state.specs.Memory.Table.{Table}
use Rattle.heap_state.specs.Memory.Walk.{Broken, Record, meets, walk_space}
use Rattle.crossing_map.specs.declared.area.Area.{Area}
use Rattle.crossing_map.specs.declared.walked.Walked.TheVariants as next
use Rattle.crossing_map.specs.Walking.{ReadsFrom, next_walked, nothing_reserved, passes_closed, passes_none, walk_from}

-- the parts of a space are in order, and the place is not behind them
pub record IsOrdered (area : Area) (at : ℕ) : Type 0 where
  pub low_behind : area.front ≤ area.low
  pub end_behind : area.low ≤ area.end
  pub inside : at ≤ area.end

-- the record at the place ends in its part of the space
abbrev pub EndsInPart : Area → (at size : ℕ) → Type 0
EndsInPart area at size = ((at < area.front) × (at + size ≤ area.front)) ⊎ ((area.low ≤ at) × (at + size ≤ area.end))

-- what a walk to `end` meets at the place is no record, or one that passes the end
abbrev pub BreaksIn : (passes : ℕ → Bool) (reserved heap : ℕ → ℕ) (end at : ℕ) → Type 0
BreaksIn passes reserved heap end at =
    (meets passes reserved heap end at ≡ Broken) ⊎ ((size : ℕ) × (meets passes reserved heap end at ≡ Record size) × (end < at + size))

-- at the place stands no record and not 0, or a record that passes its part of the space
abbrev pub IsBrokenAt : Table → List Kept → (epoch : ℕ) → Area → ℕ → Type 0
IsBrokenAt t kept epoch area at =
    ((at < area.front) × BreaksIn passes_none (reserved_in kept) t.heap area.front at)
    ⊎ ((area.low ≤ at) × BreaksIn (passes_closed t epoch) nothing_reserved t.heap area.end at)

-- the whole walk of a space is the one from its first word on
abbrev pub WalksFromStart : Type 0
WalksFromStart = (t : Table) (kept : List Kept) (epoch : ℕ) (area : Area) (start : ℕ) → start ≤ area.front → area.front ≤ area.low
    → walk_from t kept epoch area start ≡ walk_space (passes_closed t epoch) (reserved_in kept) t.heap start area.front area.low area.end

-- the next item is the first of the walk that is left, which goes on behind it
abbrev pub FirstIsNext : Type 0
FirstIsNext = (t : Table) (kept : List Kept) (epoch : ℕ) (area : Area) (at a size : ℕ) → IsOrdered area at
    → next_walked t kept epoch area at ≡ next.Record a size
    → (walk_from t kept epoch area at ≡ record { at = a; size = size } ∷ walk_from t kept epoch area (a + size)) × EndsInPart area a size

-- the walk has ended exactly where nothing is left, and nothing that can't be read
abbrev pub EndsWithWalk : Type 0
EndsWithWalk = (t : Table) (kept : List Kept) (epoch : ℕ) (area : Area) (at : ℕ) → IsOrdered area at
    → (next_walked t kept epoch area at ≡ next.Ended) ↔ ((walk_from t kept epoch area at ≡ []) × ReadsFrom t kept epoch area at)

-- it is broken only where what stands there is no record, or doesn't end there, and where no record is walked before
abbrev pub BreaksAtWords : Type 0
BreaksAtWords = (t : Table) (kept : List Kept) (epoch : ℕ) (area : Area) (at a : ℕ) → IsOrdered area at
    → next_walked t kept epoch area at ≡ next.Broken a
    → IsBrokenAt t kept epoch area a × (at ≤ a) × (walk_from t kept epoch area at ≡ walk_from t kept epoch area a)
