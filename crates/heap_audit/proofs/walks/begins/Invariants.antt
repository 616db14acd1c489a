use Rattle.std.proofs.Common.{◌≡◌, ℕ, true, false, get_or, take, length, map}
use Rattle.std.specs.Prelude.{◌↔◌}
use Rattle.std.specs.List.{Contains}
use Rattle.heap_audit.specs.Walks.{walked}
use Rattle.heap_audit.proofs.walks.begins.Given as goal

-- the records so far are noted
abbrev pub invariant-loop-found : goal.invariant-loop-found
invariant-loop-found l =
    (length l.begins.items ≡ l.count)
    × ((a : ℕ) → (get_or l.begins.items a false ≡ true) ↔ ((size : ℕ) × Contains (map walked (take l.found-index l.records)) (record { at = a; size = size })))
