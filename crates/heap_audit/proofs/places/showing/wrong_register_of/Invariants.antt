use Rattle.std.proofs.Common.{ℕ, ◌<◌}
use Rattle.heap_state.specs.Meaning.Represents.{RegisterShows}
use Rattle.heap_audit.specs.Told.{dump_told}
use Rattle.heap_audit.proofs.places.showing.wrong_register_of.Given as goal

abbrev pub invariant-loop-j : goal.invariant-loop-j
invariant-loop-j l =
    (k : ℕ) → k < l.j → RegisterShows (dump_told l.heap) l.plain l.m k
