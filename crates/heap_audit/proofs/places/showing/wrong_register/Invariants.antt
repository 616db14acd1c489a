use Rattle.std.proofs.Common.{ℕ, ◌<◌}
use Rattle.heap_state.specs.Meaning.Represents.{RegisterShows}
use Rattle.heap_audit.specs.Told.{dump_told}
use Rattle.heap_audit.proofs.places.showing.wrong_register.Given as goal

abbrev pub invariant-loop-m : goal.invariant-loop-m
invariant-loop-m l =
    (n j : ℕ) → n < l.m → j < 8 → RegisterShows (dump_told l.heap) l.plain n j
