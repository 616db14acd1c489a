use Rattle.std.proofs.Common.{ℕ, ◌<◌}
use Rattle.heap_state.specs.Meaning.Represents.{BoardWordShows}
use Rattle.heap_audit.specs.Told.{dump_told}
use Rattle.heap_audit.proofs.places.showing.wrong_board_word.Given as goal

abbrev pub invariant-loop-x : goal.invariant-loop-x
invariant-loop-x l =
    (k : ℕ) → k < l.x → BoardWordShows (dump_told l.heap) l.plain k
