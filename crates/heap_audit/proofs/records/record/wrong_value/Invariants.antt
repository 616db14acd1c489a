use Rattle.std.proofs.Common.{ℕ, ◌+◌, ◌<◌}
use Rattle.plain_state.specs.Layout.{word_of_value}
use Rattle.heap_audit.specs.Records.{ValueShows}
use Rattle.heap_audit.specs.Told.{dump_told}
use Rattle.heap_audit.proofs.records.record.wrong_value.Given as goal

abbrev pub invariant-loop-x : goal.invariant-loop-x
invariant-loop-x l =
    (k : ℕ) → k < l.x → ValueShows (dump_told l.heap) l.wanted k ((dump_told l.heap).table.heap (l.at + word_of_value l.wanted.kind k))
