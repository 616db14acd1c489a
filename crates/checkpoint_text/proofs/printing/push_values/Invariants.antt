use Rattle.std.proofs.Common.{◌≡◌, ◌++◌}
use Rattle.std.specs.String.{string_bytes}
use Rattle.plain_heap.specs.Checkpoints.Checkpoint.{values_text}
use Rattle.checkpoint_text.specs.Records.{values_read}
use Rattle.checkpoint_text.specs.Words.{saved_heap}
use Rattle.checkpoint_text.proofs.printing.push_values.Given as goal

-- the values so far
abbrev pub invariant-loop-x : goal.invariant-loop-x
invariant-loop-x l = string_bytes l.out ≡ string_bytes l.initial.out ++ values_text (values_read (saved_heap l.words) l.first l.fields l.x)
