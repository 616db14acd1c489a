use Rattle.std.proofs.Common.{◌≡◌, ◌++◌, take}
use Rattle.std.specs.List.{flat_map}
use Rattle.std.specs.String.{string_bytes}
use Rattle.plain_heap.specs.Checkpoints.Checkpoint.{record_line}
use Rattle.checkpoint_text.specs.Records.{content_of}
use Rattle.checkpoint_text.specs.Words.{saved_heap}
use Rattle.checkpoint_text.proofs.lines.push_lines.Given as goal

-- the lines so far
abbrev pub invariant-loop-record : goal.invariant-loop-record
invariant-loop-record l = string_bytes l.out ≡ string_bytes l.initial.out ++ flat_map (λ r. record_line (content_of (saved_heap l.words) r)) (take l.record-index l.record-items)
