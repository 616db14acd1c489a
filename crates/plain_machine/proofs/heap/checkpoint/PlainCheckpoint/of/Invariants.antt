use Rattle.std.proofs.Common.{◌≡◌, take}
use Rattle.plain_machine.proofs.heap.checkpoint.PlainCheckpoint.of.Given as goal

-- the lists so far
abbrev pub invariant-loop-list : goal.invariant-loop-list
invariant-loop-list l = l.kept.items ≡ take l.list-index l.records
