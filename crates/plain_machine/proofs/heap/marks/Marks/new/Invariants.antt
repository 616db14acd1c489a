use Rattle.std.proofs.Common.{◌≡◌, take}
use Rattle.plain_machine.specs.Search.{no_marks}
use Rattle.plain_machine.proofs.heap.marks.Marks.new.Given as goal

abbrev pub invariant-loop-list : goal.invariant-loop-list
invariant-loop-list l = l.lists.items ≡ no_marks (take l.list-index l.records)
