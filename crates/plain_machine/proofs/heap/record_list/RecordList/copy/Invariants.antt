use Rattle.std.proofs.Common.{◌≡◌, take}
use Rattle.plain_machine.proofs.heap.record_list.RecordList.copy.Given as goal

-- the records so far
abbrev pub invariant-loop-record : goal.invariant-loop-record
invariant-loop-record l = l.records.items ≡ take l.record-index l.record-items
