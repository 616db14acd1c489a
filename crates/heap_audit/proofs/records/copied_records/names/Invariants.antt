use Rattle.std.proofs.Common.{◌<◌, ◌^◌, ◌↔◌, IsTrue, map, nat_eq, take}
use Rattle.std.specs.HashSet.{contains}
use Rattle.plain_state.specs.declared.value.Identity.{Identity}
use Rattle.heap_audit.specs.Copied.{IsCopyAmong}
use Rattle.heap_audit.specs.Records.{key_of}
use Rattle.heap_audit.specs.Told.{dump_told}
use Rattle.heap_audit.specs.Walks.{walked}
use Rattle.heap_audit.proofs.records.copied_records.names.Given as goal

-- the identities of those that were copied among the records so far
abbrev pub invariant-loop-found : goal.invariant-loop-found
invariant-loop-found l =
    (i : Identity) → i.serial < 2 ^ 40 → IsTrue (contains nat_eq l.named (key_of i)) ↔ IsCopyAmong (dump_told l.heap) l.copies (map walked (take l.found-index l.records)) i
