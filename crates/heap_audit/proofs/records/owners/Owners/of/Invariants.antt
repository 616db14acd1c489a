use Rattle.std.proofs.Common.{◌<◌, ◌^◌, map, take}
use Rattle.std.specs.Prelude.{nat_eq}
use Rattle.std.specs.HashMap.{get}
use Rattle.plain_state.specs.declared.value.Identity.{Identity}
use Rattle.heap_audit.specs.Firsts.{TellsFirst}
use Rattle.heap_audit.specs.Records.{NoneOwned, key_of}
use Rattle.heap_audit.specs.Told.{dump_told}
use Rattle.heap_audit.specs.Walks.{walked}
use Rattle.heap_audit.proofs.records.owners.Owners.of.Given as goal

-- the owners among the records so far
abbrev pub invariant-loop-found : goal.invariant-loop-found
invariant-loop-found l =
    (i : Identity) → i.serial < 2 ^ 40 → TellsFirst (NoneOwned (dump_told l.heap) (map walked (take l.found-index l.records)) i) (get nat_eq l.first (key_of i))
