use Rattle.std.proofs.Common.{◌*◌, ◌<◌, IfSome, map, take}
use Rattle.space_map.specs.Spaces.{past_heaps}
use Rattle.heap_audit.specs.Firsts.{TellsFirst}
use Rattle.heap_audit.specs.Told.{dump_told}
use Rattle.heap_audit.specs.Walks.{walked}
use Rattle.heap_audit.proofs.ShownRecords.FoundWords.{SeenBy}
use Rattle.heap_audit.proofs.places.first_place.wrong_heap_word.Given as goal

-- the first word of the records so far
abbrev pub invariant-loop-i : goal.invariant-loop-i
invariant-loop-i l = record {
  first : TellsFirst (SeenBy (dump_told l.heap) l.plain (map walked (take l.i l.walks.records.items))) l.first;
  short : IfSome l.first (λ a. a < 2 * past_heaps);
}
