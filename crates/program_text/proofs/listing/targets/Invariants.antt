use Rattle.std.proofs.Common.{◌≡◌, ℕ, ◌+◌, ◌≤◌, length, Some, slice_get, take}
use Rattle.std.specs.List.{list_any}
use Rattle.mutator_asm.specs.Listing.{leads_to}
use Rattle.program_text.proofs.listing.targets.Given as goal

abbrev pub invariant-loop-instr : goal.invariant-loop-instr
invariant-loop-instr l = record {
  all : length l.targets.items ≡ length l.section + 1;
  each : (k : ℕ) → k ≤ length l.section → slice_get l.targets.items k ≡ Some (list_any (leads_to k) (take l.instr-index l.section));
}
