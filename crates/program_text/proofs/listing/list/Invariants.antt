use Rattle.std.proofs.Common.{◌≡◌, ◌++◌, drop}
use Rattle.std.specs.List.{flat_map}
use Rattle.std.specs.String.{string_bytes}
use Rattle.mutator_asm.specs.Listing.{line_text, section_lines}
use Rattle.program_text.proofs.listing.list.Given as goal

abbrev pub invariant-loop-section : goal.invariant-loop-section
invariant-loop-section l =
    string_bytes l.out ++ flat_map line_text (flat_map section_lines (drop l.section-index l.section-items))
    ≡ string_bytes l.initial.out ++ flat_map line_text (flat_map section_lines l.section-items)
