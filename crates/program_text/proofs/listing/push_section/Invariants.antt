use Rattle.std.proofs.Common.{◌≡◌, ◌++◌, drop}
use Rattle.std.specs.List.{flat_map}
use Rattle.std.specs.String.{string_bytes}
use Rattle.mutator_asm.specs.Listing.{instr_lines, line_text}
use Rattle.program_text.proofs.listing.push_section.Given as goal

abbrev pub invariant-loop-k : goal.invariant-loop-k
invariant-loop-k l =
    string_bytes l.out ++ flat_map line_text (instr_lines l.section l.k (drop l.k l.section))
    ≡ string_bytes l.initial.out ++ flat_map line_text (instr_lines l.section 0 l.section)
