use Rattle.std.proofs.Common.{◌≡◌, map, take}
use Rattle.program_text.specs.Part.{parts_view}
use Rattle.mutator_asm.specs.Text.{section_of}
use Rattle.program_text.proofs.text.code.Given as goal

abbrev pub invariant-loop-part : goal.invariant-loop-part
invariant-loop-part l = l.sections.items ≡ map section_of (parts_view (take l.part-index l.numbered))
