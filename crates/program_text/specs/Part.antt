-- The sections that the code keeps, without their labels.
use Rattle.std.specs.Prelude.{List, map}
use Rattle.program_text.specs.declared.text.part.Part.{Part}
use Rattle.mutator_asm.specs.Line.{Line}
use Rattle.program_text.specs.Read.{lines_view}

-- the lines of a section
abbrev pub part_view : Part → List Line
part_view part = lines_view part.lines.now

-- the lines of each section
abbrev pub parts_view : List Part → List (List Line)
parts_view parts = map part_view parts
