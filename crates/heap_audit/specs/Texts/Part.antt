-- All that a run prints behind its program, and its text.
use Rattle.std.specs.Prelude.{ℕ, ◌≡◌, List, ◌++◌, length, map}
use Rattle.std.specs.List.{AllByRecursion}
use Rattle.dump_text.specs.Reading.{dump_view}
use Rattle.dump_text.specs.Text.{Dumped, IsDump, dump_text}
use Rattle.plain_heap.specs.Print.{Seen, lines_seen, order_line}
use Rattle.plain_heap.specs.declared.mark.Mark.{Mark}
use Rattle.heap_audit.specs.Texts.Lines.{AreSeen, seen_by}
use Rattle.heap_audit.specs.Texts.Order.{MarkFits}
use Rattle.heap_audit.specs.declared.reading.part.Part.{Part}

-- what is seen of the mutators, the order, and the dump
pub record Output : Type 0 where
  pub seen : List Seen
  pub order : List Mark
  pub dump : Dumped

-- the lines of the mutators, the line of the order, and those of the dump
abbrev pub part_text : Output → List ℕ
part_text output = lines_seen 0 output.seen ++ order_line output.order ++ dump_text output.dump

-- a dump of a heap with so many mutators
pub record IsDumpOf (mutators : ℕ) (d : Dumped) : Type 0 where
  pub is_dump : IsDump d
  pub as_many : length d.registers ≡ mutators

-- a part that a program with so many mutators may have, whether a run of it prints this or not
pub record IsPart (mutators : ℕ) (output : Output) : Type 0 where
  pub seen : AreSeen mutators output.seen
  pub order : AllByRecursion MarkFits output.order
  pub dump : IsDumpOf mutators output.dump

-- a part, without where it lies in memory
abbrev pub part_view : Part → Output
part_view p = record { seen = map seen_by p.mutators.items; order = p.order.items; dump = dump_view p.dump }

-- outputs with as many mutators that have one text are the same
abbrev pub TellsOneOutput : Type 0
TellsOneOutput = (n : ℕ) (a b : Output) → IsPart n a → IsPart n b → part_text a ≡ part_text b → a ≡ b
