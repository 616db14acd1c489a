-- What a dump tells of a core.
use Rattle.std.specs.Prelude.{take}
use Rattle.space_map.specs.Table.{table_length}
use Rattle.dump_text.specs.Text.{Dumped}
use Rattle.gc_core.specs.Core.{CoreState}
use Rattle.gc_core.specs.Readers.{registers_in, kept_in}

-- the pages of a space, the registers of each mutator, what each worker keeps, and the words of the table but those that checkpoints save
abbrev pub dumped : CoreState → Dumped
dumped s = record { pages = s.heap.pages; registers = registers_in s; kept = kept_in s; words = take (table_length s.heap.pages) s.heap.words }
