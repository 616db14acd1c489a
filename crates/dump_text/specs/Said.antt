-- What a dump says of the heap, by itself.
use Rattle.std.specs.Prelude.{ℕ, List, [], length, slice_index, slice_index_or}
use Rattle.heap_state.specs.Meaning.Dump.{Dump}
use Rattle.heap_state.specs.Memory.Table.{table_of}
use Rattle.dump_text.specs.Text.{Dumped}

-- a register of a mutator; one that isn't there holds 0
abbrev pub register_told : List (List ℕ) → (m j : ℕ) → ℕ
register_told registers m j = slice_index (slice_index_or registers m []) j

-- the table that its words spell, and as many mutators as have registers
abbrev pub dump_said : Dumped → Dump
dump_said d = record { table = table_of d.pages d.words; kept = d.kept; mutators = length d.registers; registers = register_told d.registers }
