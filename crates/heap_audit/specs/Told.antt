-- What a dump tells of its heap.
use Rattle.std.specs.Prelude.{◌≡◌, ℕ, ◌+◌, ◌*◌, length}
use Rattle.crossing_map.specs.Crossing.{pairs_kept}
use Rattle.dump_text.specs.Said.{register_told}
use Rattle.heap_state.specs.Meaning.Dump.{Dump}
use Rattle.heap_state.specs.Meaning.Represents.{IsCopying}
use Rattle.heap_state.specs.Memory.Table.{Table, table_of}
use Rattle.space_map.specs.Spaces.{space_start}
use Rattle.space_map.specs.declared.spaces.TheConstants.{PAGE_WORDS}
use Rattle.heap_audit.specs.declared.told_heap.Extent.{Extent}
use Rattle.heap_audit.specs.declared.told_heap.ToldHeap.{ToldHeap}

abbrev pub dump_told : ToldHeap → Dump
dump_told h = record {
  table = table_of h.spaces.pages h.words.now;
  kept = pairs_kept h.kept.now;
  mutators = length h.registers.now;
  registers = register_told h.registers.now;
}

-- The walk over the chain of copied cells may have emptied cells: the epoch isn't traced, and its turn is taken.
abbrev pub MayHaveEmptied : Table → Type 0
MayHaveEmptied t = IsCopying t × (t.weak_turn ≡ t.gate.epoch + 1)

-- where the parts of a space lie
abbrev pub extent_of : Table → (space : ℕ) → Extent
extent_of t space = record {
  start = space_start t.pages space;
  front = space_start t.pages space + (t.area space).front;
  low = space_start t.pages space + (t.area space).low;
  end = space_start t.pages space + PAGE_WORDS * t.in_use space;
}
