-- Which cells of a configuration are empty, by the words alone.
use Rattle.std.specs.Prelude.{ℕ, ◌+◌, ◌==◌, List, Option, Some, None, if◌then◌else◌}
use Rattle.std.specs.List.{flat_map}
use Rattle.std.specs.Option.{option_to_list}
use Rattle.heap_words.specs.declared.kind.Kind.TheVariants.{Weak}
use Rattle.heap_words.specs.Decoded.{Decoded, NumberWord, HeaderWord, decode}
use Rattle.plain_state.specs.declared.value.Identity.{Identity}
use Rattle.heap_state.specs.Configuration.{Configuration, table}
use Rattle.heap_state.specs.Memory.Walk.{Walked, walk_of}

-- the identity of a cell whose target is the number 0, by its header and its target
abbrev pub empty_cell : (header target : Decoded) → Option Identity
empty_cell (HeaderWord Weak len serial mutator) (NumberWord n) = if n == 0 then Some (record { mutator = mutator; serial = serial }) else None
empty_cell header target = None

abbrev pub empty_cell_at : (heap : ℕ → ℕ) → Walked → Option Identity
empty_cell_at heap w = empty_cell (decode (heap w.at)) (decode (heap (w.at + 1)))

-- the cells in the walk of the epoch's space whose targets are the number 0
abbrev pub empty_cells : Configuration → List Identity
empty_cells c = flat_map (λ w. option_to_list (empty_cell_at (table c).heap w)) (walk_of c)
