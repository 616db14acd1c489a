-- The schedule of a run: the worker that each position names.
use Rattle.std.specs.Prelude.{ℕ, ◌%◌, List, [], ◌∷◌, length, replicate, Option, Some, None, slice_index_or}
use Rattle.std.specs.Fn.{iterate}
use Rattle.std.specs.List.{flat_map}
use Rattle.rand_xoshiro.specs.SplitMix64.{mix_u64, next_state}
use Rattle.mutator_asm.specs.declared.item.Item.{Item}
use Rattle.gc_core.specs.Run.{in_turn}

-- by a seed: the next word of SplitMix64, whose state is the seed at first, modulo the number of workers
abbrev pub drawn : ℕ → ℕ → ℕ → ℕ
drawn seed workers at = (mix_u64 (iterate next_state at seed)).0 % workers

-- the steps of the items, one item after another: so many of its worker each
abbrev pub steps_listed : List Item → List ℕ
steps_listed items = flat_map (λ i. replicate i.times i.worker) items

-- by a list: its element at the position, the list being repeated for ever
abbrev pub repeated : List ℕ → ℕ → ℕ
repeated steps at = slice_index_or steps (at % length steps) 0

-- A seed has it, or else the items that the text lists, or else the workers have their turns. A
-- position may name a worker that isn't there; then nothing happens, and a step is counted.
abbrev pub scheduled_by : Option ℕ → List Item → ℕ → ℕ → ℕ
scheduled_by (Some seed) items workers = drawn seed workers
scheduled_by None [] workers = in_turn workers
scheduled_by None (item ∷ items) workers = repeated (steps_listed (item ∷ items))
