-- How many steps of a lone mutator one instruction may take, and what its parts cost at most.
use Rattle.std.specs.Prelude.{ℕ, ◌+◌, ◌*◌, ◌^◌, nat_lt, if◌then◌else◌}
use Rattle.space_map.specs.declared.spaces.TheConstants.{PAGE_WORDS}
use Rattle.space_map.specs.Spaces.{Layout}
use Rattle.cell_walk.specs.Walking.{most_cells}
use Rattle.heap_state.specs.Functions.{sum_below}

-- ---- the bound

abbrev pub steps_per_page : ℕ
steps_per_page = 120000

abbrev pub steps_per_pair : ℕ
steps_per_pair = 240

-- the most steps of an instruction, in a heap whose spaces may have so many pages
unfoldable pub most_steps : ℕ → ℕ
most_steps n = steps_per_page * n + steps_per_pair * (n * n)

-- by its layout: twice as many where checkpoints can be begun
abbrev pub most_steps_of : Layout → ℕ
most_steps_of l = if l.checkpoints then 2 * most_steps l.pages else most_steps l.pages

-- ---- how often a space may still grow

-- 1 if a space of so many pages has fewer than it may have
abbrev pub grows : (n pages : ℕ) → ℕ
grows n pages = if nat_lt pages n then 1 else 0

-- how often a space of so many pages may still double: nine times at most, from the fewest pages to the most
unfoldable pub growths : (n pages : ℕ) → ℕ
growths n pages = sum_below 9 (λ i. grows n (pages * 2 ^ i))

-- the most flips that an instruction may request: one for each growth, and one more
abbrev pub most_flips : ℕ
most_flips = 10

-- ---- what the parts cost

-- a round of the duty without its walk over the chain of cells, and the steps before and after it
abbrev pub round_cost : ℕ → ℕ
round_cost n = 2 * n + 35

-- a page: its scan, its opening, and the next round
abbrev pub page_cost : ℕ → ℕ
page_cost n = round_cost n + 452

-- the walk over the chain of cells, once an epoch
abbrev pub walk_cost : ℕ → ℕ
walk_cost n = 4 * most_cells n + 3

-- the tracing of a whole epoch: the board and all pages, five steps for each word that is copied, and the walk
unfoldable pub longest_tracing : ℕ → ℕ
longest_tracing n = page_cost n * (n + 1) + round_cost n + 5 * (PAGE_WORDS * n) + walk_cost n

-- a look before a write, and the save that it may make
abbrev pub guard_cost : ℕ
guard_cost = 131

-- a save round, and the step to the next one
abbrev pub save_round_cost : ℕ → ℕ
save_round_cost n = 2 * n + 136

-- to read which checkpoint is in progress
abbrev pub recall_cost : ℕ
recall_cost = 2

-- a save round that finds no checkpoint in progress, a request, the flip, eight registers, and the tracing of the new epoch
abbrev pub flip_cost : ℕ → ℕ
flip_cost n = longest_tracing n + save_round_cost n + 58

-- so many of these
unfoldable pub flips_cost : (n flips : ℕ) → ℕ
flips_cost n flips = flip_cost n * flips

-- the pages that a longest record needs
abbrev pub most_pages : ℕ
most_pages = 64

-- an allocation of so many, with a look before each of three words of the record
abbrev pub longest_placing : ℕ
longest_placing = 66 * most_pages + 7 + 3 * guard_cost

-- to begin a checkpoint, beside a round that finds the epoch traced
abbrev pub snap_cost : ℕ
snap_cost = 109

-- a whole instruction, in a traced epoch
abbrev pub whole_cost : ℕ → ℕ
whole_cost n = 1 + longest_placing + most_flips * flip_cost n
