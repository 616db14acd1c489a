-- The most steps of an instruction are more than an instruction, one tracing before it, and a checkpoint in progress cost.
use Rattle.std.proofs.Common.{ℕ, ◌+◌, ◌*◌, ◌<◌, ◌≤◌, Bool, true, false, cond, arith}
use Rattle.std.proofs.Math.Nat.{mul-le-mul_left}
use Rattle.space_map.specs.Spaces.{Layout}
use Rattle.lone_mutator.specs.Bound.{most_steps, most_steps_of, longest_tracing, save_round_cost, whole_cost}

pub costs_lt_most : (n : ℕ) → 4 ≤ n → whole_cost n + 5 + longest_tracing n + save_round_cost n * (2 * n + 2) < most_steps n
unfolding most_steps longest_tracing
costs_lt_most n few = let square : n * 4 ≤ n * n = mul-le-mul_left n few in omega (arith, square, few)

by_room : (n : ℕ) (checkpoints : Bool) → most_steps n ≤ cond checkpoints (2 * most_steps n) (most_steps n)
by_room n true = omega arith
by_room n false = omega arith

pub most_le_most_of : (l : Layout) → most_steps l.pages ≤ most_steps_of l
most_le_most_of l = by_room l.pages l.checkpoints
