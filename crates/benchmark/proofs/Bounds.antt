-- How many keys a tree has.
use Rattle.std.proofs.Common.{ℕ, ◌^◌, ◌≤◌}
use Rattle.std.proofs.Math.Pow.{pow_mono}

pub pow_from_1_to_9 : (depth : ℕ) → 1 ≤ depth → depth ≤ 9 → (2 ≤ 2 ^ depth) × (2 ^ depth ≤ 512)
pow_from_1_to_9 depth some few = (pow_mono some, pow_mono few)
