use Rattle.std.proofs.Common.{◌≡◌, ◌*◌}
use Rattle.std.specs.Fn.{iterate}
use Rattle.rand_xoshiro.specs.SplitMix64.{next_state}
use Rattle.benchmark.proofs.keys.seed_behind.Given as goal

abbrev pub invariant-loop : goal.invariant-loop
invariant-loop l = l.words ≡ iterate next_state (2 * l.counter) l.seed
