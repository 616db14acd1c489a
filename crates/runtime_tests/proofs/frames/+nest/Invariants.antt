-- how deep it still goes
use Rattle.std.proofs.Common.{ℕ}
use Rattle.runtime_tests.proofs.frames.+nest.Given as goal

abbrev pub decreases-nest : goal.decreases-nest
decreases-nest g l = l.depth
