-- fewer are left
use Rattle.std.proofs.Common.{length}
use Rattle.ael_c.proofs.opening.+deal_mutators.Given as goal

abbrev pub decreases-deal_mutators : goal.decreases-deal_mutators
decreases-deal_mutators l = length l.handles.now
