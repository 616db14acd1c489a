-- fewer are left
use Rattle.std.proofs.Common.{length}
use Rattle.ael_c.proofs.opening.+deal_scanners.Given as goal

abbrev pub decreases-deal_scanners : goal.decreases-deal_scanners
decreases-deal_scanners l = length l.handles.now
