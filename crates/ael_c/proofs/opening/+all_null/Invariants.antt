-- fewer are left
use Rattle.std.proofs.Common.{length}
use Rattle.ael_c.proofs.opening.+all_null.Given as goal

abbrev pub decreases-all_null : goal.decreases-all_null
decreases-all_null l = length l.handles.now
