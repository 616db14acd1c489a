-- fewer are left
use Rattle.std.proofs.Common.{length}
use Rattle.ael_c.proofs.opening.+clear.Given as goal

abbrev pub decreases-clear : goal.decreases-clear
decreases-clear l = length l.handles.now
