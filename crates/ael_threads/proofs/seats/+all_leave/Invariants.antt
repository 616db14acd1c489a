-- fewer are left
use Rattle.std.proofs.Common.{length}
use Rattle.ael_threads.proofs.seats.+all_leave.Given as goal

abbrev pub decreases-all_leave : goal.decreases-all_leave
decreases-all_leave g l = length l.mutators.now
