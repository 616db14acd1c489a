-- fewer mutators are left
use Rattle.std.proofs.Common.{◌+◌, ◌*◌, length}
use Rattle.ael_threads.proofs.programs.running.+fn-run_workers-join_mut+arg2+run_workers.Given as goal

abbrev pub decreases-join_mut+arg2 : goal.decreases-join_mut+arg2
decreases-join_mut+arg2 g l = length l.rest.now * 2 + 1

abbrev pub decreases-run_workers : goal.decreases-run_workers
decreases-run_workers g l = length l.mutators.now * 2
