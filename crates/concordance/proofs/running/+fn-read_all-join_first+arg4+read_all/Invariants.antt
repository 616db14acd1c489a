-- fewer clerks are left
use Rattle.std.proofs.Common.{◌+◌, ◌*◌, length}
use Rattle.concordance.proofs.running.+fn-read_all-join_first+arg4+read_all.Given as goal

abbrev pub decreases-join_first+arg4 : goal.decreases-join_first+arg4
decreases-join_first+arg4 g l = length l.rest.now * 2 + 1

abbrev pub decreases-read_all : goal.decreases-read_all
decreases-read_all g l = length l.clerks.now * 2
