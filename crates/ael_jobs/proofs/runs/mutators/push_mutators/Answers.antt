use Rattle.ael_jobs.specs.Runs.Run.{HasFitEnd}
use Rattle.ael_jobs.proofs.Printed.Seeing.{seen_is, so_more, tells_more}
use Rattle.ael_jobs.proofs.runs.mutators.push_mutators.Goals as goal

pub loop-m-preserved : goal.loop-m-preserved
loop-m-preserved g c = record {
  lines = rw c.in_ok-push_mutator.ensures.lines (tells_more _ _ _ _ _ _ c.printed.ensures c.end.ensures c.loop-m.invariant.lines);
  ends = so_more HasFitEnd _ _ _ (seen_is _ _ _ c.printed.ensures c.end.ensures) c.in_ok-push_mutator.ensures.end c.loop-m.invariant.ends;
}
