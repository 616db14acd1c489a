use Rattle.std.proofs.Common.{ap, ◌∙◌}
use Rattle.std.specs.List.{list_all}
use Rattle.ael_jobs.specs.Runs.Verdict.{has_ended}
use Rattle.ael_jobs.specs.Runs.Told.{RunReport}
use Rattle.ael_jobs.proofs.WholeRuns.Threading.{all_ended}
use Rattle.ael_jobs.proofs.runs.closed_heap.ClosedHeapReport.all_ended.Goals as goal

pub returns : goal.returns
returns c = all_ended c.self.inside.outputs.mutators.items ∙ ap (λ (t : RunReport). list_all has_ended t.seen) c.self.view_is
