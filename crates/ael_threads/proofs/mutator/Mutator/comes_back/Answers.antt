use Rattle.std.proofs.Common.{◌∙◌}
use Rattle.ael_threads.proofs.WholeCalls.AfterSnap.{goes_more}
use Rattle.ael_threads.proofs.mutator.Mutator.comes_back.Goals as goal

pub loop-preserved : goal.loop-preserved
loop-preserved c = (
  c.act.ensures.table ∙ c.loop.invariant.0,
  λ a g. goes_more a c.loop.self c.act.new.self c.act.result (c.loop.invariant.1 a g) c.act.ensures.act,
)
