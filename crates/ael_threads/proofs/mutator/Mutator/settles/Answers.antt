use Rattle.std.proofs.Common.{◌∙◌}
use Rattle.ael_threads.proofs.mutator.Mutator.settles.Goals as goal

pub loop-preserved : goal.loop-preserved
loop-preserved g c = (
  c.comes_back.ensures.table ∙ c.loop.invariant.0,
  λ a h. c.comes_back.ensures.goes_on a (c.loop.invariant.1 a h),
)
