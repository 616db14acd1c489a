use Rattle.std.proofs.Common.{◌∙◌, refl}
use Rattle.ael_threads.proofs.WholeCalls.FromActs.{quiet_all, quiet_first}
use Rattle.ael_threads.proofs.mutator.Mutator.polls.Goals as goal

pub loop-init : goal.loop-init
loop-init g c = (refl, quiet_first c.args.self.now c.requires.no_task, refl)

pub loop-preserved : goal.loop-preserved
loop-preserved g c = (
  c.poll.ensures.table ∙ c.loop.invariant.0,
  quiet_all c.args.self.now c.loop.self c.poll.new.self c.loop.invariant.1 c.poll.ensures.quiet,
  c.poll.ensures.end ∙ c.loop.invariant.2,
)

pub returns-then-load-clause-quiet : goal.returns-then-load-clause-quiet
returns-then-load-clause-quiet g c = quiet_all c.args.self.now c.loop.self c.poll.new.self c.loop.invariant.1 c.poll.ensures.quiet
