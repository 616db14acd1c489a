use Rattle.std.proofs.Common.{◌∙◌, refl}
use Rattle.ael_threads.proofs.WholeCalls.AtRest.{same_end_silent}
use Rattle.ael_threads.proofs.WholeCalls.FromActs.{quiet_first}
use Rattle.ael_threads.proofs.mutator.Mutator.poll.Goals as goal

pub loop-init : goal.loop-init
loop-init g c = (refl, quiet_first c.args.self.now c.requires.no_task)

pub loop-preserved : goal.loop-preserved
loop-preserved g c = (
  c.comes_to_rest.ensures.table ∙ c.loop.invariant.0,
  c.comes_to_rest.ensures.quiet c.args.self.now c.loop.invariant.1,
)

pub returns-then-comes_to_rest-clause-quiet : goal.returns-then-comes_to_rest-clause-quiet
returns-then-comes_to_rest-clause-quiet g c = c.comes_to_rest.ensures.quiet c.args.self.now c.loop.invariant.1

pub returns-then-comes_to_rest-clause-end : goal.returns-then-comes_to_rest-clause-end
returns-then-comes_to_rest-clause-end g c =
    same_end_silent c.args.self.now c.comes_to_rest.new.self c.known.ensures.there c.known.ensures.shows (c.comes_to_rest.ensures.shows c.if-comes_to_rest.true)
    (c.comes_to_rest.ensures.quiet c.args.self.now c.loop.invariant.1)
