use Rattle.concordance.proofs.Working.Silence.{silent_then, stays_silent}
use Rattle.concordance.proofs.clerk.Clerk.stands_by.Goals as goal

pub loop-preserved : goal.loop-preserved
loop-preserved g c =
    let looks = c.looks.ensures in
    silent_then c.args.self.now c.loop.self c.looks.new.self c.loop.invariant (record { table = looks.of_heap; silent = looks.silent; shows = looks.shows })

pub returns-then-load-others-clause-silent : goal.returns-then-load-others-clause-silent
returns-then-load-others-clause-silent g c = stays_silent c.args.self.now c.loop.self c.loop.invariant c.known.ensures
