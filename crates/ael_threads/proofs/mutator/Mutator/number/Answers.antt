use Rattle.std.proofs.Common.{◌<◌, ap, subst}
use Rattle.ael_threads.specs.Seats.{Seated}
use Rattle.ael_threads.specs.declared.mutator.Mutator.TheInside.{Inside}
use Rattle.ael_threads.proofs.WholeCalls.Acts.{heads_of, is_there}
use Rattle.ael_threads.proofs.mutator.Mutator.number.Goals as goal

pub returns-clause-there : goal.returns-clause-there
returns-clause-there c =
    is_there c.args.self.now (heads_of _ _ c.self.view_is (heads_of _ _ (ap (λ (z : Inside). z.caller) c.self-inside.view_is) c.self-inside.invariant.1))
    (subst (λ (z : Seated). z.worker.number < z.worker.mutators) c.self.view_is c.self.invariant)
