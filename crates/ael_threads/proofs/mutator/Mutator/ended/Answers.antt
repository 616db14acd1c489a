use Rattle.std.proofs.Common.{◌≡◌, ◌∙◌, ◌<◌, Some, ap, subst, sym}
use Rattle.gc_worker.specs.Workers.Held.{Held}
use Rattle.ael_threads.specs.Seats.{Seated}
use Rattle.ael_threads.specs.declared.mutator.Mutator.TheInside.{Inside}
use Rattle.ael_threads.proofs.WholeCalls.Acts.{heads_of, is_there, no_task}
use Rattle.ael_threads.proofs.WholeCalls.BetweenSteps.{shows_of}
use Rattle.ael_threads.proofs.mutator.Mutator.ended.Goals as goal

pub returns-clause-shows : goal.returns-clause-shows
returns-clause-shows c = shows_of _ _ c.self.view_is (shows_of _ _ (ap (λ (z : Inside). z.caller) c.self-inside.view_is) c.self-inside.invariant.4)

pub returns-clause-no_task : goal.returns-clause-no_task
returns-clause-no_task c end is =
    let a = c.args.self.now in
    let same : a.worker.account.end ≡ Some end = ap (λ (z : Seated). z.worker.account.end) (sym c.self.view_is) ∙ (ap (λ (z : Inside). z.caller.worker.account.end) (sym c.self-inside.view_is) ∙ (ap (λ (z : Held). z.account.end) (sym c.deref.ensures) ∙ (sym c.ended.ensures ∙ is))) in
    no_task a.knows.plan a.worker a.knows.hands end (heads_of _ _ c.self.view_is (heads_of _ _ (ap (λ (z : Inside). z.caller) c.self-inside.view_is) c.self-inside.invariant.1)) same

pub returns-clause-there : goal.returns-clause-there
returns-clause-there c =
    is_there c.args.self.now (heads_of _ _ c.self.view_is (heads_of _ _ (ap (λ (z : Inside). z.caller) c.self-inside.view_is) c.self-inside.invariant.1))
    (subst (λ (z : Seated). z.worker.number < z.worker.mutators) c.self.view_is c.self.invariant)
