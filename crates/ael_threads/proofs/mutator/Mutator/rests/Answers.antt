use Rattle.std.proofs.Common.{◌≡◌, ◌∙◌, ◌<◌, true, ap, subst, sym}
use Rattle.gc_worker.specs.Steps.AtRest.{is_at_rest}
use Rattle.ael_threads.specs.Seats.{Heads, Seated}
use Rattle.ael_threads.specs.declared.mutator.Mutator.TheInside.{Inside}
use Rattle.ael_threads.proofs.WholeCalls.Acts.{heads_of, is_there}
use Rattle.ael_threads.proofs.WholeCalls.AtRest.{looks_at_rest, none_at_rest}
use Rattle.ael_threads.proofs.WholeCalls.BetweenSteps.{shows_of}
use Rattle.ael_threads.proofs.mutator.Mutator.rests.Goals as goal

pub returns-clause-shows : goal.returns-clause-shows
returns-clause-shows c = shows_of _ _ c.self.view_is (shows_of _ _ (ap (λ (z : Inside). z.caller) c.self-inside.view_is) c.self-inside.invariant.4)

pub returns-clause-no_task : goal.returns-clause-no_task
returns-clause-no_task c is =
    let a = c.args.self.now in
    let rests : is_at_rest a.worker ≡ true = ap (λ (z : Seated). is_at_rest z.worker) (sym c.self.view_is) ∙ (ap (λ (z : Inside). is_at_rest z.caller.worker) (sym c.self-inside.view_is) ∙ (ap is_at_rest (sym c.deref.ensures) ∙ (sym c.is_at_rest.ensures ∙ is))) in
    none_at_rest a.knows.plan a.worker a.knows.hands (heads_of _ _ c.self.view_is (heads_of _ _ (ap (λ (z : Inside). z.caller) c.self-inside.view_is) c.self-inside.invariant.1)) rests

pub returns-clause-looks : goal.returns-clause-looks
returns-clause-looks c is none =
    let a = c.args.self.now in
    let rests : is_at_rest a.worker ≡ true = ap (λ (z : Seated). is_at_rest z.worker) (sym c.self.view_is) ∙ (ap (λ (z : Inside). is_at_rest z.caller.worker) (sym c.self-inside.view_is) ∙ (ap is_at_rest (sym c.deref.ensures) ∙ (sym c.is_at_rest.ensures ∙ is))) in
    let heads : Heads a.knows.plan a.worker a.knows.hands = heads_of _ _ c.self.view_is (heads_of _ _ (ap (λ (z : Inside). z.caller) c.self-inside.view_is) c.self-inside.invariant.1) in
    looks_at_rest a.knows.plan a.worker a.knows.hands heads (subst (λ (z : Seated). z.worker.number < z.worker.mutators) c.self.view_is c.self.invariant) rests none

pub returns-clause-there : goal.returns-clause-there
returns-clause-there c =
    is_there c.args.self.now (heads_of _ _ c.self.view_is (heads_of _ _ (ap (λ (z : Inside). z.caller) c.self-inside.view_is) c.self-inside.invariant.1))
    (subst (λ (z : Seated). z.worker.number < z.worker.mutators) c.self.view_is c.self.invariant)
