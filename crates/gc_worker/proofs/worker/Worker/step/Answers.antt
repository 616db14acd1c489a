use Rattle.std.proofs.Common.{sym, subst}
use Rattle.gc_worker.specs.Workers.Held.{Held}
use Rattle.gc_worker.specs.Steps.Made.{MayMake}
use Rattle.gc_worker.proofs.Workers.Sound.{made_are_sound}
use Rattle.gc_worker.proofs.worker.Worker.step.Goals as goal

pub invariant_of-self : goal.invariant_of-self
invariant_of-self c =
    let may = subst (λ (x : Held). MayMake x c.args.on.now) (sym c.self.view_is) c.requires.may in
    made_are_sound c.self.inside.state c.step.new.self c.args.on.now c.step.ensures.state c.self.invariant may
