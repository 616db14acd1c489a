use Rattle.std.proofs.Common.{◌≡◌, None, sym, ◌∙◌, subst}
use Rattle.ael_threads.specs.Seats.{Seated}
use Rattle.concordance.proofs.Working.Silence.{KeepsSilent, silent_first, silent_more, stays_silent}
use Rattle.concordance.proofs.clerk.Clerk.looks.Goals as goal

pub loop-init : goal.loop-init
loop-init c = (c.self.invariant.0, subst (KeepsSilent c.args.self.now) (sym c.self.view_is) (silent_first c.args.self.now))

pub loop-preserved : goal.loop-preserved
loop-preserved c = (
  c.act.ensures.table ∙ c.loop.invariant.0,
  silent_more c.args.self.now c.loop.self-inside.mutator c.act.new.self c.act.result c.loop.invariant.1 c.act.ensures.act c.act.ensures.table,
)

pub act-requires : goal.act-requires
act-requires c = c.loop.invariant.0

pub invariant_of-self : goal.invariant_of-self
invariant_of-self c = (
  c.loop.invariant.0,
  (stays_silent c.args.self.now c.loop.self-inside.mutator c.loop.invariant.1 (subst (λ (s : Seated). s.worker.task ≡ None) c.self.view_is c.self.invariant.1)).none,
)
