use Rattle.std.proofs.Common.{◌∙◌, subst}
use Rattle.ael_threads.specs.Calls.{StaysSilent}
use Rattle.ael_threads.specs.Seats.{Seated}
use Rattle.ael_runtime.specs.Reading.{SeesSame}
use Rattle.ael_runtime.proofs.KnownLengths.{known_silent}
use Rattle.ael_runtime.proofs.ShownRegisters.{mine_silent, sees_same}
use Rattle.ael_runtime.proofs.local.Local.away.Goals as goal

pub returns-clause-same : goal.returns-clause-same
returns-clause-same g c =
    subst (λ (s : Seated). SeesSame s c.away.new.self) c.self.view_is (sees_same c.self.inside.mutator c.away.new.self c.away.ensures.quiet c.away.ensures.end)

pub returns-clause-quiet : goal.returns-clause-quiet
returns-clause-quiet g c = subst (λ (s : Seated). StaysSilent s c.away.new.self) c.self.view_is c.away.ensures.quiet

pub invariant_of-self : goal.invariant_of-self
invariant_of-self g c = (
  c.away.ensures.table ∙ c.self.invariant.0,
  c.away.ensures.quiet.none,
  mine_silent c.self.inside.mutator c.away.new.self c.away.ensures.quiet c.self.invariant.2,
  known_silent c.self.inside.mutator c.away.new.self c.self.inside.known (sees_same c.self.inside.mutator c.away.new.self c.away.ensures.quiet c.away.ensures.end) c.self.invariant.3,
)
