use Rattle.std.proofs.Common.{subst}
use Rattle.gc_core.specs.Law.{IsLawful}
use Rattle.gc_core.proofs.machine.Core.lawful.Goals as goal

pub returns : goal.returns
returns c = subst IsLawful c.self.view_is c.self.invariant.2
