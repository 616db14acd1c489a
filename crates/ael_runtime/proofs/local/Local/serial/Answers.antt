use Rattle.std.proofs.Common.{◌∙◌}
use Rattle.ael_runtime.proofs.ShownRegisters.{serial_shown}
use Rattle.ael_runtime.proofs.local.Local.serial.Goals as goal

pub returns-clause-seen : goal.returns-clause-seen
returns-clause-seen c = rw (← c.self.view_is) (c.serial.ensures.serial ∙ serial_shown c.self.inside.mutator c.serial.ensures.shows c.serial.ensures.there)
