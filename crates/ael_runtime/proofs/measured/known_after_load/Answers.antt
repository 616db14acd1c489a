use Rattle.std.proofs.Common.{refl}
use Rattle.ael_runtime.proofs.KnownLengths.{spares_ld}
use Rattle.ael_runtime.proofs.measured.known_after_load.Goals as goal

pub returns-in-Some : goal.returns-in-Some
returns-in-Some c base x = (c.in-Some.is, refl, spares_ld c.args.into base x c.in-Some.measured.register c.if-measured-into.true)
