use Rattle.std.proofs.Common.{◌<◌, ℕ, List, Some, ap, arith}
use Rattle.ael_jobs.specs.Streams.Ends.{IsFaultless}
use Rattle.ael_commands.proofs.Assured.{goes_as}
use Rattle.ael_commands.proofs.sure.sure_status.Goals as goal

never : IsFaultless 0 0
never rose = let falls : 0 < 0 = rose (omega arith) in omega (arith, falls)

pub returns : goal.returns
returns g c = λ job asked few right.
    goes_as _ c.args.input.items c.ael.ensures.complete (ap (λ (bytes : List ℕ). Some bytes) c.new-src.ensures) few never never never job asked right
