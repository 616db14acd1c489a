use Rattle.heap_laws.proofs.Scanning.Claimed.{claims, sleeper_loses}
use Rattle.heap_laws.proofs.laws.scanning.pages_are_claimed.Goals as goal

pub returns : goal.returns
returns c = record { claimed = claims; asleep = sleeper_loses }
