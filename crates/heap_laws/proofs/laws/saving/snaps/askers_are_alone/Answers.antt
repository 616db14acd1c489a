use Rattle.heap_laws.proofs.Saving.Requests.{runners_are_counted, askers_are_alone}
use Rattle.heap_laws.proofs.laws.saving.snaps.askers_are_alone.Goals as goal

pub returns : goal.returns
returns c = record { runners = runners_are_counted; askers = askers_are_alone }
