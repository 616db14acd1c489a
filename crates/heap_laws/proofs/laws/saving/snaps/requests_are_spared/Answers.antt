use Rattle.heap_laws.proofs.Saving.Requests.{requests_are_spared, runners_are_spared}
use Rattle.heap_laws.proofs.laws.saving.snaps.requests_are_spared.Goals as goal

pub returns : goal.returns
returns c = record { requests = requests_are_spared; runs = runners_are_spared }
