use Rattle.heap_laws.proofs.Saving.Requests.{gates_are_found_still, clears_are_spared}
use Rattle.heap_laws.proofs.Saving.Snapping.{snaps_are_begun, snaps_are_kept}
use Rattle.heap_laws.proofs.laws.saving.snaps.snaps_are_kept.Goals as goal

pub returns : goal.returns
returns c = record { still = gates_are_found_still; words = snaps_are_begun; kept = snaps_are_kept; cleared = clears_are_spared }
