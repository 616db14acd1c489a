use Rattle.heap_laws.proofs.Saving.Sparing.{zeros_are_spared, new_pages_are_loose, new_pages_are_spared}
use Rattle.heap_laws.proofs.laws.saving.spares.new_pages_are_spared.Goals as goal

pub returns : goal.returns
returns c = record { zeros = zeros_are_spared; loose = new_pages_are_loose; pages = new_pages_are_spared }
