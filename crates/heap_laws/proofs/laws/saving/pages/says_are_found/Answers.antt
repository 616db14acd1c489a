use Rattle.heap_laws.proofs.Saving.Pages.Writes.{says_are_found, none_is_of_later}
use Rattle.heap_laws.proofs.laws.saving.pages.says_are_found.Goals as goal

pub returns : goal.returns
returns c = record { words = says_are_found; later = none_is_of_later }
