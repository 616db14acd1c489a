use Rattle.heap_laws.proofs.Saving.Pages.PageSaves.{pages_are_saved, save_numbers_rise}
use Rattle.heap_laws.proofs.laws.saving.pages.pages_are_saved.Goals as goal

pub returns : goal.returns
returns c = record { stands = pages_are_saved; numbers = save_numbers_rise }
