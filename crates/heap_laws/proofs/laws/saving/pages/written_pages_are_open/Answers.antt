use Rattle.heap_laws.proofs.Saving.Pages.Writes.{written_pages_are_open}
use Rattle.heap_laws.proofs.laws.saving.pages.written_pages_are_open.Goals as goal

pub returns : goal.returns
returns c = written_pages_are_open
