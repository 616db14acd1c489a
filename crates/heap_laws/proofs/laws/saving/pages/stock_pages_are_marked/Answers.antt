use Rattle.heap_laws.proofs.Saving.Pages.Writes.{stock_pages_are_marked}
use Rattle.heap_laws.proofs.laws.saving.pages.stock_pages_are_marked.Goals as goal

pub returns : goal.returns
returns c = stock_pages_are_marked
