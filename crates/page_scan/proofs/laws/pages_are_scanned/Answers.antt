use Rattle.page_scan.proofs.Boards.{boards}
use Rattle.page_scan.proofs.ScannedPages.{pages}
use Rattle.page_scan.proofs.WorkedPacked.{worked_are_packed}
use Rattle.page_scan.proofs.laws.pages_are_scanned.Goals as goal

pub returns : goal.returns
returns c = record { pages = pages; boards = boards; some_pages = worked_are_packed }
