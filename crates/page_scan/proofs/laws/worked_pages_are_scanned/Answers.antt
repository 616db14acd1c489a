use Rattle.page_scan.proofs.WorkedOut.{is_worked_out}
use Rattle.page_scan.proofs.laws.worked_pages_are_scanned.Goals as goal

pub returns : goal.returns
returns c = is_worked_out
