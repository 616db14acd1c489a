use Rattle.heap_laws.proofs.Scanning.Opened.{opens}
use Rattle.heap_laws.proofs.laws.scanning.pages_are_opened.Goals as goal

pub returns : goal.returns
returns c = opens
