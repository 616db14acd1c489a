use Rattle.heap_laws.proofs.Scanning.Fields.{passes, asks, stores}
use Rattle.heap_laws.proofs.laws.scanning.fields_are_scanned.Goals as goal

pub returns : goal.returns
returns c = record { passed = passes; asked = asks; stored = stores }
