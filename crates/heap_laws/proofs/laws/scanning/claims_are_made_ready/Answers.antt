use Rattle.heap_laws.proofs.Scanning.Claims.{begins_claim, looks_at_place, looks_at_gate}
use Rattle.heap_laws.proofs.laws.scanning.claims_are_made_ready.Goals as goal

pub returns : goal.returns
returns c = record { begun = begins_claim; places = looks_at_place; gate = looks_at_gate }
