use Rattle.heap_laws.proofs.Steps.Forgotten.{rounds_are_forgotten, traced_is_forgotten, sizes_are_forgotten, scanned_records_are_forgotten, round_fronts_are_forgotten}
use Rattle.heap_laws.proofs.laws.composing.knowledge_is_forgotten.Goals as goal

pub returns : goal.returns
returns c = record { round = rounds_are_forgotten; front = round_fronts_are_forgotten; traced = traced_is_forgotten; size = sizes_are_forgotten; scanned = scanned_records_are_forgotten }
