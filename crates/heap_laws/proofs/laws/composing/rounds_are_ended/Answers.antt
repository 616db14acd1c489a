use Rattle.heap_laws.proofs.Steps.Composites.{looks_at_last_page, claims_begin, rounds_end}
use Rattle.heap_laws.proofs.laws.composing.rounds_are_ended.Goals as goal

pub returns : goal.returns
returns c = record { last = looks_at_last_page; claims = claims_begin; ends = rounds_end }
