use Rattle.alloc_end.proofs.Reserving.{looks_at_traced, looks_at_size, claims, loses}
use Rattle.alloc_end.proofs.laws.claims_keep_the_reserve.Goals as goal

pub returns : goal.returns
returns c = record { claimed = claims; lost = loses; traced = looks_at_traced; size = looks_at_size }
