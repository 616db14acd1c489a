use Rattle.heap_laws.proofs.Saving.Sparing.{tracing_is_before, traced_words_are_spared, claims_are_spared, scanned_pages_are_spared, traced_is_spared}
use Rattle.heap_laws.proofs.laws.saving.spares.tracing_is_spared.Goals as goal

pub returns : goal.returns
returns c = record { before = tracing_is_before; words = traced_words_are_spared; claims = claims_are_spared; pages = scanned_pages_are_spared; traced = traced_is_spared }
