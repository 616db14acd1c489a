use Rattle.heap_laws.proofs.Tracing.TracingLoads.{begins_look, looks_at_front, looks_at_board, looks_at_page, looks_at_filling, looks_again, claims_filling}
use Rattle.heap_laws.proofs.laws.tracing.the_end_is_looked_at.Goals as goal

pub returns : goal.returns
returns c = record { gate = begins_look; front = looks_at_front; board = looks_at_board; page = looks_at_page; filling = looks_at_filling; again = looks_again; claim = claims_filling }
