use Rattle.heap_laws.proofs.Allocation.Laws.{claims_pages, room_is_seen}
use Rattle.heap_laws.proofs.laws.allocating.stocks_are_claimed.Goals as goal

pub returns : goal.returns
returns c = record { room = room_is_seen; claimed = claims_pages }
