use Rattle.heap_laws.proofs.Copying.Room.{copies_have_room}
use Rattle.heap_laws.proofs.laws.copying.copies_have_room.Goals as goal

pub returns : goal.returns
returns c = copies_have_room
