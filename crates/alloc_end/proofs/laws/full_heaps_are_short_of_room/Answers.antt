use Rattle.alloc_end.proofs.Reserving.{fulls, is_full}
use Rattle.alloc_end.proofs.laws.full_heaps_are_short_of_room.Goals as goal

pub returns : goal.returns
returns c = record { short = λ p before after s acts. fulls p p.stage before after s acts; full = is_full }
