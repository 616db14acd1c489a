use Rattle.alloc_end.proofs.Placing.{ready, places}
use Rattle.alloc_end.proofs.laws.records_are_placed_in_cleared_pages.Goals as goal

pub returns : goal.returns
returns c = record { ready = λ p before after turn sound whole is acts. ready p p.stage before after turn sound whole is acts; placed = λ p before after at sound whole is acts. places p p.stage before after at sound whole is acts }
