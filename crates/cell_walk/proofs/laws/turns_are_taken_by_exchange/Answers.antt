use Rattle.cell_walk.proofs.Turns.{others_show_it, turns_are_won}
use Rattle.cell_walk.proofs.laws.turns_are_taken_by_exchange.Goals as goal

pub returns : goal.returns
returns c = record { won = turns_are_won; others = others_show_it }
