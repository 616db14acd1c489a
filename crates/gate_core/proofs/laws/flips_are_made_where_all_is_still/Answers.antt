use Rattle.gate_core.proofs.Flipping.{keeps, flips, hindered}
use Rattle.gate_core.proofs.laws.flips_are_made_where_all_is_still.Goals as goal

pub returns : goal.returns
returns c = record {
  kept = λ flip before after turn sound whole stands acts. keeps flip flip.stage before after turn sound whole stands acts;
  made = λ flip before after asked sound whole stands acts. flips flip flip.stage before after asked sound whole stands acts;
  hindered = λ flip before after word acts. hindered flip flip.stage before after word acts;
}
