use Rattle.alloc_end.proofs.Placing.{none_yet, marked, opened_are_new}
use Rattle.alloc_end.proofs.laws.new_pages_are_marked.Goals as goal

pub returns : goal.returns
returns c = record {
  begins = none_yet;
  marked = λ p before after turn sound whole is acts. marked p p.stage before after turn sound whole is acts;
  opened = opened_are_new;
}
