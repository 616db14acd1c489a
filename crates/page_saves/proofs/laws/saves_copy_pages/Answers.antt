use Rattle.page_saves.proofs.Ordering.{won_saves_copy, ended_saves_copied}
use Rattle.page_saves.proofs.SaveEffects.{begins, takes, ends}
use Rattle.page_saves.proofs.laws.saves_copy_pages.Goals as goal

pub returns : goal.returns
returns c = record {
  begins = λ s before after sound whole acts. begins s before after sound whole acts;
  taken = λ s before after word acts. takes s s.stage before after word acts;
  says = λ s before after sound whole acts. ends s s.stage before after sound whole acts;
  copies = won_saves_copy;
  copied = ended_saves_copied;
}
