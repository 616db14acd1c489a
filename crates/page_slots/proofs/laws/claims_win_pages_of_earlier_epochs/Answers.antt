use Rattle.page_slots.proofs.Claiming.{wins, takes}
use Rattle.page_slots.proofs.laws.claims_win_pages_of_earlier_epochs.Goals as goal

pub returns : goal.returns
returns c = record { won = λ claim before after sound whole acts. wins claim claim.stage before after sound whole acts; taken = λ claim before after word sound acts. takes claim claim.stage before after word sound acts }
