use Rattle.fault_duty.proofs.Choosing.{traced_told}
use Rattle.fault_duty.proofs.RoundEffects.{nothing, sees_traced}
use Rattle.fault_duty.proofs.laws.rounds_without_work_show_why.Goals as goal

pub returns : goal.returns
returns c = record {
  nothing_now = λ d before after word sound acts. nothing d d.stage before after word sound acts;
  traced_seen = λ d before after acts. sees_traced d d.stage before after acts;
  traced_told = traced_told;
}
