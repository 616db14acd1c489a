use Rattle.std.proofs.Common.{true, false}
use Rattle.fault_duty.proofs.Choosing.{claims_for}
use Rattle.fault_duty.proofs.RoundEffects.{marks, claims_page}
use Rattle.fault_duty.proofs.Walks.{passes_cells, turn_is_won}
use Rattle.fault_duty.proofs.laws.rounds_claim_or_mark.Goals as goal

pub returns : goal.returns
returns c = record {
  marked = λ d before after sound whole acts. marks d d.stage before after sound whole acts;
  cells_first = record {
    passed = λ d before after traced sound acts is. passes_cells d d.stage before after traced sound acts is;
    turn_won = λ d before after sound whole acts has. turn_is_won d d.stage before after sound whole acts has;
  };
  scan_page = λ d before after page sound whole acts. claims_page d d.stage before after false page sound whole acts;
  scan_in_place = λ d before after page sound whole acts. claims_page d d.stage before after true page sound whole acts;
  claimed_for = λ d before after claim sound acts is. claims_for d d.stage before claim sound is;
}
