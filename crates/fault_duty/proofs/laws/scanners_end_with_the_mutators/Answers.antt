use Rattle.std.proofs.Common.{refl}
use Rattle.space_map.specs.Table.{Gate}
use Rattle.fault_duty.specs.declared.duty_stage.DutyStage.TheVariants.{LoadsGate}
use Rattle.fault_duty.specs.Duty.{at_stage}
use Rattle.fault_duty.specs.Theorems.{word_of_row}
use Rattle.fault_duty.proofs.RoundEnds.{left_told}
use Rattle.fault_duty.proofs.RoundEffects.{sees_left}
use Rattle.fault_duty.proofs.laws.scanners_end_with_the_mutators.Goals as goal

pub returns-clause-seen : goal.returns-clause-seen
returns-clause-seen c = λ d before after word acts. sees_left d d.stage before after word acts

pub returns-clause-told : goal.returns-clause-told
returns-clause-told c = λ d mutators gate words scans says left. record {
  has_step = refl;
  makes = refl;
  tells = rw says (left_told (at_stage d LoadsGate) mutators (word_of_row d Gate words) gate d.caller scans left);
}
