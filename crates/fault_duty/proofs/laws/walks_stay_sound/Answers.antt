use Rattle.fault_duty.proofs.Sound.{walks_stay_sound}
use Rattle.fault_duty.proofs.laws.walks_stay_sound.Goals as goal

pub returns : goal.returns
returns c = walks_stay_sound
