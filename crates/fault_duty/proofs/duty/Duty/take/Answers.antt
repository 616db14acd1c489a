use Rattle.std.proofs.Common.{subst}
use Rattle.fault_duty.specs.Soundness.{IsSoundRound}
use Rattle.fault_duty.proofs.RoundMeasure.{left-taken}
use Rattle.fault_duty.proofs.duty.Duty.take.Goals as goal

pub returns-clause-lowers : goal.returns-clause-lowers
returns-clause-lowers c =
    left-taken c.args.self.now c.go_on.new.self c.args.reply (subst IsSoundRound c.self.view_is c.self.invariant) c.go_on.ensures
