use Rattle.concordance.proofs.LoneHeaps.FewFlips.{lone_flips_are_few}
use Rattle.concordance.proofs.LoneHeaps.OneMutator.{lone_flips_are_now, lone_histories}
use Rattle.concordance.proofs.laws.lone_histories_are_plain.Goals as goal

pub returns : goal.returns
returns c = record { calls = lone_histories; now = lone_flips_are_now; few = lone_flips_are_few }
