use Rattle.cell_walk.proofs.Chains.{chains_are_walked}
use Rattle.cell_walk.proofs.PassedWords.{targets_are_passed}
use Rattle.cell_walk.proofs.laws.chains_are_walked.Goals as goal

pub returns : goal.returns
returns c = record { walked = chains_are_walked; targets = targets_are_passed }
