use Rattle.worker_progress.proofs.Epochs.PastEpochs.{past_claims_are_lost, past_turns_are_lost, past_marks_are_lost, pages_are_won_now}
use Rattle.worker_progress.proofs.laws.exchanges_of_past_epochs_are_lost.Goals as goal

pub returns : goal.returns
returns c = record { pages = past_claims_are_lost; turn = past_turns_are_lost; traced = past_marks_are_lost; won = pages_are_won_now }
