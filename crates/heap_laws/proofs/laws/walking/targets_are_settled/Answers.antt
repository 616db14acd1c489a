use Rattle.heap_laws.proofs.Walking.Loads.{targets_stay, targets_lead_out, copies_replace_targets, nothing_replaces_targets}
use Rattle.heap_laws.proofs.Walking.Replaced.{targets_are_replaced}
use Rattle.heap_laws.proofs.laws.walking.targets_are_settled.Goals as goal

pub returns : goal.returns
returns c = record { stays = targets_stay; leads_out = targets_lead_out; copied = copies_replace_targets; not_copied = nothing_replaces_targets; replaced = targets_are_replaced }
