use Rattle.heap_laws.proofs.Saving.Passing.{flippers_follow_posts, flippers_keep_saving}
use Rattle.heap_laws.proofs.laws.saving.spares.flippers_are_spared.Goals as goal

pub returns : goal.returns
returns c = record { posts = flippers_follow_posts; kept = flippers_keep_saving }
