use Rattle.heap_laws.proofs.Saving.Passing.{nobody_is_still_where_astir, passages_are_spared, passages_follow_posts, passages_keep_saving}
use Rattle.heap_laws.proofs.laws.saving.spares.passages_are_spared.Goals as goal

pub returns : goal.returns
returns c = record { still = nobody_is_still_where_astir; passed = passages_are_spared; posts = passages_follow_posts; kept = passages_keep_saving }
