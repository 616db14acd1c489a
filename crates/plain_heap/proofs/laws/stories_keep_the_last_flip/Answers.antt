use Rattle.plain_heap.proofs.Orders.Stories.{story-no_flip, story-flip}
use Rattle.plain_heap.proofs.laws.stories_keep_the_last_flip.Goals as goal

pub returns : goal.returns
returns c = record { no_flip = story-no_flip; last_flip = story-flip }
