use Rattle.std.proofs.Common.{refl}
use Rattle.concordance.specs.Notes.Paths.{doubled, is_high}
use Rattle.concordance.proofs.path.Path.turns_right.Goals as goal

pub returns-clause-turn : goal.returns-clause-turn
unfolding is_high
returns-clause-turn c = rw c.self.view_is refl

pub returns-clause-next : goal.returns-clause-next
unfolding doubled
returns-clause-next c = rw c.self.view_is refl
