use Rattle.crossing_map.proofs.Spaces.{is_next, ends_with_walk, breaks_at_words}
use Rattle.crossing_map.proofs.laws.walk_next_is_next_in_walk.Goals as goal

pub returns-clause-first : goal.returns-clause-first
returns-clause-first c = λ t kept epoch area at a size ordered. is_next t kept epoch area at ordered a size

pub returns-clause-ended : goal.returns-clause-ended
returns-clause-ended c = ends_with_walk

pub returns-clause-broken : goal.returns-clause-broken
returns-clause-broken c = λ t kept epoch area at a ordered. breaks_at_words t kept epoch area at ordered a
