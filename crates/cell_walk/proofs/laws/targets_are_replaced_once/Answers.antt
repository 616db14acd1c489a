use Rattle.cell_walk.proofs.ReplacedTargets.{goes_along_links, replaces_by_first_words}
use Rattle.cell_walk.proofs.laws.targets_are_replaced_once.Goals as goal

pub returns-clause-replaces_by_first_words : goal.returns-clause-replaces_by_first_words
returns-clause-replaces_by_first_words c = replaces_by_first_words

pub returns-clause-goes_along_links : goal.returns-clause-goes_along_links
returns-clause-goes_along_links c = goes_along_links
