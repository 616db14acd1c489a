use Rattle.std.proofs.Common.{◌≡◌}
use Rattle.checkpoint_text.specs.Visits.{met_from}
use Rattle.checkpoint_text.specs.Words.{saved_heap}
use Rattle.checkpoint_text.proofs.visiting.Visiting.meet_from.Given as goal

-- the words so far are met
abbrev pub invariant-loop-x : goal.invariant-loop-x
invariant-loop-x l = l.self ≡ met_from (saved_heap l.words) l.first l.x l.initial.self
