use Rattle.std.proofs.Common.{subst}
use Rattle.ael_threads.specs.CallsByActs.{AnswersNothing}
use Rattle.ael_threads.proofs.WholeCalls.FromActs.{ended, executed, under_way, way_more}
use Rattle.ael_threads.proofs.laws.acts_make_calls.Goals as goal

pub returns : goal.returns
returns c = record { begun = under_way; goes_on = λ a b d task s u h nothing. way_more a b d task s u h (λ m e. subst AnswersNothing e nothing) (λ m end e. subst AnswersNothing e nothing); executed = executed; ended = ended }
