-- The workers that a scheduler has still to name.
use Rattle.std.specs.Prelude.{ℕ}
use Rattle.ael_jobs.specs.declared.runs.scheduler.Scheduler.{Scheduler}
use Rattle.ael_jobs.specs.declared.runs.scheduler.Scheduler.TheVariants.{InTurn, Listed, Drawn}
use Rattle.ael_jobs.specs.Runs.Schedulers.{drawn_from, in_turn_from, listed_from}

abbrev pub to_come : Scheduler → ℕ → ℕ
to_come (InTurn turn) = in_turn_from turn
to_come (Listed round) = listed_from round
to_come (Drawn draw) = drawn_from draw
