use Rattle.gc_core.specs.Run.{all_ended, run_from}
use Rattle.gc_core.proofs.Runs.EventByEvent.{HasComeTo}
use Rattle.std.proofs.Common.{◌≡◌, ◌+◌, ℕ}
use Rattle.ael_jobs.specs.Runs.Noted.{HasNoted}
use Rattle.ael_jobs.specs.Runs.ToCome.{to_come}
use Rattle.ael_jobs.proofs.WholeRuns.Noting.{HasCome}
use Rattle.ael_jobs.proofs.runs.scheduled.run_noting.Given as goal

abbrev pub invariant-loop : goal.invariant-loop
invariant-loop l =
    let schedule = to_come l.fn.scheduler in
    let all = run_from schedule 0 l.fn.steps l.fn.core in
    record {
      names : (at : ℕ) → to_come l.scheduler at ≡ schedule (l.counter + at);
      over : l.over ≡ all_ended l.core;
      kept : l.notes.kept ≡ l.fn.notes.kept;
      core : HasComeTo schedule l.counter l.fn.steps l.core all;
      order : HasCome schedule l.counter l.fn.steps l.core (HasNoted l.notes) all;
    }
