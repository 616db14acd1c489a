-- The task `bench`: the text of the benchmark is run, and its cycles are told.
use Rattle.std.specs.Prelude.{⊤, ◌+◌, ◌^◌, true, false, Some}
use Rattle.benchmark.specs.Text.{bench_text, seed_behind}
use Rattle.ael_jobs.specs.declared.arguments.operands.BenchOperands.{BenchOperands}
use Rattle.ael_jobs.specs.declared.arguments.operands.TheConstants.{SPARE_PAGES}
use Rattle.ael_jobs.specs.declared.arguments.options.SimOptions.{SimOptions}
use Rattle.ael_jobs.specs.Arguments.Options.{steps_option, turns_option}
use Rattle.ael_jobs.specs.Tasks.ProgramTask.{IsMadeOf}
use Rattle.ael_jobs.specs.Runs.Run.{IsRun, Scheduled}
use Rattle.ael_jobs.specs.Tasks.Task.{Nothing, Task}

-- How it is run: with some pages and one more for each key, all in use from the start, one scanner, as many turns and steps as there may
-- be, and by the words of the seed that the text doesn't take.
abbrev pub bench_options : BenchOperands → SimOptions
bench_options operands = record {
  run = record { pages = SPARE_PAGES + 2 ^ operands.depth; limit = SPARE_PAGES + 2 ^ operands.depth; scanners = 1; turns = turns_option.1.most; cycles = true; snap = false; dump = false };
  steps = steps_option.1.most;
  seed = Some (seed_behind operands.seed);
  order = false;
}

-- it reads nothing, and runs the program of the benchmark's text
abbrev pub bench_task : BenchOperands → Task
bench_task operands = record {
  reads = Nothing;
  waits = false;
  IsRight = λ bytes. ⊤;
  Refuses = λ bytes status. ⊥;
  Makes = λ bytes output status. IsMadeOf (IsRun (Scheduled (bench_options operands))) (bench_text operands.depth operands.seed) output status;
}
