-- The task of each job, and the text that it is about.
use Rattle.std.specs.Prelude.{◌≡◌, ⊤, ℕ, Bool, false, List, Option, Some, None}
use Rattle.std.specs.Option.{option_map_or}
use Rattle.benchmark.specs.Text.{bench_text}
use Rattle.ael_jobs.specs.declared.arguments.job.Job.{Job}
use Rattle.ael_jobs.specs.declared.arguments.job.Job.TheVariants.{Asm, Audit, Bench, Concord, Run, Sim}
use Rattle.ael_jobs.specs.Tasks.Asm.{asm_task}
use Rattle.ael_jobs.specs.Tasks.Audit.{audit_task}
use Rattle.ael_jobs.specs.Tasks.Bench.{bench_options, bench_task}
use Rattle.ael_jobs.specs.Tasks.Concord.{concord_task}
use Rattle.ael_jobs.specs.Runs.Run.{Manner, Scheduled, Threaded, run_task, sim_task}
use Rattle.ael_jobs.specs.Tasks.Task.{Task}

abbrev pub job_task : Job → Task
job_task Asm = asm_task
job_task (Bench operands) = bench_task operands
job_task (Sim options) = sim_task options
job_task (Run options) = run_task options
job_task (Concord options) = concord_task options
job_task (Audit options) = audit_task options

-- the job waits for nobody
abbrev pub IsStill : Job → Type 0
IsStill job = (job_task job).waits ≡ false

-- whether a job that was asked for waits for other threads
abbrev pub is_waiting : Option Job → Bool
is_waiting asked = option_map_or (λ job. (job_task job).waits) asked false

-- the job is about the program whose text is all of its input
abbrev pub ReadsProgram : Job → Type 0
ReadsProgram Asm = ⊤
ReadsProgram (Bench operands) = ⊥
ReadsProgram (Sim options) = ⊤
ReadsProgram (Run options) = ⊤
ReadsProgram (Concord options) = ⊥
ReadsProgram (Audit options) = ⊥

-- the text that a job is about: its input, or the text of the benchmark
abbrev pub job_text : Job → List ℕ → List ℕ
job_text Asm input = input
job_text (Bench operands) input = bench_text operands.depth operands.seed
job_text (Sim options) input = input
job_text (Run options) input = input
job_text (Concord options) input = input
job_text (Audit options) input = input

-- how a job runs the program of that text, if it runs one
abbrev pub run_by : Job → Option Manner
run_by Asm = None
run_by (Bench operands) = Some (Scheduled (bench_options operands))
run_by (Sim options) = Some (Scheduled options)
run_by (Run options) = Some (Threaded options)
run_by (Concord options) = None
run_by (Audit options) = None
