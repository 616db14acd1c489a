-- How a call goes whose ends never fail.
use Rattle.std.proofs.Common.{◌≡◌, ◌≤◌, ℕ, List, [], length, Some, refl, inl, inr}
use Rattle.std.specs.Prelude.{◌⊎◌}
use Rattle.ael_jobs.specs.declared.arguments.job.Job.{Job}
use Rattle.ael_jobs.specs.declared.arguments.job.Job.TheVariants.{Asm, Audit, Bench, Concord, Run, Sim}
use Rattle.ael_jobs.specs.declared.arguments.operands.BenchOperands.{BenchOperands}
use Rattle.ael_jobs.specs.declared.streams.reading.TheConstants.{LONGEST_INPUT}
use Rattle.ael_jobs.specs.Calls.Call.{Call}
use Rattle.ael_jobs.specs.Streams.Ends.{IsFaultless}
use Rattle.ael_jobs.specs.Calls.Headline.{IsComplete, IsDone}
use Rattle.ael_jobs.specs.Arguments.Jobs.{job_task}
use Rattle.ael_commands.specs.Sure.{GoesAs}
use Rattle.ael_jobs.specs.Tasks.Task.{IsGiven}
use Rattle.ael_jobs.specs.Arguments.Words.{job_of}

module _ (call : Call) (input : List ℕ) (complete : IsComplete call) (left : call.source.left ≡ Some input) (few : length input ≤ LONGEST_INPUT)
    (read : IsFaultless call.source.before call.source.after) (printed : IsFaultless call.out.before call.out.after) (told : IsFaultless call.err.before call.err.after) where
  goes : (job : Job) (bytes : List ℕ) → IsDone call job bytes ⊎ (call.code ≡ 7) → GoesAs (job_task job) bytes call.code ⊎ (call.code ≡ 7)
  goes job bytes (inl d) = inl (record { output = d.output; status = d.status; made = d.made; code_is = d.code_is })
  goes job bytes (inr none) = inr none

  on : (job : Job) (bytes : List ℕ) → job_of call.words ≡ Some job → IsGiven (job_task job).reads call.source bytes → (job_task job).IsRight bytes
      → GoesAs (job_task job) bytes call.code ⊎ (call.code ≡ 7)
  on job bytes asked given right =
      goes job bytes (complete job bytes (record { ends = record { asked = asked; given = given; read = read; printed = printed; told = told }; right = right }))

  -- what the job makes of its input; the benchmark has none
  pub goes_as : (job : Job) → job_of call.words ≡ Some job → (job_task job).IsRight input → GoesAs (job_task job) input call.code ⊎ (call.code ≡ 7)
  goes_as Asm asked right = on Asm input asked (left, few) right
  goes_as (Sim options) asked right = on (Sim options) input asked (left, few) right
  goes_as (Run options) asked right = on (Run options) input asked (left, few) right
  goes_as (Concord options) asked right = on (Concord options) input asked (left, few) right
  goes_as (Audit options) asked right = on (Audit options) input asked (left, few) right
  goes_as (Bench operands) asked right = benched operands (on (Bench operands) [] asked refl tt)
    where
      benched : (o : BenchOperands) → GoesAs (job_task (Bench o)) [] call.code ⊎ (call.code ≡ 7) → GoesAs (job_task (Bench o)) input call.code ⊎ (call.code ≡ 7)
      benched o (inl d) = inl (record { output = d.output; status = d.status; made = d.made; code_is = d.code_is })
      benched o (inr none) = inr none
