-- When nothing fails in a call.
use Rattle.std.specs.Prelude.{◌≡◌, ◌≢◌, ℕ, List, Some}
use Rattle.mutator_asm.specs.declared.instr.Instr.{Instr}
use Rattle.mutator_asm.specs.declared.item.Item.{Item}
use Rattle.mutator_asm.specs.Text.{IsText}
use Rattle.ael_jobs.specs.declared.arguments.job.Job.{Job}
use Rattle.ael_jobs.specs.Calls.Call.{Call}
use Rattle.ael_jobs.specs.Streams.Ends.{IsFaultless}
use Rattle.ael_jobs.specs.Arguments.Jobs.{job_task, job_text}
use Rattle.ael_jobs.specs.Tasks.Task.{IsGiven}
use Rattle.ael_jobs.specs.Arguments.Words.{job_of}

-- No end fails in a call: the words ask for this job, the input is these bytes, no more than an input may have, and no count of faults rose.
pub record NoEndFails (call : Call) (job : Job) (bytes : List ℕ) : Type 0 where
  pub asked : job_of call.words ≡ Some job
  pub given : IsGiven (job_task job).reads call.source bytes
  pub read : IsFaultless call.source.before call.source.after
  pub printed : IsFaultless call.out.before call.out.after
  pub told : IsFaultless call.err.before call.err.after

-- and nothing else does: the input is right
pub record GoesWell (call : Call) (job : Job) (bytes : List ℕ) : Type 0 where
  pub ends : NoEndFails call job bytes
  pub right : (job_task job).IsRight bytes

-- nothing fails in a call that asks for this job, whose text is that of this program, and memory is not wanting
pub record Succeeds (call : Call) (job : Job) (program : List (List Instr)) (items : List Item) : Type 0 where
  pub bytes : List ℕ
  pub text : IsText (job_text job bytes) program items
  pub well : GoesWell call job bytes
  pub memory : call.code ≢ 7
