-- What is left of completeness where no end can fail.
use Rattle.std.specs.Prelude.{◌≡◌, ℕ, List}
use Rattle.ael_jobs.specs.declared.status.Status.{Status}
use Rattle.ael_jobs.specs.Calls.Status.{status_code}
use Rattle.ael_jobs.specs.Tasks.Task.{Task}

-- the exit status is how that goes which the task makes of these bytes
pub record GoesAs (task : Task) (bytes : List ℕ) (code : ℕ) : Type 0 where
  pub output : List ℕ
  pub status : Status
  pub made : task.Makes bytes output status
  pub code_is : code ≡ status_code status
