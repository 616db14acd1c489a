-- What is answered to the words, and why.
use Rattle.std.specs.Prelude.{◌≡◌, ◌≢◌, ◌⊎◌, ⊤, ℕ, List, [], Option, Some, None, Result, Ok, Err}
use Rattle.simple_commands.specs.declared.parsing.WordsError.{WordsError}
use Rattle.simple_commands.specs.declared.parsing.WordsError.TheVariants as words
use Rattle.ael_jobs.specs.declared.arguments.job.Job.{Job}
use Rattle.ael_jobs.specs.declared.status.Status.{Status}
use Rattle.ael_jobs.specs.declared.status.Status.TheVariants.{NoMemory, ReadFault, Usage}
use Rattle.ael_jobs.specs.Streams.Ends.{Drawn}
use Rattle.ael_jobs.specs.Arguments.Jobs.{job_task}
use Rattle.ael_jobs.specs.Tasks.Task.{IsDrawn, IsInput, IsUnread}

-- what was read of words that ask for a job, or for none
abbrev pub IsAsked : Option Job → Result Job WordsError → Type 0
IsAsked asked (Ok job) = asked ≡ Some job
IsAsked asked (Err words.Refused) = asked ≡ None
IsAsked asked (Err words.NoMemory) = ⊤

-- The answer to a job has one of four causes: it is what the job makes of its input; or the input is
-- wrong, or could not be read, or memory was wanting, and then there is no output.
pub data IsCaused (job : Job) (source : Drawn) (output : List ℕ) (status : Status) : Type 0 where
  Made : (bytes : List ℕ) (input : IsInput (job_task job).reads source bytes) (made : (job_task job).Makes bytes output status) → IsCaused job source output status
  Refused : (bytes : List ℕ) (input : IsInput (job_task job).reads source bytes) (refused : (job_task job).Refuses bytes status) (silent : output ≡ []) → IsCaused job source output status
  Unread : (unread : IsUnread (job_task job).reads source status) (silent : output ≡ []) → IsCaused job source output status
  OutOfMemory : (wanting : status ≡ NoMemory) (silent : output ≡ []) → IsCaused job source output status

-- the answer to the words; where they are no command it is the usage, or there was no memory to read them
abbrev pub IsAnswer : Option Job → Drawn → List ℕ → Status → Type 0
IsAnswer None source output status = (output ≡ []) × ((status ≡ Usage) ⊎ (status ≡ NoMemory))
IsAnswer (Some job) source output status = IsCaused job source output status

-- how much is read for the words: nothing where they are no command
abbrev pub IsDrawnFor : Option Job → Drawn → Type 0
IsDrawnFor None source = source.rest ≡ source.left
IsDrawnFor (Some job) source = IsDrawn (job_task job).reads source

-- the words have this answer with its cause, and a read that failed is never passed over
pub record IsAnswerTo (asked : Option Job) (source : Drawn) (output : List ℕ) (status : Status) : Type 0 where
  pub drawn : IsDrawnFor asked source
  pub steady : status ≢ ReadFault → source.after ≡ source.before
  pub answer : IsAnswer asked source output status
