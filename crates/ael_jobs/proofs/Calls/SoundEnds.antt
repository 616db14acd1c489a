-- A call in which no end fails: its input is read, and its answer is written.
use Rattle.std.proofs.Common.{◌≡◌, ℕ, List, [], ap, sym, ◌∙◌, subst, arith}
use Rattle.std.specs.Prelude.{Option, Some}
use Rattle.ael_jobs.specs.declared.arguments.job.Job.{Job}
use Rattle.ael_jobs.specs.declared.status.Status.{Status}
use Rattle.ael_jobs.specs.declared.status.Status.TheVariants.{ReadFault, NoMemory, TooLong}
use Rattle.ael_jobs.specs.Calls.Answer.{IsAnswer, IsCaused, Made, Refused, Unread, OutOfMemory}
use Rattle.ael_jobs.specs.Calls.Call.{Call}
use Rattle.ael_jobs.specs.Calls.Concordance.{CallTells}
use Rattle.ael_jobs.specs.Calls.Emits.{Emits, AllWritten, OutFailed, BothFailed, ErrFailed}
use Rattle.ael_jobs.specs.Calls.Headline.{CallIsAnswered}
use Rattle.ael_jobs.specs.Calls.Status.{status_code, status_line}
use Rattle.ael_jobs.specs.Calls.Success.{NoEndFails}
use Rattle.ael_jobs.specs.Arguments.Jobs.{job_task}
use Rattle.ael_jobs.specs.Arguments.Words.{job_of}
use Rattle.ael_jobs.specs.Streams.Ends.{Drawn, Filled, IsFaultless}
use Rattle.ael_jobs.specs.Streams.Stream.{Grows}
use Rattle.ael_jobs.specs.Tasks.Task.{NeededInput, Nothing, Everything, IsGiven, IsInput, IsUnread}

-- ---- the input

-- the input is what the source tells
input_is : (reads : NeededInput) (source : Drawn) (bytes own : List ℕ) → IsGiven reads source bytes → IsInput reads source own → own ≡ bytes
input_is Nothing source bytes own given input = input ∙ sym given
input_is Everything source bytes own given input = rw given.0 at input.all

-- an input that is told, if no read fails, is read
is_read : {A : Type 0} (reads : NeededInput) (source : Drawn) (bytes : List ℕ) (status : Status) → IsGiven reads source bytes → IsFaultless source.before source.after
    → IsUnread reads source status → A
is_read Everything source bytes ReadFault given sound unread = absurd (sound unread)
is_read Everything source bytes TooLong given sound unread = let past = rw given.0 at unread in let within = given.1 in absurd (omega (arith, within, past))
is_read _ source bytes _ given sound unread = absurd unread

-- why an answer is what it is, if the input could be read
pub data SoundCause (job : Job) (bytes output : List ℕ) (status : Status) : Type 0 where
  OfInput : (made : (job_task job).Makes bytes output status) → SoundCause job bytes output status
  ByRefusal : (refused : (job_task job).Refuses bytes status) (silent : output ≡ []) → SoundCause job bytes output status
  ForMemory : (wanting : status ≡ NoMemory) (silent : output ≡ []) → SoundCause job bytes output status

answered : (asked : Option Job) (job : Job) (source : Drawn) (output : List ℕ) (status : Status) → asked ≡ Some job
    → IsAnswer asked source output status → IsCaused job source output status
answered asked job source output status is_job is = rw is_job at is

-- ---- the output

-- what was written, if no sink failed
written : (output : List ℕ) (status final : Status) (out err : Filled) → IsFaultless out.before out.after → IsFaultless err.before err.after
    → Emits output status out err final → (final ≡ status) × Grows out.held output out.holds × Grows err.held (status_line status) err.holds
written output status final out err out_sound err_sound (AllWritten same printed told) = (same, printed.grows, told.grows)
written output status final out err out_sound err_sound (OutFailed fault printed told) = absurd (out_sound printed.rose)
written output status final out err out_sound err_sound (BothFailed fault printed told) = absurd (out_sound printed.rose)
written output status final out err out_sound err_sound (ErrFailed fault printed told) = absurd (err_sound told.rose)

-- ---- both

module _ (call : Call) (a : CallIsAnswered call) (job : Job) (bytes : List ℕ) (ends : NoEndFails call job bytes) where
  pub call_tells : CallTells call a.output a.status
  call_tells =
      let all = written a.output a.status a.emitted.final call.out call.err ends.printed ends.told a.emitted.emitted in
      record { printed = all.1; told = all.2; code_is = a.emitted.code_is ∙ ap status_code all.0 }

  pub cause : SoundCause job bytes a.output a.status
  cause = by (answered (job_of call.words) job call.source a.output a.status ends.asked a.answer.answer)
    where
      by : IsCaused job call.source a.output a.status → SoundCause job bytes a.output a.status
      by (Made own input made) =
          OfInput (subst (λ bs. (job_task job).Makes bs a.output a.status) (input_is (job_task job).reads call.source bytes own ends.given input) made)
      by (Refused own input refused silent) =
          ByRefusal (subst (λ bs. (job_task job).Refuses bs a.status) (input_is (job_task job).reads call.source bytes own ends.given input) refused) silent
      by (Unread unread silent) = is_read (job_task job).reads call.source bytes a.status ends.given ends.read unread
      by (OutOfMemory wanting silent) = ForMemory wanting silent
