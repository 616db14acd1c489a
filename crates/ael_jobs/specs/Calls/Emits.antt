-- What is written of an answer.
use Rattle.std.specs.Prelude.{◌≡◌, ℕ, List}
use Rattle.ael_jobs.specs.declared.status.Status.{Status}
use Rattle.ael_jobs.specs.declared.status.Status.TheVariants.{WriteFault}
use Rattle.ael_jobs.specs.Streams.Ends.{Filled, IsWritten, IsCutOff}
use Rattle.ael_jobs.specs.Calls.Status.{status_code, status_line}

-- The output and the status's line are written; or a sink failed, which is then how the call went.
-- Where `out` failed, `err` gets the line that tells it.
pub data Emits (output : List ℕ) (status : Status) (out err : Filled) (final : Status) : Type 0 where
  AllWritten : (same : final ≡ status) (printed : IsWritten out output) (told : IsWritten err (status_line status)) → Emits output status out err final
  OutFailed : (fault : final ≡ WriteFault) (printed : IsCutOff out output) (told : IsWritten err (status_line WriteFault)) → Emits output status out err final
  BothFailed : (fault : final ≡ WriteFault) (printed : IsCutOff out output) (told : IsCutOff err (status_line WriteFault)) → Emits output status out err final
  ErrFailed : (fault : final ≡ WriteFault) (printed : IsWritten out output) (told : IsCutOff err (status_line status)) → Emits output status out err final

-- and the exit status is the code of how that went
pub record IsEmitted (output : List ℕ) (status : Status) (out err : Filled) (code : ℕ) : Type 0 where
  pub final : Status
  pub emitted : Emits output status out err final
  pub code_is : code ≡ status_code final
