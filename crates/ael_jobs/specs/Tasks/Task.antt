-- What a task is, whatever it does: what it reads, what makes its input right, and what it makes of it.
use Rattle.std.specs.Prelude.{◌≡◌, ◌≤◌, ℕ, Bool, List, [], length, Some}
use Rattle.ael_jobs.specs.declared.streams.reading.TheConstants.{LONGEST_INPUT}
use Rattle.ael_jobs.specs.declared.status.Status.{Status}
use Rattle.ael_jobs.specs.declared.status.Status.TheVariants.{ReadFault, TooLong}
use Rattle.ael_jobs.specs.Streams.Ends.{Drawn}
use Rattle.ael_jobs.specs.Streams.Input.{IsBounded, IsPastLimit, IsWholeInput}
use Rattle.ael_jobs.specs.Streams.Stream.{Rose}

-- what a task reads of its source: nothing, or all that an input may have
pub data NeededInput : Type 0 where
  Nothing : NeededInput
  Everything : NeededInput

-- how much is drawn from the source: nothing, or at most one byte past the limit
abbrev pub IsDrawn : NeededInput → Drawn → Type 0
IsDrawn Nothing source = source.rest ≡ source.left
IsDrawn Everything source = IsBounded source.left source.rest

-- the bytes are the task's input: none, or all that the source gave, which was read to its end
abbrev pub IsInput : NeededInput → Drawn → List ℕ → Type 0
IsInput Nothing source bytes = bytes ≡ []
IsInput Everything source bytes = IsWholeInput source.left source.rest bytes

-- the input could not be read, and how that is told
abbrev pub IsUnread : NeededInput → Drawn → Status → Type 0
IsUnread Everything source ReadFault = Rose source.before source.after
IsUnread Everything source TooLong = IsPastLimit source.left
IsUnread _ source _ = ⊥

-- the source tells that the input is these bytes, no more than an input may have
abbrev pub IsGiven : NeededInput → Drawn → List ℕ → Type 0
IsGiven Nothing source bytes = bytes ≡ []
IsGiven Everything source bytes = (source.left ≡ Some bytes) × (length bytes ≤ LONGEST_INPUT)

-- What a task reads, and whether it waits for other threads. Of an input: whether it is right, how it
-- is told that it isn't, and what the output may be of a right one, with how that went.
pub record Task : Type 1 where
  pub reads : NeededInput
  pub waits : Bool
  pub IsRight : List ℕ → Type 0
  pub Refuses : List ℕ → Status → Type 0
  pub Makes : List ℕ → List ℕ → Status → Type 0
