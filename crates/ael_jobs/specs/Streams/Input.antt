-- What is read of an input.
use Rattle.std.specs.Prelude.{◌≡◌, ℕ, ◌+◌, ◌<◌, ◌≤◌, List, [], length, Option, IfSome}
use Rattle.ael_jobs.specs.declared.streams.reading.TheConstants.{LONGEST_INPUT}
use Rattle.ael_jobs.specs.Streams.Stream.{IsFront}

-- the input was read to its end: nothing is left of it, where the source tells
abbrev pub IsReadToEnd : Option (List ℕ) → Type 0
IsReadToEnd rest = IfSome rest (λ bytes. bytes ≡ [])

-- the bytes are all that were to come, no more than an input may have, and were read to the end
pub record IsWholeInput (left rest : Option (List ℕ)) (bytes : List ℕ) : Type 0 where
  pub all : IfSome left (λ all. bytes ≡ all)
  pub within : length bytes ≤ LONGEST_INPUT
  pub ended : IsReadToEnd rest

-- more bytes were to come than an input may have
abbrev pub IsPastLimit : Option (List ℕ) → Type 0
IsPastLimit left = IfSome left (λ all. LONGEST_INPUT < length all)

-- no more was read than the bytes that an input may have, and one
pub record IsBounded (left rest : Option (List ℕ)) : Type 0 where
  pub bytes : List ℕ
  pub front : IsFront left bytes rest
  pub few : length bytes ≤ LONGEST_INPUT + 1
