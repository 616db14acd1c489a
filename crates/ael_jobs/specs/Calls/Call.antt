-- A call of the program: its words, what it drew from its source and filled into its sinks, and its exit status.
use Rattle.std.specs.Prelude.{ℕ, List, String, map, string_bytes}
use Rattle.std.specs.declared.alloc.Global.{Global}
use Rattle.ael_jobs.specs.declared.streams.sink.Sink as sinks
use Rattle.ael_jobs.specs.declared.streams.source.Source as sources
use Rattle.ael_jobs.specs.Streams.Ends.{Drawn, Filled, drawn_by_call, filled}

pub record Call : Type 0 where
  pub words : List (List ℕ)
  pub source : Drawn
  pub out : Filled
  pub err : Filled
  pub code : ℕ

abbrev pub call_with : List (List ℕ) → Drawn → Filled → Filled → ℕ → Call
call_with words source out err code = record { words = words; source = source; out = out; err = err; code = code }

-- the call with these words, by its ends before and after it
abbrev pub call_of : {S O E : Type 0} → sources.Ghosts S → sinks.Ghosts O → sinks.Ghosts E → List (String Global) → S → S → O → O → E → E → ℕ → Call
call_of s o e words src src' out out' err err' code = call_with (map string_bytes words) (drawn_by_call s src src') (filled o out out') (filled e err err') code
