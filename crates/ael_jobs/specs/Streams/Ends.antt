-- The ends of the program over a call: a source, and the sinks.
use Rattle.std.specs.Prelude.{◌≡◌, ℕ, List, Option}
use Rattle.ael_jobs.specs.declared.streams.sink.Sink as sinks
use Rattle.ael_jobs.specs.declared.streams.source.Source as sources
use Rattle.ael_jobs.specs.Streams.Stream.{Rose, Grows, GrowsByPrefix}

-- a source: what was to come and what is, and its counts of faults before and after
pub record Drawn : Type 0 where
  pub left : Option (List ℕ)
  pub rest : Option (List ℕ)
  pub before : ℕ
  pub after : ℕ

-- a sink: what it held and holds, and its counts of faults before and after
pub record Filled : Type 0 where
  pub held : Option (List ℕ)
  pub holds : Option (List ℕ)
  pub before : ℕ
  pub after : ℕ

-- what a call draws from a source, by its values before and after
abbrev pub drawn_by_call : {S : Type 0} → sources.Ghosts S → S → S → Drawn
drawn_by_call g old new = record { left = g.left old; rest = g.left new; before = g.faults old; after = g.faults new }

-- and what it fills into a sink
abbrev pub filled : {K : Type 0} → sinks.Ghosts K → K → K → Filled
filled g old new = record { held = g.held old; holds = g.held new; before = g.faults old; after = g.faults new }

-- no fault was counted over a call
abbrev pub IsFaultless : ℕ → ℕ → Type 0
IsFaultless before after = Rose before after → ⊥

-- the sink took all of these bytes, and no write failed
pub record IsWritten (sink : Filled) (bytes : List ℕ) : Type 0 where
  pub grows : Grows sink.held bytes sink.holds
  pub steady : sink.after ≡ sink.before

-- a write failed, and the sink took some of these bytes from the front
pub record IsCutOff (sink : Filled) (bytes : List ℕ) : Type 0 where
  pub part : GrowsByPrefix sink.held bytes sink.holds
  pub rose : Rose sink.before sink.after
