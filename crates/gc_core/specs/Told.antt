-- What is told of a core whose heap stands for a plain state, whoever stepped its workers.
use Rattle.std.specs.Prelude.{◌≡◌, ◌≤◌}
use Rattle.plain_state.specs.State.{Plain}
use Rattle.plain_heap.specs.Print.{plain_seen}
use Rattle.dump_text.specs.Said.{dump_said}
use Rattle.heap_state.specs.Meaning.Represents.{DumpRepresents}
use Rattle.gc_worker.specs.Laws.Step.{WorkersStand}
use Rattle.gc_core.specs.Core.{CoreState, workers_of}
use Rattle.gc_core.specs.Cycles.{KeepsWhatIsLive}
use Rattle.gc_core.specs.Dumped.{dumped}
use Rattle.gc_core.specs.Readers.{seen_of}

-- What is seen of the mutators is what is seen of those of the plain state p. What a dump tells, read by itself, represents p. What a cycle
-- copied that began at o, and is told as live once all is copied, was live at o.
pub record IsToldOf (s : CoreState) (p o : Plain) : Type 0 where
  pub enough : s.heap.mutators ≤ workers_of s
  pub seen : seen_of s ≡ plain_seen p
  pub dump : DumpRepresents (dump_said (dumped s)) p
  pub live : KeepsWhatIsLive s o

abbrev pub WhatStandsIsTold : Type 0
WhatStandsIsTold = (s : CoreState) (p o : Plain) → WorkersStand s.heap p o → IsToldOf s p o
