use Rattle.std.proofs.Common.{◌≡◌, ◌+◌, ◌-◌, ◌≤◌, vec_len}
use Rattle.ael_jobs.specs.Streams.Stream.{IsFront}
use Rattle.ael_jobs.specs.declared.streams.reading.TheConstants.{LONGEST_INPUT}
use Rattle.ael_jobs.proofs.streams.reading.read_all.Given as goal

-- what was read came first, and no more than one byte past the limit
abbrev pub invariant-loop-buf : goal.invariant-loop-buf
invariant-loop-buf g l = record {
  front : IsFront (g.S.Source.left l.fn.src) l.bytes.items (g.S.Source.left l.src);
  within : vec_len l.bytes ≤ LONGEST_INPUT + 1;
  steady : g.S.Source.faults l.src ≡ g.S.Source.faults l.fn.src;
}

abbrev pub decreases-loop-buf : goal.decreases-loop-buf
decreases-loop-buf g l = LONGEST_INPUT + 1 - vec_len l.bytes
