use Rattle.std.proofs.Common.{append_assoc}
use Rattle.ael_jobs.proofs.status.Status.line.Goals as goal

pub returns-in-LongWord-clause-line : goal.returns-in-LongWord-clause-line
returns-in-LongWord-clause-line c = rw (c.in-LongWord.is, c.in_ok-format-in-LongWord.ensures.ok) (simp append_assoc)

pub returns-in-BadOutput-clause-line : goal.returns-in-BadOutput-clause-line
returns-in-BadOutput-clause-line c = rw (c.in-BadOutput.is, c.in_ok-format-in-BadOutput.ensures.ok) (simp append_assoc)

pub returns-in-HeapFull-clause-line : goal.returns-in-HeapFull-clause-line
returns-in-HeapFull-clause-line c = rw (c.in-HeapFull.is, c.in_ok-format-in-HeapFull.ensures.ok) (simp append_assoc)
