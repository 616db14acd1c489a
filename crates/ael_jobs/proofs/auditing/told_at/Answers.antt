use Rattle.std.proofs.Common.{append_assoc}
use Rattle.ael_jobs.proofs.auditing.told_at.Goals as goal

pub returns-in_ok-format-in-Register : goal.returns-in_ok-format-in-Register
returns-in_ok-format-in-Register c = rw (c.in-Register.is, c.in_ok-format-in-Register.ensures.ok) (simp append_assoc)
