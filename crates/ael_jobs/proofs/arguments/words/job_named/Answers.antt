use Rattle.ael_jobs.proofs.Inputs.Parsed.{never_another}
use Rattle.ael_jobs.proofs.arguments.words.job_named.Goals as goal

pub returns-in-asm-clause-value : goal.returns-in-asm-clause-value
returns-in-asm-clause-value c = rw c.in-asm.is

pub returns-in-concord-clause-value : goal.returns-in-concord-clause-value
returns-in-concord-clause-value c = rw (c.in-concord.is, c.given-in-concord.ensures.value)

pub returns-in-bench-clause-value : goal.returns-in-bench-clause-value
returns-in-bench-clause-value c = rw (c.in-bench.is, c.given-in-bench.ensures.value)

pub returns-in-audit-clause-value : goal.returns-in-audit-clause-value
returns-in-audit-clause-value c = rw (c.in-audit.is, c.given-in-audit.ensures.value)

pub returns-in_default-clause-value : goal.returns-in_default-clause-value
returns-in_default-clause-value c = absurd (never_another _ c.requires c.in_default.not-asm c.in_default.not-sim c.in_default.not-run c.in_default.not-concord c.in_default.not-bench c.in_default.not-audit)
