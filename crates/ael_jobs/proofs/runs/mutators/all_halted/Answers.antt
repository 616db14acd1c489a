use Rattle.std.proofs.Common.{sym, ◌∙◌}
use Rattle.ael_jobs.proofs.Printed.Seeing.{halts_more, halts_not}
use Rattle.ael_jobs.proofs.runs.mutators.all_halted.Goals as goal

pub loop-m-preserved : goal.loop-m-preserved
loop-m-preserved g c = halts_more _ _ _ c.end.ensures (sym c.is_halt.ensures ∙ c.if-not-is_halt.false) c.loop-m.invariant

pub returns-then-not-is_halt : goal.returns-then-not-is_halt
returns-then-not-is_halt g c = sym (halts_not _ _ _ c.end.ensures (sym c.is_halt.ensures ∙ c.if-not-is_halt.true) c.loop-m.invariant)
