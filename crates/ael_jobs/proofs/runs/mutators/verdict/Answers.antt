use Rattle.std.proofs.Common.{sym, ◌∙◌}
use Rattle.ael_jobs.proofs.Printed.Seeing.{went_out, went_done, went_otherwise}
use Rattle.ael_jobs.proofs.runs.mutators.verdict.Goals as goal

pub returns-then-not-all_ended : goal.returns-then-not-all_ended
returns-then-not-all_ended g c = went_out (g.H.Report.told c.args.heap.now).seen (sym c.all_ended.ensures ∙ c.if-not-all_ended.true)

pub returns-then-all_halted : goal.returns-then-all_halted
returns-then-all_halted g c = went_done (g.H.Report.told c.args.heap.now).seen (sym c.all_ended.ensures ∙ c.if-not-all_ended.false) (sym c.all_halted.ensures ∙ c.if-all_halted.true)

pub returns-else-all_halted : goal.returns-else-all_halted
returns-else-all_halted g c = went_otherwise (g.H.Report.told c.args.heap.now).seen (sym c.all_ended.ensures ∙ c.if-not-all_ended.false) (sym c.all_halted.ensures ∙ c.if-all_halted.false)
