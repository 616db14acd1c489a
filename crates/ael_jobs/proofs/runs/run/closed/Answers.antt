use Rattle.ael_jobs.proofs.WholeRuns.Threading.{has_closed, is_whole}
use Rattle.ael_jobs.proofs.runs.run.closed.Goals as goal

pub new-requires : goal.new-requires
new-requires g c =
    let program = c.args.program.now in
    is_whole c.what_stands_is_told.ensures c.args.options program.code program.schedule c.in-Ok.outputs (rw c.config.ensures at c.in-Ok.ensures.runs) program.well_formed c.requires.scanners

pub returns-in-Ok : goal.returns-in-Ok
returns-in-Ok g c =
    let program = c.args.program.now in
    let closed = has_closed c.what_stands_is_told.ensures c.args.options program.code program.schedule c.in-Ok.outputs (rw c.config.ensures at c.in-Ok.ensures.runs) in
    rw c.new.ensures closed
