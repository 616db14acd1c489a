use Rattle.concordance.proofs.Working.WorkedPart.{has_read, worked_first, worked_other}
use Rattle.concordance.proofs.running.reads.Goals as goal

pub returns-then-number-eq0-clause-worked : goal.returns-then-number-eq0-clause-worked
returns-then-number-eq0-clause-worked g c =
    let done = c.in_default.ensures in
    let read = has_read c.args.job.now c.args.number c.args.part c.args.clerk.now c.read.new.self c.requires.ready done.same done.lone done.noted in
    let put = c.puts_notes.ensures.called in
    worked_first c.args.job.now c.args.number c.args.part c.read.new.self c.puts_notes.new.self read put c.stands_by.new.self c.stands_by.ensures.silent (c.stands_by.ensures.shows put.shows)

pub returns-else-number-eq0-clause-worked : goal.returns-else-number-eq0-clause-worked
returns-else-number-eq0-clause-worked g c =
    let done = c.in_default.ensures in
    let read = has_read c.args.job.now c.args.number c.args.part c.args.clerk.now c.read.new.self c.requires.ready done.same done.lone done.noted in
    let put = c.puts_notes.ensures.called in
    worked_other c.args.job.now c.args.number c.args.part c.read.new.self c.puts_notes.new.self read put c.leave-else-number-eq0.new.self (c.leave-else-number-eq0.ensures.halts put.ends) c.if-number-eq0.false
