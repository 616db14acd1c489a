use Rattle.concordance.specs.Gathering.{CanGet, whole_desk_of}
use Rattle.concordance.proofs.Gathered.Reads.{gets_begins, gets_it, gets_not_end}
use Rattle.concordance.proofs.Calls.{gets_not_snap}
use Rattle.gc_worker.proofs.Workers.Printing.{prints_nothing}
use Rattle.concordance.proofs.clerk.Clerk.gets.Goals as goal

pub call-requires-clause-may_begin : goal.call-requires-clause-may_begin
call-requires-clause-may_begin g c = gets_begins c.args.self.now.worker.account c.args.self.now.worker.registers (whole_desk_of c.args.self.now) c.args.instr c.requires.valid c.requires.can

pub call-requires-clause-no_end : goal.call-requires-clause-no_end
call-requires-clause-no_end g c = c.requires.all.no_end

pub unreachable-requires : goal.unreachable-requires
unreachable-requires g c = gets_not_end c.args.self.now c.call.new.self c.args.instr c.requires.all c.requires.can c.call.result c.call.ensures.called c.in-Trap.field-0 c.in-Trap.is

pub returns : goal.returns
returns g c = gets_it c.args.self.now c.call.new.self c.args.instr c.requires.all c.requires.can c.call.result c.call.ensures.called c.in-Done.is c.call.ensures.of_heap c.requires.valid

pub call-requires-clause-other : goal.call-requires-clause-other
call-requires-clause-other g c = gets_not_snap (whole_desk_of c.args.self.now) c.args.instr c.requires.can

pub call-requires-clause-silent : goal.call-requires-clause-silent
call-requires-clause-silent g c = prints_nothing (CanGet (whole_desk_of c.args.self.now)) (λ a can. can) c.args.instr c.requires.can
