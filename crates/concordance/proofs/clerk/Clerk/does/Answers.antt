use Rattle.concordance.specs.Desk.{CanDo}
use Rattle.concordance.specs.Lone.{desk_of}
use Rattle.concordance.proofs.Doing.{does_begins}
use Rattle.concordance.proofs.Lone.{does_desk, does_lone, does_not_end}
use Rattle.concordance.proofs.Calls.{does_not_snap}
use Rattle.gc_worker.proofs.Workers.Printing.{prints_nothing}
use Rattle.concordance.proofs.clerk.Clerk.does.Goals as goal

pub call-requires-clause-may_begin : goal.call-requires-clause-may_begin
call-requires-clause-may_begin g c = does_begins _ _ (desk_of c.args.self.now) c.args.instr c.requires.valid c.requires.can

pub unreachable-requires : goal.unreachable-requires
unreachable-requires g c = does_not_end c.args.self.now c.call.new.self c.args.instr c.requires.lone c.requires.can c.call.result c.call.ensures.called c.in-Trap.field-0 c.in-Trap.is

pub returns-clause-lone : goal.returns-clause-lone
returns-clause-lone g c = does_lone c.args.self.now c.call.new.self c.args.instr c.requires.lone c.requires.can c.call.result c.call.ensures.called c.in-Done.is

pub returns-clause-desk : goal.returns-clause-desk
returns-clause-desk g c = does_desk c.args.self.now c.call.new.self c.args.instr c.requires.lone c.requires.can c.call.result c.call.ensures.called c.in-Done.is

pub call-requires-clause-other : goal.call-requires-clause-other
call-requires-clause-other g c = does_not_snap (desk_of c.args.self.now) c.args.instr c.requires.can

pub call-requires-clause-silent : goal.call-requires-clause-silent
call-requires-clause-silent g c = prints_nothing (CanDo (desk_of c.args.self.now)) (λ a can. can) c.args.instr c.requires.can
