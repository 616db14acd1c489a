use Rattle.std.proofs.Common.{◌∙◌, ap, subst, arith}
use Rattle.gc_worker.specs.declared.calls.did.Did.TheVariants.{Trap}
use Rattle.ael_threads.specs.Seats.{Seated, ShowsSeen}
use Rattle.concordance.specs.Desk.{CanMake}
use Rattle.concordance.specs.Lone.{desk_of}
use Rattle.concordance.proofs.Doing.{makes_serial}
use Rattle.concordance.proofs.Lone.{finds_full, makes_desk, makes_full, makes_lone}
use Rattle.concordance.proofs.Shown.{serial_read}
use Rattle.concordance.proofs.Calls.{makes_not_snap}
use Rattle.gc_worker.proofs.Workers.Printing.{prints_nothing}
use Rattle.concordance.proofs.clerk.Clerk.makes.Goals as goal

pub prove-unreachable-requires : goal.prove-unreachable-requires
prove-unreachable-requires g c =
    let serial = c.serial-serial.ensures in
    let read = serial_read c.self.inside.mutator c.args.self.now c.self.view_is c.requires.lone serial.shows serial.there in
    let few = makes_serial (desk_of c.args.self.now) c.args.instr c.requires.can in
    let said = serial.serial in
    let many = c.if-prove.true in
    omega (arith, read, few, said, many)

pub of-requires : goal.of-requires
of-requires g c = makes_full c.args.self.now c.call.new.self c.args.instr c.requires.lone c.requires.can c.call.result c.call.ensures.called c.in-Trap.end c.in-Trap.is

pub returns-in-Done-clause-lone : goal.returns-in-Done-clause-lone
returns-in-Done-clause-lone g c = makes_lone c.args.self.now c.call.new.self c.args.instr c.requires.lone c.requires.can c.call.result c.call.ensures.called c.in-Done.is

pub returns-in-Done-clause-desk : goal.returns-in-Done-clause-desk
returns-in-Done-clause-desk g c = makes_desk c.args.self.now c.call.new.self c.args.instr c.requires.lone c.requires.can c.call.result c.call.ensures.called c.in-Done.is

pub returns-in-Trap-clause-full : goal.returns-in-Trap-clause-full
returns-in-Trap-clause-full g c =
    finds_full c.args.self.now c.call.new.self c.args.instr c.requires.lone c.requires.can c.call.result c.call.ensures.called c.of.result.asked c.of.result.room c.of.ensures.0 (c.in-Trap.is ∙ ap Trap c.of.ensures.1)

pub returns-in-Done-clause-shows : goal.returns-in-Done-clause-shows
returns-in-Done-clause-shows g c = subst (λ (s : Seated). ShowsSeen s.worker s.knows) c.self.view_is c.serial-serial.ensures.shows

pub returns-in-Trap-clause-shows : goal.returns-in-Trap-clause-shows
returns-in-Trap-clause-shows g c = subst (λ (s : Seated). ShowsSeen s.worker s.knows) c.self.view_is c.serial-serial.ensures.shows

pub call-requires-clause-other : goal.call-requires-clause-other
call-requires-clause-other g c = makes_not_snap (desk_of c.args.self.now) c.args.instr c.requires.can

pub call-requires-clause-silent : goal.call-requires-clause-silent
call-requires-clause-silent g c = prints_nothing (CanMake (desk_of c.args.self.now)) (λ a can. can) c.args.instr c.requires.can
