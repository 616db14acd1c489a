use Rattle.std.proofs.Common.{ℕ, arith, inr, subst, sym}
use Rattle.ael_threads.proofs.ProgramRuns.Executions.{is_done}
use Rattle.ael_runtime.specs.declared.root.TheConstants.{FRAMES, SCRATCH}
use Rattle.ael_runtime.specs.Making.{HasPushed}
use Rattle.ael_runtime.proofs.FrameCalls.{few_now, full_frame, new_begins, pushed, sure_link}
use Rattle.ael_runtime.proofs.NumberCalls.{sure_mov}
use Rattle.ael_runtime.proofs.local.Local.push_frame.Goals as goal

pub does-requires-clause-sure : goal.does-requires-clause-sure
does-requires-clause-sure g c = sure_mov c.args.self.now SCRATCH FRAMES

pub call-requires-clause-may_begin : goal.call-requires-clause-may_begin
call-requires-clause-may_begin g c =
    new_begins c.args.self.now c.does.new.self _ c.serial.result c.does.ensures.executed c.if-len-gt-LONGEST_RECORD.false c.serial.ensures.seen c.if-serial-ge-MOST_RECORDS.false

pub returns-in-Trap-clause-fails : goal.returns-in-Trap-clause-fails
returns-in-Trap-clause-fails g c =
    inr (full_frame c.args.self.now c.does.new.self c.call.new.self c.args.slots c.from-len.result c.from-len.ensures c.if-len-gt-LONGEST_RECORD.false c.does.ensures.executed
    c.in-Trap.end (c.call.ensures.trapped c.in-Trap.end c.in-Trap.is))

pub does-requires-2-clause-sure : goal.does-requires-2-clause-sure
does-requires-2-clause-sure g c =
    sure_link c.args.self.now c.does.new.self c.call.new.self c.from-len.result c.if-len-gt-LONGEST_RECORD.false c.does.ensures.executed
    (c.call.ensures.executed (is_done c.call.result c.in_default-call.not-Trap))

pub remember-requires-clause-len : goal.remember-requires-clause-len
remember-requires-clause-len g c =
    let p = pushed c.args.self.now c.does.new.self c.call.new.self c.from-len.result c.if-len-gt-LONGEST_RECORD.false c.does.ensures.executed
    (c.call.ensures.executed (is_done c.call.result c.in_default-call.not-Trap)) c.does-2.new.self
    (few_now c.args.self.now c.serial.result c.serial.ensures.account c.if-serial-ge-MOST_RECORDS.false) c.does-2.ensures.executed in
    let len = p.len in
    omega (arith, len)

pub returns-clause-pushed : goal.returns-clause-pushed
returns-clause-pushed g c =
    subst (HasPushed c.args.self.now c.args.slots) (sym c.remember.ensures)
    (subst (λ (n : ℕ). HasPushed c.args.self.now n c.does-2.new.self) c.from-len.ensures
    (pushed c.args.self.now c.does.new.self c.call.new.self c.from-len.result c.if-len-gt-LONGEST_RECORD.false c.does.ensures.executed
    (c.call.ensures.executed (is_done c.call.result c.in_default-call.not-Trap)) c.does-2.new.self
    (few_now c.args.self.now c.serial.result c.serial.ensures.account c.if-serial-ge-MOST_RECORDS.false) c.does-2.ensures.executed))
