use Rattle.std.proofs.Common.{◌∙◌, sym}
use Rattle.ael_threads.proofs.Refusals.{may_be_begun}
use Rattle.ael_threads.proofs.mutator.Mutator.try_exec.Goals as goal

pub exec-requires-clause-may_begin : goal.exec-requires-clause-may_begin
exec-requires-clause-may_begin g c = (may_be_begun c.args.self.now c.args.instr.now (sym c.refusal.ensures ∙ c.in_default.is)).may_begin

pub exec-requires-clause-may_execute : goal.exec-requires-clause-may_execute
exec-requires-clause-may_execute g c = (may_be_begun c.args.self.now c.args.instr.now (sym c.refusal.ensures ∙ c.in_default.is)).may_execute
