use Rattle.std.proofs.Common.{◌∙◌, sym}
use Rattle.ael_threads.proofs.Refusals.{may_be_begun}
use Rattle.ael_threads.proofs.mutator.Mutator.try_begin.Goals as goal

pub begin-requires-clause-may_begin : goal.begin-requires-clause-may_begin
begin-requires-clause-may_begin c = (may_be_begun c.args.self.now c.args.instr.now (sym c.refusal.ensures ∙ c.in_default.is)).may_begin

pub begin-requires-clause-may_execute : goal.begin-requires-clause-may_execute
begin-requires-clause-may_execute c = (may_be_begun c.args.self.now c.args.instr.now (sym c.refusal.ensures ∙ c.in_default.is)).may_execute
