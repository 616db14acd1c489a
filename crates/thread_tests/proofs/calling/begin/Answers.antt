use Rattle.std.proofs.Common.{arith, rules}
use Rattle.gc_worker.proofs.Workers.Printing.{may_execute_all}
use Rattle.thread_tests.proofs.calling.begin.Goals as goal

pub begin-requires-clause-may_begin : goal.begin-requires-clause-may_begin
begin-requires-clause-may_begin g c = record { valid = c.requires.valid; serial = λ m is. omega arith }

pub begin-requires-clause-may_execute : goal.begin-requires-clause-may_execute
begin-requires-clause-may_execute g c = may_execute_all _ c.args.instr (search rules)
