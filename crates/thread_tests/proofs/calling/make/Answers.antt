use Rattle.std.proofs.Common.{arith, rules}
use Rattle.gc_worker.proofs.Workers.Printing.{may_execute_all}
use Rattle.ael_threads.proofs.WholeCalls.AfterSnap.{called_rests}
use Rattle.thread_tests.proofs.calling.make.Goals as goal

pub exec-did-requires-clause-may_begin : goal.exec-did-requires-clause-may_begin
exec-did-requires-clause-may_begin g c = record { valid = c.requires.valid; serial = λ m is. omega arith }

pub exec-did-requires-clause-may_execute : goal.exec-did-requires-clause-may_execute
exec-did-requires-clause-may_execute g c = may_execute_all _ c.args.instr (search rules)

pub returns-clause-rests : goal.returns-clause-rests
returns-clause-rests g c = called_rests c.args.mutator.now c.exec-did.new.self c.args.instr c.exec-did.result c.exec-did.ensures.called
