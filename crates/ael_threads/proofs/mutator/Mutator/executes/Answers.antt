use Rattle.std.proofs.Common.{◌<◌, ◌≤◌, ◌∙◌, ap, sym, subst, arith}
use Rattle.plain_state.specs.declared.end.End.TheVariants.{JumpOut, TurnsOut}
use Rattle.mutator_asm.specs.Program.{instr_at}
use Rattle.gc_worker.specs.declared.task.Task.TheVariants.{Calls, Stops}
use Rattle.gc_worker.specs.declared.calls.did.Did.{Did}
use Rattle.gc_worker.proofs.Workers.Printing.{may_execute_all}
use Rattle.ael_threads.specs.declared.view.Plan.{Plan}
use Rattle.ael_threads.specs.Calls.{Called}
use Rattle.ael_threads.specs.Runs.Running.{Work}
use Rattle.ael_threads.proofs.ProgramRuns.Executions.{executing_ends, executing_more, is_done, next_call, next_jumps, out_of_turns, read_off}
use Rattle.ael_threads.proofs.ProgramRuns.Programs.{call_may_begin}
use Rattle.ael_threads.proofs.mutator.Mutator.executes.Goals as goal

pub returns-in_default : goal.returns-in_default
returns-in_default g c =
    let w : Work = c.args.job.now in
    let a = c.loop-executed.self in
    let few : c.loop-executed.executed < w.turns = subst (λ (z : Work). c.loop-executed.executed < z.turns) c.job.view_is c.loop-executed-test.true in
    let is = c.instr.ensures.exact ∙ ((λ i. instr_at (c.job.view_is i).code c.args.m (c.pc.ensures.pc i))) in
    executing_ends w c.args.m c.loop-executed.executed a c.loop-executed.invariant c.stop.new.self (Stops JumpOut) JumpOut c.stop.ensures.table
    (read_off w c.args.m c.loop-executed.executed a c.loop-executed.invariant (Stops JumpOut) c.pc.ensures.shows (next_jumps w c.args.m a.worker.account.counter c.loop-executed.executed c.instr.result few is c.in_default.is)) c.stop.ensures.called

pub calls-requires-clause-may_begin : goal.calls-requires-clause-may_begin
calls-requires-clause-may_begin g c =
    let w : Work = c.args.job.now in
    let few : c.loop-executed.executed < w.turns = subst (λ (z : Work). c.loop-executed.executed < z.turns) c.job.view_is c.loop-executed-test.true in
    let most = c.job.inside.few in
    let turns = ap (λ (z : Work). z.turns) c.job.view_is in
    call_may_begin w.code w.turns c.loop-executed.executed c.loop-executed.self c.in-Some.instr c.loop-executed.invariant.executed c.pc.ensures.shows c.pc.ensures.there c.in-Some.ensures.valid
    (omega (arith, few, most, turns))

pub returns-in-Trap : goal.returns-in-Trap
returns-in-Trap g c =
    let w : Work = c.args.job.now in
    let a = c.loop-executed.self in
    let few : c.loop-executed.executed < w.turns = subst (λ (z : Work). c.loop-executed.executed < z.turns) c.job.view_is c.loop-executed-test.true in
    let is = c.instr.ensures.exact ∙ ((λ i. instr_at (c.job.view_is i).code c.args.m (c.pc.ensures.pc i))) in
    executing_ends w c.args.m c.loop-executed.executed a c.loop-executed.invariant c.calls.new.self (Calls c.in-Some.instr) c.in-Trap.field-0 c.calls.ensures.table
    (read_off w c.args.m c.loop-executed.executed a c.loop-executed.invariant (Calls c.in-Some.instr) c.pc.ensures.shows (next_call w c.args.m a.worker.account.counter c.loop-executed.executed c.instr.result c.in-Some.instr few is c.in-Some.is)) c.in-Trap.ensures.called

pub loop-executed-preserved : goal.loop-executed-preserved
loop-executed-preserved g c =
    let w : Work = c.args.job.now in
    let a = c.loop-executed.self in
    let few : c.loop-executed.executed < w.turns = subst (λ (z : Work). c.loop-executed.executed < z.turns) c.job.view_is c.loop-executed-test.true in
    let is = c.instr.ensures.exact ∙ ((λ i. instr_at (c.job.view_is i).code c.args.m (c.pc.ensures.pc i))) in
    executing_more w c.args.m c.loop-executed.executed a c.loop-executed.invariant c.calls.new.self (Calls c.in-Some.instr) c.calls.ensures.table
    (read_off w c.args.m c.loop-executed.executed a c.loop-executed.invariant (Calls c.in-Some.instr) c.pc.ensures.shows (next_call w c.args.m a.worker.account.counter c.loop-executed.executed c.instr.result c.in-Some.instr few is c.in-Some.is))
    (subst (λ (did : Did). Called a (Calls c.in-Some.instr) did c.calls.new.self) (is_done c.calls.result c.in_default-calls.not-Trap) c.calls.ensures.called)

pub returns : goal.returns
returns g c =
    let w : Work = c.args.job.now in
    let a = c.loop-executed.self in
    let past = c.loop-executed-test.false in
    let turns = ap (λ (z : Work). z.turns) c.job.view_is in
    let enough : w.turns ≤ c.loop-executed.executed = omega (arith, past, turns) in
    executing_ends w c.args.m c.loop-executed.executed a c.loop-executed.invariant c.stop-2.new.self (Stops TurnsOut) TurnsOut c.stop-2.ensures.table
    (out_of_turns w c.args.m c.loop-executed.executed a c.loop-executed.invariant enough) c.stop-2.ensures.called

pub calls-requires-clause-may_execute : goal.calls-requires-clause-may_execute
calls-requires-clause-may_execute g c =
    let at = c.loop-executed.invariant.plan in
    let prints = ap (λ (w : Work). w.plan.prints) (sym c.job.view_is) in
    may_execute_all _ c.in-Some.instr (ap (λ (p : Plan). p.prints) at ∙ (prints ∙ c.job.inside.prints))
