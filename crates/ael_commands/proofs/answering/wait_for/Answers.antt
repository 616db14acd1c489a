use Rattle.std.proofs.lemmas.Result.{IfErr-weaker, IfOk-weaker}
use Rattle.ael_jobs.proofs.Causes.{concords, kept_ok, without_concordance, passed_on, threaded, unfit}
use Rattle.ael_commands.proofs.answering.wait_for.Goals as goal

pub returns-in_err-read_program-in-Run-clause-err : goal.returns-in_err-read_program-in-Run-clause-err
returns-in_err-read_program-in-Run-clause-err g c = passed_on _ _ _ c.from_residual.ensures.1 (unfit _ _ _ (rw c.in-Run.is tt) c.in_err-read_program-in-Run.ensures.err)

pub returns-in_ok-read_program-in-Run-clause-ok : goal.returns-in_ok-read_program-in-Run-clause-ok
returns-in_ok-read_program-in-Run-clause-ok g c =
    kept_ok _ _ c.run.result c.or_no_memory.result c.or_no_memory.ensures (λ answer. threaded _ _ _ _ _ _ _ c.in-Run.is c.in_ok-read_program-in-Run.ensures.ok) c.run.ensures

pub returns-in_ok-read_all-in-Concord-clause-ok : goal.returns-in_ok-read_all-in-Concord-clause-ok
returns-in_ok-read_all-in-Concord-clause-ok g c =
    let text = c.deref.result.now in
    IfOk-weaker c.concord.result _ _ (λ answer. concords _ _ _ text _ _ c.in-Concord.is (rw c.deref.ensures.value c.in_ok-read_all-in-Concord.ensures.whole)) c.concord.ensures.ok

pub returns-in_ok-read_all-in-Concord-clause-err : goal.returns-in_ok-read_all-in-Concord-clause-err
returns-in_ok-read_all-in-Concord-clause-err g c =
    let text = c.deref.result.now in
    IfErr-weaker c.concord.result _ _ (λ status. without_concordance _ _ _ text _ c.in-Concord.is (rw c.deref.ensures.value c.in_ok-read_all-in-Concord.ensures.whole)) c.concord.ensures.err
