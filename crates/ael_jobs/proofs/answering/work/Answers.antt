use Rattle.std.proofs.lemmas.Result.{IfErr-weaker, IfOk-weaker}
use Rattle.ael_jobs.proofs.Causes.{audited, benched, drawn_for, kept_ok, none_made, of_program, passed_on, reads_all, reads_program, unfit, without_verdict}
use Rattle.ael_jobs.proofs.answering.work.Goals as goal

pub make-requires-clause-reads : goal.make-requires-clause-reads
make-requires-clause-reads g c = reads_program _ c.requires.still c.in_default.not-Bench c.in_default.not-Audit

pub returns-in_err-read_program-in_default-clause-err : goal.returns-in_err-read_program-in_default-clause-err
returns-in_err-read_program-in_default-clause-err g c =
    passed_on _ _ _ c.from_residual-in_err-read_program-in_default.ensures.1 (unfit _ _ _ (reads_program _ c.requires.still c.in_default.not-Bench c.in_default.not-Audit) c.in_err-read_program-in_default.ensures.err)

pub returns-in_err-read_program-in_default-clause-drawn : goal.returns-in_err-read_program-in_default-clause-drawn
returns-in_err-read_program-in_default-clause-drawn g c = drawn_for _ _ (reads_all _ (reads_program _ c.requires.still c.in_default.not-Bench c.in_default.not-Audit)) c.in_err-read_program-in_default.ensures.drawn

pub returns-in_ok-read_program-in_default-clause-ok : goal.returns-in_ok-read_program-in_default-clause-ok
returns-in_ok-read_program-in_default-clause-ok g c =
    kept_ok _ _ c.make.result c.or_no_memory-in_default.result c.or_no_memory-in_default.ensures (λ answer. of_program _ _ _ _ _ _ (reads_all _ (reads_program _ c.requires.still c.in_default.not-Bench c.in_default.not-Audit)) c.in_ok-read_program-in_default.ensures.ok)
    c.make.ensures

pub returns-in_ok-read_program-in_default-clause-err : goal.returns-in_ok-read_program-in_default-clause-err
returns-in_ok-read_program-in_default-clause-err g c = none_made _ _ c.make.result c.or_no_memory-in_default.result c.or_no_memory-in_default.ensures

pub returns-in_ok-read_program-in_default-clause-drawn : goal.returns-in_ok-read_program-in_default-clause-drawn
returns-in_ok-read_program-in_default-clause-drawn g c = drawn_for _ _ (reads_all _ (reads_program _ c.requires.still c.in_default.not-Bench c.in_default.not-Audit)) c.in_ok-read_program-in_default.ensures.drawn

pub returns-in-Bench-clause-ok : goal.returns-in-Bench-clause-ok
returns-in-Bench-clause-ok g c = kept_ok _ _ c.bench.result c.or_no_memory.result c.or_no_memory.ensures (λ answer. benched _ _ _ _ _ c.in-Bench.is) c.bench.ensures

pub returns-in-Bench-clause-err : goal.returns-in-Bench-clause-err
returns-in-Bench-clause-err g c = none_made _ _ c.bench.result c.or_no_memory.result c.or_no_memory.ensures

pub returns-in_ok-read_all-in-Audit-clause-ok : goal.returns-in_ok-read_all-in-Audit-clause-ok
returns-in_ok-read_all-in-Audit-clause-ok g c =
    let input = c.deref.result.now in
    IfOk-weaker c.audit.result _ _ (λ answer. audited _ _ _ input _ _ c.in-Audit.is (rw c.deref.ensures.value c.in_ok-read_all-in-Audit.ensures.whole)) c.audit.ensures.ok

pub returns-in_ok-read_all-in-Audit-clause-err : goal.returns-in_ok-read_all-in-Audit-clause-err
returns-in_ok-read_all-in-Audit-clause-err g c =
    let input = c.deref.result.now in
    IfErr-weaker c.audit.result _ _ (λ status. without_verdict _ _ _ input _ c.in-Audit.is (rw c.deref.ensures.value c.in_ok-read_all-in-Audit.ensures.whole)) c.audit.ensures.err
