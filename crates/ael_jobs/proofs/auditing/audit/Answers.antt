use Rattle.std.proofs.Common.{ℕ, ap, ◌∙◌, arith}
use Rattle.std.specs.Global.{Vec}
use Rattle.ael_jobs.proofs.Audits.{audited, unaudited}
use Rattle.ael_jobs.proofs.Causes.{passed_on}
use Rattle.ael_jobs.proofs.auditing.audit.Goals as goal

pub assemble-requires : goal.assemble-requires
assemble-requires c = let few = c.divided.ensures.no_longer in let short = c.requires in omega (arith, few, short)

pub audit-requires : goal.audit-requires
audit-requires c = let few = c.divided.ensures.no_longer in let short = c.requires in omega (arith, few, short)

pub returns-in_err-verdict-clause-err : goal.returns-in_err-verdict-clause-err
returns-in_err-verdict-clause-err c =
    passed_on _ _ _ c.from_residual-in_err-verdict.ensures.1
    (unaudited c.args.input.now c.divided.result.0.now c.divided.result.1.now _ _ c.args.options.turns c.audit.result c.divided.ensures.parts c.in_ok-program.ensures.text c.audit.ensures.verdict _ c.in_err-verdict.was)

pub returns-clause-ok : goal.returns-clause-ok
returns-clause-ok c =
    audited c.args.input.now c.divided.result.0.now c.divided.result.1.now _ _ c.args.options.turns c.audit.result c.divided.ensures.parts c.in_ok-program.ensures.text c.audit.ensures.verdict
    c.audit.ensures.yes _ _ _ c.in_ok-verdict.was
    (c.in_ok-new.ensures.whole.0 ∙ ap (λ (v : Vec ℕ). v.items) c.into_bytes.ensures.value ∙ c.in_ok-line.ensures)
    (c.in_ok-new.ensures.whole.1 ∙ c.status.ensures)
