use Rattle.std.proofs.Common.{subst, sym}
use Rattle.concordance_text.specs.Rows.{IsConcordanceOf}
use Rattle.ael_jobs.specs.Tasks.Concord.{Concorded, HasNoConcordance}
use Rattle.ael_commands.proofs.NoConcordance.{no_concordance, short_unless_told}
use Rattle.ael_commands.proofs.concord.concord.Goals as goal

pub returns-in-Err-clause-err : goal.returns-in-Err-clause-err
returns-in-Err-clause-err g c =
    let none = no_concordance _ _ c.concord.result _ c.in-Err.is c.concord.ensures.too_long (rw c.config.ensures at c.concord.ensures.full) in
    subst (HasNoConcordance c.args.options.pages c.args.text.now) (sym c.status.ensures) none

pub returns-in_ok-new-in-Ok-clause-ok : goal.returns-in_ok-new-in-Ok-clause-ok
returns-in_ok-new-in-Ok-clause-ok g c =
    let text = c.args.text.now in
    let short = short_unless_told text c.concord.result c.concord.ensures.too_long (λ line other. let told = c.in-Ok.is in cc) in
    Concorded short (subst (IsConcordanceOf text) (sym c.in_ok-new-in-Ok.ensures.whole.0) c.in-Ok.ensures.told) c.in_ok-new-in-Ok.ensures.whole.1
