use Rattle.std.proofs.Common.{◌≡◌, sym, subst}
use Rattle.ael_threads.specs.Histories.{Each}
use Rattle.ael_threads.specs.Opened.{plan_without_printing}
use Rattle.ael_threads.specs.Readers.{SeatedScanner}
use Rattle.concordance.proofs.Working.NewSeats.{scanners_of_heap}
use Rattle.concordance.proofs.making.open.Goals as goal

pub returns-in-Ok-clause-scanners : goal.returns-in-Ok-clause-scanners
returns-in-Ok-clause-scanners c =
    let t = c.in-Ok.opened.0.table.shared.table_id in
    subst (Each (λ (s : SeatedScanner). s.seated.table ≡ t)) (sym c.in-Ok.ensures.scanners) (scanners_of_heap t (plan_without_printing c.args.clerks c.args.config.now) c.args.clerks c.args.config.now.scanners)
