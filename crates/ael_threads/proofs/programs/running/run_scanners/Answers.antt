use Rattle.std.proofs.Common.{sym, subst, rules}
use Rattle.ael_threads.specs.Readers.{SeatedScanner}
use Rattle.ael_threads.specs.Runs.Running.{ScannerIsGone, RunsAsScanner}
use Rattle.ael_threads.proofs.ProgramRuns.StartAndEnd.{each_scanned}
use Rattle.ael_threads.proofs.programs.running.run_scanners.Goals as goal

pub returns-clause-scanned : goal.returns-clause-scanned
returns-clause-scanned g c =
    let w = c.args.job.now in
    λ from scanning. each_scanned w from c.args.scanners.now c.for_each_mut.new.s (search rules) (λ i s below k is.
    let e = (c.for_each_mut.ensures i s below).1 in
    subst (λ (s : SeatedScanner). ScannerIsGone w k s.seated) e.left (e.call k (subst (λ (s : SeatedScanner). RunsAsScanner w k s.seated) (sym e.argument_is) is))) scanning
