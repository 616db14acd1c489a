use Rattle.std.proofs.Common.{◌∙◌, ap, ℕ}
use Rattle.std.specs.Global.{Vec}
use Rattle.std.proofs.lemmas.Result.{IfOk-weaker}
use Rattle.gc_core.proofs.Events.OpenedCore.{limit_fits}
use Rattle.ael_jobs.specs.Runs.Simulation.{config}
use Rattle.ael_jobs.proofs.WholeRuns.Threading.{run_is}
use Rattle.ael_jobs.proofs.runs.run.run.Goals as goal

pub returns : goal.returns
returns g c =
    let heap = c.in_ok-push_heap.ensures.text in
    let count = limit_fits (config c.args.options) c.requires.sizes in
    IfOk-weaker c.new.result _ _ (λ answer new. run_is c.args.options _ _ c.in_ok-heap.heap _ _ c.in_ok-heap.ensures c.args.program.now.well_formed count c.requires.scanners c.in_ok-push_heap.ensures.words c.in_ok-push_mutators.ensures.ends heap.0 heap.1
    (new.0 ∙ ap (λ (v : Vec ℕ). v.items) c.into_bytes.ensures.value
    ∙ rw (heap.2, c.in_ok-push_mutators.ensures.lines, c.new-output.ensures.bytes))
    (new.1 ∙ c.verdict.ensures)) c.new.ensures.whole
