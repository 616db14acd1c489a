use Rattle.std.proofs.Common.{refl, ◌∙◌}
use Rattle.std.proofs.lemmas.Result.{IfOk-weaker}
use Rattle.gc_core.proofs.Events.OpenedCore.{limit_fits}
use Rattle.ael_jobs.specs.Runs.Run.{IsRunOf, Scheduled}
use Rattle.ael_jobs.specs.Runs.Simulation.{config, simulated_run, scheduled}
use Rattle.ael_jobs.proofs.WholeRuns.Simulating.{run_size, simulated}
use Rattle.ael_jobs.proofs.runs.sim.sim.Goals as goal

pub returns : goal.returns
returns c =
    let options = c.args.options in
    let program = c.args.program.now.code in
    let items = c.args.program.now.schedule in
    let schedule = scheduled options program items in
    let formed = c.args.program.now.well_formed in
    let sizes = c.requires.sizes in
    let turns = c.requires.turns.1 in
    let scanners = c.requires.scanners in
    let follows = c.runs_follow.ensures program items options.run.turns (config options.run) schedule options.steps formed sizes turns scanners in
    let is : IsRunOf (Scheduled options) program items (simulated_run options program items) = record {
      made = record {
        is = refl;
        full = follows.full;
        filled = c.full_heaps_are_filled.ensures.orders program items options.run.turns (config options.run) schedule options.steps formed sizes turns scanners;
        claimed = c.full_heaps_are_filled.ensures.by_claims program items options.run.turns (config options.run) schedule options.steps formed sizes turns scanners;
        large = c.large_heaps_are_never_full.ensures.large program items options.run.turns (config options.run) schedule options.steps formed sizes turns scanners;
      };
      acts = follows.acts;
      dump = follows.dump;
      checkpoint = c.checkpoints_are_told.ensures program items options.run.turns (config options.run) schedule options.steps formed sizes turns scanners;
      live = c.cycles_keep_what_is_live.ensures program items options.run.turns (config options.run) schedule options.steps formed sizes turns scanners;
      lost = c.cycles_empty_lost_cells.ensures program items options.run.turns (config options.run) schedule options.steps formed sizes turns scanners;
    } in
    let size = run_size options program items formed (limit_fits (config options.run) sizes) scanners follows.lawful in
    IfOk-weaker c.told.result _ _ (λ answer told. simulated options program items _ c.in_ok-order.order.items c.shown_order-shown.result.items told.3 _ _ is size follows.seen
    (rw (c.in_ok-core.ensures.opened, c.as_slice.ensures) at c.in_ok-order.ensures.core)
    (rw (c.in_ok-core.ensures.opened, c.as_slice.ensures) at c.in_ok-order.ensures.order) c.shown_order-shown.ensures.shown
    told.4 told.1 told.2 (told.5 ∙ rw c.deref.ensures.value) told.0) c.told.ensures
