use Rattle.std.proofs.Common.{[], ◌∷◌}
use Rattle.ael_jobs.specs.Arguments.CommandLine.{ael_with, asm_app, audit_app, bench_app, concord_app, run_app, sim_app}
use Rattle.ael_jobs.proofs.arguments.command_line.command.Goals as goal

pub returns : goal.returns
returns c =
    let two = c.add-two.ensures (ael_with (asm_app.top ∷ [])) sim_app c.with_asm.ensures c.sim.ensures.app in
    let three = c.add-three.ensures (ael_with (asm_app.top ∷ sim_app.top ∷ [])) run_app two c.run.ensures.app in
    let four = c.add-four.ensures (ael_with (asm_app.top ∷ sim_app.top ∷ run_app.top ∷ [])) concord_app three c.concord.ensures.app in
    let five = c.add-five.ensures (ael_with (asm_app.top ∷ sim_app.top ∷ run_app.top ∷ concord_app.top ∷ [])) bench_app four c.bench.ensures.app in
    c.add.ensures (ael_with (asm_app.top ∷ sim_app.top ∷ run_app.top ∷ concord_app.top ∷ bench_app.top ∷ [])) audit_app five c.audit.ensures.app
