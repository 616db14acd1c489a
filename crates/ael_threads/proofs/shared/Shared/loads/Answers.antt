use Rattle.std.proofs.Common.{refl, sym, ap, ◌∙◌}
use mathlib.Core.Option.{none}
use Rattle.atomic_table.specs.Seated.{TableId}
use Rattle.atomic_table.specs.Table.{step}
use Rattle.atom_store.specs.declared.step.Step.TheVariants.{Load}
use Rattle.gc_worker.specs.Steps.Direct.{ahead}
use Rattle.ael_threads.proofs.TableRule.SeatSteps.{bound, moved, now_allows}
use Rattle.ael_threads.proofs.shared.Shared.loads.Goals as goal

pub load-requires : goal.load-requires
load-requires g c =
    let x = ahead c.args.worker.now c.args.instr c.args.stage in
    let q = Load c.args.place in
    let ready = c.requires.ready in (
      c.requires.table,
      bound _ _ _ x q q ready.heads (ap (λ (z : TableId). z.words) (sym c.requires.table) ∙ ready.live.1) c.requires.want refl,
      now_allows _ _ _ _ x _ q q (step 0 0 0 0 none) ready.heads ready.live.0 ready.mine ready.shows (sym c.requires.now) c.requires.want refl (λ n. n) (λ n. refl),
    )

pub returns-clause-moved : goal.returns-clause-moved
returns-clause-moved g c =
    let q = Load c.args.place in moved c.args.seat.now.me c.load.new.seat.me (ahead c.args.worker.now c.args.instr c.args.stage) g.J.Now.now q q c.load.result (sym c.requires.now) c.requires.want refl c.load.ensures.2
