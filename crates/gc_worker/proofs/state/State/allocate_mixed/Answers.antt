use Rattle.std.proofs.Common.{Ok, ap, subst, sym, ◌∙◌}
use Rattle.plain_heap.specs.declared.action.Action.TheVariants.{Makes}
use Rattle.plain_state.specs.declared.kind.Kind.TheVariants as kinds
use Rattle.plain_state.specs.declared.value.Value.TheVariants.{Number}
use Rattle.plain_heap.specs.Action.{◌>>=◌}
use Rattle.gc_worker.specs.Workers.Fits.{FitsStage}
use Rattle.gc_worker.specs.Steps.Stepped.{seen_by}
use Rattle.gc_worker.specs.Steps.Turned.{acted}
use Rattle.gc_worker.proofs.Plain.RecordsMade.{mixed_makes}
use Rattle.gc_worker.proofs.Workers.Fitting.{fits_before}
use Rattle.gc_worker.specs.Steps.Turned.{places}
use Rattle.gc_worker.specs.Workers.Held.{header_for}
use Rattle.gc_worker.proofs.state.State.allocate_mixed.Goals as goal

-- src/steps/instructions.rt:157:17
pub begin_placing-requires : goal.begin_placing-requires
begin_placing-requires c =
    let x = c.args.self.now in
    let d = c.requires.after.0 in
    let is = mixed_makes (seen_by x) d c.args.fields c.args.raw ∙ ap (λ o. o >>= (λ m. Ok (Makes (kinds.Mixed m.0) d m.1 (Number 0)))) (sym c.mixed_length.ensures ∙ c.in-Ok.is) in
    fits_before x (places x (header_for x)) (places x (header_for x)) (subst (λ o. FitsStage (acted x o) (acted x o).stage) is c.requires.after.1)
