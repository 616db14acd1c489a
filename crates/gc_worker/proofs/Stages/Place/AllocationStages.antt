-- All stages of an allocation.
use Rattle.std.proofs.Common.{◌≡◌, ℕ, true, false, Some, sym, subst, ◌∙◌}
use Rattle.std.proofs.lemmas.Option.{same_Some}
use Rattle.plain_state.specs.State.{Plain}
use Rattle.record_layout.specs.declared.header.Header.{Header}
use Rattle.alloc_end.specs.declared.place_stage.PlaceStage.{PlaceStage}
use Rattle.alloc_end.specs.declared.place_stage.PlaceStage.TheVariants.{LoadsTraced, LoadsSize, LoadsArea, ExchangesArea, StoresZero, StoresNew, OpensPage, StoresCount, StoresTarget, StoresLink, StoresHeader, Ended}
use Rattle.alloc_end.specs.declared.run.Run.{Run}
use Rattle.alloc_end.specs.Place.{Placing}
use Rattle.heap_state.specs.Configuration.{Configuration, Stands}
use Rattle.gc_worker.specs.declared.stage.Stage.TheVariants.{Places}
use Rattle.gc_worker.specs.Steps.Goes.{Is, StepsSo}
use Rattle.gc_worker.specs.Workers.Fits.{IsMaking}
use Rattle.gc_worker.specs.Workers.Held.{Held, at_stage, fields_for, header_for, target_for}
use Rattle.gc_worker.proofs.Plain.NewRecords.{header_made, header_is}
use Rattle.gc_worker.proofs.Stages.Place.Areas.{loads_area}
use Rattle.gc_worker.proofs.Stages.Place.Claiming.{at, loads_traced, loads_size, exchanges_area}
use Rattle.gc_worker.proofs.Stages.Place.Ahead.{stores_count, stores_target, stores_link}
use Rattle.gc_worker.proofs.Stages.Place.Header.{stores_header}
use Rattle.gc_worker.proofs.Stages.Place.Marking.{stores_new}
use Rattle.gc_worker.proofs.Stages.Place.Opened.{opens_page}
use Rattle.gc_worker.proofs.Stages.Place.TracedAreas.{loads_area as loads_area_traced}
use Rattle.gc_worker.proofs.Stages.Place.Readying.{stores_zero}

module _ (c : Configuration) (p : Plain) (s : Stands c p) (k : ℕ) (x : Held) where
  -- the header is that of the record that the task makes
  for_made : (run : Run) (header : Header) (stage : PlaceStage) (making : IsMaking x.account x.registers x.task) → header_for x ≡ Some header
      → (Is c k (at c p s k x run (header_made x making) stage) → StepsSo c p s k (at c p s k x run (header_made x making) stage))
      → Is c k (at c p s k x run header stage) → StepsSo c p s k (at c p s k x run header stage)
  for_made run header stage making is =
      subst (λ (h : Header). Is c k (at c p s k x run h stage) → StepsSo c p s k (at c p s k x run h stage)) (same_Some (header_made x making) header (sym (header_is x making) ∙ is))

  own : (run : Run) (header : Header) (stage : PlaceStage) → Is c k (at c p s k x run header stage) → StepsSo c p s k (at c p s k x run header stage)
  own run header LoadsTraced is = loads_traced c p s k x run header is
  own run header (LoadsSize traced) is = loads_size c p s k x run header traced is
  own run header (LoadsArea false size) is = loads_area c p s k x run header size is
  own run header (LoadsArea true size) is = let task = is.fits.task in for_made run header (LoadsArea true size) task.0 task.1 (loads_area_traced c p s k x run size task.0) is
  own run header (ExchangesArea f) is = exchanges_area c p s k x run header f is
  own run header (StoresZero new) is = stores_zero c p s k x run header new is
  own run header (StoresNew new) is = stores_new c p s k x run header new is
  own run header (OpensPage new) is = opens_page c p s k x run header new is
  own run header StoresCount is = stores_count c p s k x run header is
  own run header StoresTarget is = stores_target c p s k x run header is
  own run header StoresLink is = stores_link c p s k x run header is
  own run header StoresHeader is = let task = is.fits.task in for_made run header StoresHeader task.0 task.1 (stores_header c p s k x run task.0) is
  own run header (Ended result) is = absurd is.fits.stage.going

  pub places : (z : Placing) → Is c k (at_stage x (Places z)) → StepsSo c p s k (at_stage x (Places z))
  places z is =
      let same : z ≡ record { layout = x.layout; run = z.run; header = z.header; fields = fields_for x; epoch = x.epoch; snap = x.snap; target = target_for x; stage = z.stage } =
      (λ i. record { layout = is.fits.stage.layout i; run = z.run; header = z.header; fields = is.fits.stage.fields i; epoch = is.fits.stage.epoch i; snap = is.fits.stage.snap i; target = is.fits.stage.target i; stage = z.stage }) in
      subst (λ (y : Placing). StepsSo c p s k (at_stage x (Places y))) (sym same)
      (own z.run z.header z.stage (subst (λ (y : Placing). Is c k (at_stage x (Places y))) same is))
