-- Each step of an access by a lone mutator leaves it less to pay.
use Rattle.std.proofs.Common.{◌≡◌, sym, subst}
use Rattle.plain_state.specs.State.{Plain}
use Rattle.heap_state.specs.Configuration.{Configuration, Stands}
use Rattle.record_access.specs.declared.access.Access.{Access}
use Rattle.record_access.specs.declared.access_stage.AccessStage.{AccessStage}
use Rattle.record_access.specs.declared.access_stage.AccessStage.TheVariants.{LooksAtRecord, LoadsHeader, LooksAtCount, LoadsCount, LooksAtField, LoadsField, StoresField, LoadsForCas, ExchangesField, LooksAtBoard, LoadsBoard, StoresBoard, LoadsForSwap, SwapsBoard}
use Rattle.gc_worker.specs.declared.stage.Stage.TheVariants.{Accesses}
use Rattle.gc_worker.specs.Workers.Held.{Held, at_stage}
use Rattle.gc_worker.proofs.Stages.Access.NextAccessStage.{own, at}
use Rattle.lone_mutator.specs.Law.{IsAlone, StepsLower}
use Rattle.lone_mutator.proofs.Stages.Access.AccessedCounts.{loads_count}
use Rattle.lone_mutator.proofs.Stages.Access.LoneHeaders.{loads_header}
use Rattle.lone_mutator.proofs.Stages.Access.LonePageLooks.{looks_at_record, looks_at_count, looks_at_field, looks_at_board}
use Rattle.lone_mutator.proofs.Stages.Access.AccessedWords.{loads_field, stores_field, loads_for_cas, exchanges_field, loads_board, stores_board, loads_for_swap, swaps_board}

module _ (c : Configuration) (p : Plain) (s : Stands c p) (x : Held) where
  by_stage : (stage : AccessStage) → IsAlone c (at c p s 0 x stage) → StepsLower c (at c p s 0 x stage)
  by_stage (LooksAtRecord r) a = looks_at_record c p s x r a
  by_stage (LoadsHeader r) a = loads_header c p s x r a
  by_stage (LooksAtCount m) a = looks_at_count c p s x m a
  by_stage (LoadsCount m) a = loads_count c p s x m a
  by_stage (LooksAtField f usage) a = looks_at_field c p s x f usage a
  by_stage (LoadsField f into) a = loads_field c p s x f into a
  by_stage (StoresField f new) a = stores_field c p s x f new a
  by_stage (LoadsForCas f e) a = loads_for_cas c p s x f e a
  by_stage (ExchangesField f e old) a = exchanges_field c p s x f e old a
  by_stage (LooksAtBoard b) a = looks_at_board c p s x b.word b.usage a
  by_stage (LoadsBoard word into) a = loads_board c p s x word into a
  by_stage (StoresBoard word new) a = stores_board c p s x word new a
  by_stage (LoadsForSwap b) a = loads_for_swap c p s x b a
  by_stage (SwapsBoard b old) a = swaps_board c p s x b old a

  pub accesses : (a : Access) → IsAlone c (at_stage x (Accesses a)) → StepsLower c (at_stage x (Accesses a))
  accesses a alone =
      let same : a ≡ own c p s 0 x a.stage = (λ i. record { spaces = alone.is.fits.stage.layout i; epoch = alone.is.fits.stage.epoch i; stage = a.stage }) in
      subst (λ (z : Access). StepsLower c (at_stage x (Accesses z))) (sym same) (by_stage a.stage (subst (λ (z : Access). IsAlone c (at_stage x (Accesses z))) same alone))
