-- All stages of an access.
use Rattle.std.proofs.Common.{◌≡◌, ℕ, ◌≤◌, true, Some, is_some, sym, ap, subst}
use Rattle.plain_state.specs.State.{Plain}
use Rattle.plain_state.specs.declared.value.Value.TheVariants.{Reference}
use Rattle.plain_heap.specs.declared.action.Action.{Action}
use Rattle.plain_heap.specs.declared.action.Action.TheVariants.{Measures, Loads, Stores, Compares}
use Rattle.heap_words.specs.Decoded.{Decoded, decode, number_in}
use Rattle.heap_state.specs.Configuration.{Configuration, Stands, era, memory}
use Rattle.record_access.specs.declared.access.Access.{Access}
use Rattle.record_access.specs.declared.access_stage.AccessStage.{AccessStage}
use Rattle.record_access.specs.declared.access_stage.AccessStage.TheVariants.{LooksAtRecord, LoadsHeader, LooksAtCount, LoadsCount, LooksAtField, LoadsField, StoresField, LoadsForCas, ExchangesField, LooksAtBoard, LoadsBoard, StoresBoard, LoadsForSwap, SwapsBoard}
use Rattle.record_access.specs.declared.mixed_access.MixedAccess.{MixedAccess}
use Rattle.record_access.specs.declared.record_access.RecordAccess.{RecordAccess}
use Rattle.gc_worker.specs.declared.stage.Stage.TheVariants.{Accesses}
use Rattle.record_access.specs.Access.{count_at, is_header}
use Rattle.gc_worker.specs.Steps.Access.{begun}
use Rattle.gc_worker.specs.Workers.Fits.{ExecutesAction}
use Rattle.gc_worker.specs.Steps.Goes.{Is, StepsSo}
use Rattle.gc_worker.specs.Workers.Held.{Held, at_stage}
use Rattle.gc_worker.proofs.Stages.Access.Acting.{led, names, Held_value}
use Rattle.gc_worker.proofs.Stages.Access.Board.{loads_board, stores_board, loads_for_swap, swaps_board}
use Rattle.gc_worker.proofs.Stages.Access.MixedCounts.{loads_count, says}
use Rattle.gc_worker.proofs.Stages.Access.ComparedExchanges.{loads_for_cas, exchanges_field}
use Rattle.gc_worker.proofs.Stages.Access.Fields.{loads_field, stores_field}
use Rattle.gc_worker.proofs.Stages.Access.NextAccessStage.{own, at}
use Rattle.gc_worker.proofs.Stages.Access.AccessedHeaders.{loads_header}
use Rattle.gc_worker.proofs.Stages.Access.PageLooks.{looks_at_record, looks_at_count, looks_at_field, looks_at_board}

module _ (c : Configuration) (p : Plain) (s : Stands c p) (k : ℕ) (x : Held) where
  -- ---- the record that the action names

  module _ (stage : AccessStage) (r : RecordAccess) (is : Is c k (at c p s k x stage)) where
    abbrev Holds_it : ℕ → Type 0
    Holds_it a = Held_value c p s k x stage is (Reference (record { mutator = 0; serial = a }))

    at_address : (u : RecordAccess) → Some (LooksAtRecord u) ≡ Some (LooksAtRecord r) → Holds_it u.at → Holds_it r.at
    at_address u e holds = let same : u.at ≡ r.at = cc in subst Holds_it same holds

    named_by : (act : Action) → ExecutesAction x.account x.registers x.task act → begun act ≡ Some (LooksAtRecord r) → Holds_it r.at
    named_by (Measures d j) executes e = at_address _ e (names c p s k x stage is (Measures d j) executes)
    named_by (Loads d j y) executes e = at_address _ e (names c p s k x stage is (Loads d j y) executes)
    named_by (Stores j y v) executes e = at_address _ e (names c p s k x stage is (Stores j y v) executes).0
    named_by (Compares d j y u v) executes e = at_address _ e (names c p s k x stage is (Compares d j y u v) executes).0
    named_by _ executes e = absurd (cc)

  low : (r : RecordAccess) → Is c k (at c p s k x (LooksAtRecord r)) → (era c).start ≤ r.at
  low r is = (led c p s k x (LooksAtRecord r) is r.at is.fits.stage.sound.stage.0 (named_by (LooksAtRecord r) r is is.fits.task.act is.fits.task.executes is.fits.task.is)).inside.0

  -- where it loads the header, there is one
  pub header_there : (r : RecordAccess) → Is c k (at c p s k x (LoadsHeader r)) → is_header (decode ((memory c).heap r.at)) ≡ true
  header_there r is =
      ap is_header (led c p s k x (LoadsHeader r) is r.at is.fits.stage.sound.stage.0 (named_by (LoadsHeader r) r is is.fits.task.act is.fits.task.executes is.fits.task.is)).header

  -- and where it loads a count, a number
  pub number_there : (m : MixedAccess) (is : Is c k (at c p s k x (LoadsCount m))) → is_some (number_in (decode ((memory c).heap (count_at m)))) ≡ true
  number_there m is = ap (λ (d : Decoded). is_some (number_in d)) (says c p s k x m is).says

  -- ---- the stages

  by_stage : (stage : AccessStage) → Is c k (at c p s k x stage) → StepsSo c p s k (at c p s k x stage)
  by_stage (LooksAtRecord r) is = looks_at_record c p s k x r is (low r is)
  by_stage (LoadsHeader r) is = loads_header c p s k x r is
  by_stage (LooksAtCount m) is = looks_at_count c p s k x m is
  by_stage (LoadsCount m) is = loads_count c p s k x m is
  by_stage (LooksAtField f usage) is = looks_at_field c p s k x f usage is
  by_stage (LoadsField f into) is = loads_field c p s k x f into is
  by_stage (StoresField f new) is = stores_field c p s k x f new is
  by_stage (LoadsForCas f e) is = loads_for_cas c p s k x f e is
  by_stage (ExchangesField f e old) is = exchanges_field c p s k x f e old is
  by_stage (LooksAtBoard b) is = looks_at_board c p s k x b.word b.usage is
  by_stage (LoadsBoard word into) is = loads_board c p s k x word into is
  by_stage (StoresBoard word new) is = stores_board c p s k x word new is
  by_stage (LoadsForSwap b) is = loads_for_swap c p s k x b is
  by_stage (SwapsBoard b old) is = swaps_board c p s k x b old is

  pub accesses : (a : Access) → Is c k (at_stage x (Accesses a)) → StepsSo c p s k (at_stage x (Accesses a))
  accesses a is =
      let same : a ≡ own c p s k x a.stage = (λ i. record { spaces = is.fits.stage.layout i; epoch = is.fits.stage.epoch i; stage = a.stage }) in
      subst (λ (z : Access). StepsSo c p s k (at_stage x (Accesses z))) (sym same)
      (by_stage a.stage (subst (λ (z : Access). Is c k (at_stage x (Accesses z))) same is))
