-- A copy, at each of its stages.
use Rattle.std.proofs.Common.{ℕ, sym, ◌∙◌}
use Rattle.plain_state.specs.State.{Plain}
use Rattle.forwarding.specs.declared.evac_stage.EvacStage.{EvacStage}
use Rattle.forwarding.specs.declared.evac_stage.EvacStage.TheVariants.{LoadsHeader, TakesHeader, LoadsArea, Announces, Reserves, StoresHeader, LoadsWord, StoresWord, StoresCross, StoresForward, LoadsWeak, StoresLink, TakesWeak, Clears, Ended}
use Rattle.forwarding.specs.Evacuation.{Evacuation}
use Rattle.page_scan.specs.Scanning.{Scanning}
use Rattle.heap_state.specs.Configuration.{Configuration, Stands}
use Rattle.gc_worker.specs.declared.stage.back.Back.{Back}
use Rattle.gc_worker.specs.declared.stage.forwarding_register.ForwardingRegister.{ForwardingRegister}
use Rattle.gc_worker.specs.declared.stage.Stage.TheVariants.{Forwards, Evacuates}
use Rattle.gc_worker.specs.Steps.Goes.{Is, StepsSo}
use Rattle.gc_worker.specs.Workers.Held.{Held, at_stage}
use Rattle.gc_worker.proofs.Stages.Copies.Hosts.{Host, ForScan, ForRegister, at, wants_its}
use Rattle.gc_worker.proofs.Stages.Copies.Finding.{scan_loads_header, scan_clears}
use Rattle.gc_worker.proofs.Stages.Copies.Linking.{loads_weak, stores_link, takes_weak}
use Rattle.gc_worker.proofs.Stages.Copies.Placing.{announces, loads_area, reserves}
use Rattle.gc_worker.proofs.Stages.Copies.Publishing.{stores_forward, takes_header}
use Rattle.gc_worker.proofs.Stages.Copies.Registers.{register_loads_header, register_clears}
use Rattle.gc_worker.proofs.Stages.Copies.CopiedWords.{loads_word, stores_header, stores_word, stores_cross}

module _ (c : Configuration) (p : Plain) (s : Stands c p) (k : ℕ) (y : Held) (v : Evacuation) where
  -- the two stages at which a copy may be found
  pub record Ends (o : Host) : Type 0 where
    pub loads_header : Is c k (at y o v LoadsHeader) → StepsSo c p s k (at y o v LoadsHeader)
    pub clears : (to : ℕ) → Is c k (at y o v (Clears to)) → StepsSo c p s k (at y o v (Clears to))

  pub copies : (o : Host) → Ends o → (z : EvacStage) → Is c k (at y o v z) → StepsSo c p s k (at y o v z)
  copies o ends LoadsHeader is = ends.loads_header is
  copies o ends (TakesHeader kept) is = takes_header c p s k y o v kept is
  copies o ends (LoadsArea kept) is = loads_area c p s k y o v kept is
  copies o ends (Announces kept area) is = announces c p s k y o v kept area is
  copies o ends (Reserves kept area) is = reserves c p s k y o v kept area is
  copies o ends (StoresHeader r) is = stores_header c p s k y o v r is
  copies o ends (LoadsWord r i) is = loads_word c p s k y o v r i is
  copies o ends (StoresWord r w) is = stores_word c p s k y o v r w is
  copies o ends (StoresCross r page) is = stores_cross c p s k y o v r page is
  copies o ends (StoresForward r) is = stores_forward c p s k y o v r is
  copies o ends (LoadsWeak to) is = loads_weak c p s k y o v to is
  copies o ends (StoresLink to head) is = stores_link c p s k y o v to head is
  copies o ends (TakesWeak to head) is = takes_weak c p s k y o v to head is
  copies o ends (Clears to) is = ends.clears to is
  copies o ends (Ended to) is = λ q asked. absurd (let e = sym (wants_its y v o (Ended to)) ∙ asked in cc)

  -- for a word that is scanned
  pub evacuates : (scan : Scanning) (back : Back) → Is c k (at_stage y (Evacuates v scan back)) → StepsSo c p s k (at_stage y (Evacuates v scan back))
  evacuates scan back is =
      copies (ForScan scan back) (record { loads_header = scan_loads_header c p s k y v scan back; clears = scan_clears c p s k y v scan back }) v.stage is

-- for a register that a late mutator forwards
pub forwards : (c : Configuration) (p : Plain) (s : Stands c p) (k : ℕ) (y : Held) (w : ForwardingRegister) → Is c k (at_stage y (Forwards w)) → StepsSo c p s k (at_stage y (Forwards w))
forwards c p s k y w is =
    copies c p s k y w.evac (ForRegister w.register w.after)
    (record { loads_header = register_loads_header c p s k y w.evac w.register w.after; clears = register_clears c p s k y w.evac w.register w.after }) w.evac.stage is
