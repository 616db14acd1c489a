-- A page is opened that was scanned: its word is stored, and the worker goes back to what it did before its round.
use Rattle.std.proofs.Common.{◌≡◌, ℕ, true, Some, refl, ap}
use Rattle.plain_state.specs.State.{Plain}
use Rattle.atom_store.specs.declared.step.Step.TheVariants.{Store}
use Rattle.atom_store.specs.declared.reply.Reply.TheVariants.{Done}
use Rattle.space_map.specs.declared.page_word.PageWord.TheVariants.{Open}
use Rattle.space_map.specs.PageWord.{encode_page}
use Rattle.space_map.specs.Table.{Page, place_of}
use Rattle.page_slots.specs.Open.{Opening}
use Rattle.page_slots.specs.declared.open_stage.OpenStage.TheVariants.{StoresOpen}
use Rattle.page_scan.specs.Scanning.{Scanning}
use Rattle.page_scan.specs.declared.scan_stage.ScanStage.{ScanStage}
use Rattle.page_scan.specs.declared.scan_stage.ScanStage.TheVariants as scan_stage
use Rattle.heap_state.specs.Configuration.{Configuration, Stands, era, memory, team}
use Rattle.heap_state.specs.Memory.Entries.{Entry, PageIs}
use Rattle.heap_state.specs.Known.{Known}
use Rattle.heap_laws.specs.Scanning.Claims.{ends_scan}
use Rattle.heap_laws.proofs.Scanning.Opened as opened
use Rattle.gc_worker.specs.declared.stage.back.Back.{Back}
use Rattle.gc_worker.specs.declared.stage.back.Back.TheVariants.{ToAccess, ToPlace}
use Rattle.gc_worker.specs.declared.stage.Stage.TheVariants.{Opens}
use Rattle.gc_worker.specs.Workers.Fits.{FitsBack, HasEnded}
use Rattle.gc_worker.specs.Steps.Goes.{Is, Goes, StepsSo}
use Rattle.gc_worker.specs.Workers.Held.{Held, header_for}
use Rattle.gc_worker.specs.Workers.Knows.{knows, scan_of}
use Rattle.gc_worker.specs.Steps.Turned.{back_from}
use Rattle.gc_worker.proofs.Workers.ResumedMutators.{places_known}
use Rattle.gc_worker.proofs.Workers.GoingBack.{back_fits}
use Rattle.gc_worker.proofs.Stages.Gate.GateWords.{wants}
use Rattle.gc_worker.proofs.Words.RowSteps.{Law, quiet, stores, row_fits, prepared}

-- a scan that has ended has nothing left to pass
pub has_ended : (s : Scanning) (stage : ScanStage) → HasEnded stage → (scan_of s stage).ended ≡ true
has_ended s (scan_stage.Ended ending) h = refl
has_ended s _ h = absurd h

-- at each stage it is of its page
pub of_page : (s : Scanning) (stage : ScanStage) → (scan_of s stage).page ≡ s.page
of_page s (scan_stage.Ended _) = refl
of_page s _ = refl

module _ (c : Configuration) (p : Plain) (s : Stands c p) (k : ℕ) (y : Held) (o : Opening) (scan : Scanning) (back : Back) where
  abbrev x : Held
  x = record y { stage = Opens (record o { stage = StoresOpen }) scan back }

  -- what the worker then knows is what it knew but for the scan
  knows_back : (b : Back) → FitsBack x b → knows (back_from x b) ≡ ends_scan (knows (record x { stage = Opens (record o { stage = StoresOpen }) scan b }))
  knows_back (ToAccess a) fits = λ i. record (ends_scan (knows (record x { stage = Opens (record o { stage = StoresOpen }) scan (ToAccess a) }))) { traced_seen = fits.2 i }
  knows_back ToPlace fits = places_known x (header_for x)
  knows_back _ fits = refl

  module _ (is : Is c k x) where
    abbrev entry : Entry
    entry = PageIs scan.page (Open x.epoch)

    as_it_was : Law c p s k x (Some (PageIs (scan_of scan scan.stage).page (Open ((team c).worker k).epoch))) (ends_scan ((team c).worker k)) s.ghost
    as_it_was = (opened.opens (era c) (memory c) (team c) s.ghost k (scan_of scan scan.stage) (prepared c p s k x is)
        (record { scans = ap (λ (w : Known). w.scan) is.as_known; ended = has_ended scan scan.stage is.fits.stage.2 })).steps

    law : Law c p s k x (Some entry) (ends_scan (knows x)) s.ghost
    law = rw (of_page scan scan.stage, is.as_known) at as_it_was

    goes : Goes c p s k (Some entry) x Done
    goes =
        let sound = is.fits.stage.0.sound in
        quiet c p s k x (Some entry) Done s.ghost is.below (rw (knows_back back is.fits.stage.3) law) refl
        (record { pages = sound.pages; page = sound.page; epoch = sound.epoch })
        (back_fits c.pages c.mutators k x is.fits is.fits.end back is.fits.stage.3 is.fits.side is.fits.task) tt

    pub opens : StepsSo c p s k x
    opens =
        let f = is.fits.stage.0 in
        wants c p s k x (Store (place_of c.pages (Page scan.page)) (encode_page (Open x.epoch))) (rw (f.layout, f.page, f.epoch, is.fits.pages) refl)
        (stores c p s k x entry (row_fits c p s k x entry (ends_scan (knows x)) s.ghost is.below law) goes)
