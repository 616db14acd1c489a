-- A scan goes on: what the worker then knows of it, and that it fits.
use Rattle.std.proofs.Common.{◌*◌, ◌≡◌, ℕ, ◌<◌, false, is_some, refl, nat_lt}
use Rattle.space_map.specs.Spaces.{past_heaps}
use Rattle.page_slots.specs.Open as open_page
use Rattle.page_scan.specs.Scanning.{Scanning, HasStep}
use Rattle.page_scan.specs.Soundness as scan_sound
use Rattle.page_scan.specs.Taken.{told}
use Rattle.page_scan.specs.declared.ending.Ending.{Ending}
use Rattle.page_scan.specs.declared.scan_stage.ScanStage.{ScanStage}
use Rattle.page_scan.specs.declared.scan_stage.ScanStage.TheVariants as scan_stage
use Rattle.gc_worker.specs.declared.stage.back.Back.{Back}
use Rattle.gc_worker.specs.declared.stage.back.Back.TheVariants.{ToPlace, ToSnap}
use Rattle.gc_worker.specs.declared.stage.Stage.{Stage}
use Rattle.gc_worker.specs.declared.stage.Stage.TheVariants.{Scans, Opens}
use Rattle.gc_worker.specs.Workers.Fits.{Fits, FitsScan, FitsBack, FitsTaskBack, IsOnSideBack}
use Rattle.gc_worker.specs.Workers.Held.{Held, at_stage}
use Rattle.gc_worker.specs.Steps.Turned.{turned_scan}
use Rattle.gc_worker.proofs.Workers.KeptParts.{refit, page_count}

-- where it goes back to stays
pub still_back : (x : Held) (next : Stage) (back : Back) → FitsBack x back → FitsBack (at_stage x next) back
still_back x next ToPlace own = tt
still_back x next ToSnap own = tt
still_back x next _ own = own

module _ (x : Held) (v : Scanning) (back : Back) where
  -- the worker whose scan comes to a stage
  abbrev pub scans_to : ScanStage → Held
  scans_to stage = turned_scan x (record v { stage = stage }) back (told stage)

  abbrev pub at_scan : ScanStage → Scanning
  at_scan stage = record v { stage = stage }

  module _ (n mutators k : ℕ) (f : Fits n mutators k x) (unended : is_some x.account.end ≡ false) (fits : FitsScan x v) (own : FitsBack x back)
      (side : IsOnSideBack back (nat_lt x.number x.mutators)) (task : FitsTaskBack x back) where
    -- it fits where the scan's stage is sound
    sound_at : (next : Stage) (stage : ScanStage) → scan_sound.FitsStage v.layout.pages v.page stage → FitsScan (at_stage x next) (at_scan stage)
    sound_at next stage sound = record { layout = fits.layout; epoch = fits.epoch; sound = record { pages = fits.sound.pages; page = fits.sound.page; fits = sound } }

    pub going_fits : (stage : ScanStage) → HasStep stage → scan_sound.FitsStage v.layout.pages v.page stage → Fits n mutators k (at_stage x (Scans (at_scan stage) back))
    going_fits stage going sound = refit n mutators k x f (Scans (at_scan stage) back) unended side task (sound_at (Scans (at_scan stage) back) stage sound, going, still_back x (Scans (at_scan stage) back) back own)

    abbrev opening : Ending → Stage
    opening e = Opens (open_page.begun x.layout v.page x.epoch) (at_scan (scan_stage.Ended e)) back

    pub ended_fits : (e : Ending) → e.cursor < 2 * past_heaps → Fits n mutators k (scans_to (scan_stage.Ended e))
    ended_fits e below = refit n mutators k x f (opening e) unended side task
        (record { layout = refl; epoch = refl; page = refl; going = tt; sound = record { pages = page_count n mutators k x f; page = rw (← fits.layout) fits.sound.page; epoch = f.epoch } }, sound_at (opening e) (scan_stage.Ended e) below, tt, still_back x (opening e) back own)
