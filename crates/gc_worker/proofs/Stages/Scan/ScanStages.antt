-- The scan of a page, at each of its stages.
use Rattle.std.proofs.Common.{ℕ}
use Rattle.plain_state.specs.State.{Plain}
use Rattle.page_scan.specs.Scanning.{Scanning}
use Rattle.page_scan.specs.declared.scan_stage.ScanStage.{ScanStage}
use Rattle.page_scan.specs.declared.scan_stage.ScanStage.TheVariants as scan_stage
use Rattle.heap_state.specs.Configuration.{Configuration, Stands}
use Rattle.gc_worker.specs.declared.stage.back.Back.{Back}
use Rattle.gc_worker.specs.declared.stage.Stage.TheVariants.{Scans}
use Rattle.gc_worker.specs.Steps.Goes.{Is, StepsSo}
use Rattle.gc_worker.specs.Workers.Held.{Held, at_stage}
use Rattle.gc_worker.proofs.Stages.Scan.ScannedCounts.{reads_count}
use Rattle.gc_worker.proofs.Stages.Scan.Crossing.{crosses}
use Rattle.gc_worker.proofs.Stages.Scan.Front.{reads}
use Rattle.gc_worker.proofs.Stages.Scan.ScannedHeaders.{reads_first, reads_next}
use Rattle.gc_worker.proofs.Stages.Scan.Stored.{stores_copy}
use Rattle.gc_worker.proofs.Stages.Scan.ScannedWords.{reads_word}

module _ (c : Configuration) (p : Plain) (s : Stands c p) (k : ℕ) (x : Held) (z : Scanning) (back : Back) where
  at : (stage : ScanStage) → Is c k (at_stage x (Scans (record z { stage = stage }) back)) → StepsSo c p s k (at_stage x (Scans (record z { stage = stage }) back))
  at scan_stage.LoadsCross is = crosses c p s k x z back is
  at (scan_stage.LoadsFirst a) is = reads_first c p s k x z back a is
  at (scan_stage.LoadsCount h) is = reads_count c p s k x z back h is
  at (scan_stage.LoadsWord spot) is = reads_word c p s k x z spot back is
  at (scan_stage.Asks asked) is = absurd is.fits.stage.1
  at (scan_stage.StoresCopy asked to) is = stores_copy c p s k x z asked to back is
  at (scan_stage.LoadsFront r) is = reads c p s k x z r back is
  at (scan_stage.LoadsNext r) is = reads_next c p s k x z back r is
  at (scan_stage.Ended ending) is = absurd is.fits.stage.1

  pub scans : Is c k (at_stage x (Scans z back)) → StepsSo c p s k (at_stage x (Scans z back))
  scans is = at z.stage is
