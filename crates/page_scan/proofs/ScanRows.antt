-- A scan that has a step wants one on a row of the table, and writes words of the heap alone.
use Rattle.std.proofs.Common.{ℕ, ◌+◌, ◌*◌, ◌≤◌, arith}
use Rattle.atom_store.specs.StepOn.{IsOn, WritesOnly}
use Rattle.space_map.specs.Table.{Row, HeapWord, IsRow}
use Rattle.page_scan.specs.declared.scan_stage.ScanStage.{ScanStage}
use Rattle.page_scan.specs.declared.scan_stage.ScanStage.TheVariants.{LoadsCross, LoadsFirst, LoadsCount, LoadsWord, Asks, StoresCopy, LoadsFront, LoadsNext, Ended}
use Rattle.page_scan.specs.declared.spot.Spot.{Spot}
use Rattle.page_scan.specs.declared.spot.Spot.TheVariants.{OnBoard, InRecord}
use Rattle.page_scan.specs.Scanning.{HasStep, address_of, wants_at}
use Rattle.page_scan.specs.Soundness.{FitsStage, IsOnPage}

spot_in_table : (n p : ℕ) (spot : Spot) → IsOnPage n p spot → address_of spot ≤ 128 * n + 63
spot_in_table n p (OnBoard x) fits = omega (arith, fits)
spot_in_table n p (InRecord r x) fits = let page = fits.1 in let before = fits.3 in omega (arith, page, before)

pub rows_fit : (n p e : ℕ) (stage : ScanStage) → FitsStage n p stage → HasStep stage → IsOn (IsRow n) (wants_at p e stage)
rows_fit n p e LoadsCross fits has = fits
rows_fit n p e (LoadsFirst at) fits has = let inside = fits.1 in omega (arith, inside)
rows_fit n p e (LoadsCount h) fits has = let counted = fits.counted in let inside = fits.inside in omega arith
rows_fit n p e (LoadsWord spot) fits has = spot_in_table n p spot fits
rows_fit n p e (Asks asked) fits has = has
rows_fit n p e (StoresCopy asked to) fits has = spot_in_table n p asked.spot fits
rows_fit n p e (LoadsFront r) fits has = omega arith
rows_fit n p e (LoadsNext r) fits has = let page = fits.1 in let before = fits.3 in omega (arith, page, before)
rows_fit n p e (Ended ending) fits has = has

pub writes : (Q : Row → Type 0) → ((addr : ℕ) → Q (HeapWord addr)) → (p e : ℕ) (stage : ScanStage) → WritesOnly Q (wants_at p e stage)
writes Q words p e (StoresCopy asked to) = words (address_of asked.spot)
writes Q words p e stage = tt
