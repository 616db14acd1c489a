-- The scan of a page keeps what is kept of checkpoints: while a page is scanned none is in progress.
use Rattle.std.proofs.Common.{◌≡◌, ℕ, ◌+◌, Some, refl, ap, ◌∙◌, arith}
use Rattle.plain_state.specs.State.{Plain}
use Rattle.atom_store.specs.declared.step.Step.TheVariants.{Load, Store}
use Rattle.heap_words.specs.Word.{pointer_word}
use Rattle.space_map.specs.Spaces.{Layout}
use Rattle.space_map.specs.Table.{HeapWord, IsRow, place_of}
use Rattle.page_scan.specs.declared.scan_stage.ScanStage.{ScanStage}
use Rattle.page_scan.specs.declared.scan_stage.ScanStage.TheVariants.{Asks, StoresCopy, Ended}
use Rattle.page_scan.specs.declared.spot.Spot.{Spot}
use Rattle.page_scan.specs.declared.spot.Spot.TheVariants.{OnBoard, InRecord}
use Rattle.page_scan.specs.Scanning.{Scanning, address_of}
use Rattle.page_scan.specs.Soundness.{IsOnPage}
use Rattle.page_scan.specs.Taken as scan_taken
use Rattle.heap_state.specs.Configuration.{Configuration, table, team}
use Rattle.heap_state.specs.Memory.Entries.{WordIs}
use Rattle.heap_state.specs.Saving.Frozen.{Frozen}
use Rattle.heap_state.specs.Saving.Savers.{Saver}
use Rattle.heap_state.specs.Known.{Known}
use Rattle.heap_laws.specs.Saving.Rows.{Spares}
use Rattle.heap_laws.specs.Saving.Sparing.{ScansPage}
use Rattle.heap_laws.proofs.Saving.Sparing.{traced_words_are_spared}
use Rattle.gc_worker.specs.declared.stage.back.Back.{Back}
use Rattle.gc_worker.specs.declared.stage.Stage.TheVariants.{Scans}
use Rattle.gc_worker.specs.Steps.Wanted.{wanted}
use Rattle.gc_worker.specs.Workers.Held.{Held, at_stage}
use Rattle.gc_worker.specs.Workers.Knows.{scan_of}
use Rattle.gc_worker.proofs.Saving.Frame.Forgetting.{IsForgetful, SavesSo}
use Rattle.gc_worker.proofs.Saving.Frame.Forgetting as by_row
use Rattle.gc_worker.proofs.Saving.Frame.Rounding.{scan_less}
use Rattle.gc_worker.proofs.Saving.Frame.Step.{Before, prepared, saves}

-- the words of a page are words of the heap
on_row : (n page : ℕ) (spot : Spot) → IsOnPage n page spot → IsRow n (HeapWord (address_of spot))
on_row n page (OnBoard a) on = omega (arith, on)
on_row n page (InRecord r a) on = omega (arith, on)

module _ (c : Configuration) (p : Plain) (z : Frozen) (saver : ℕ → Saver) (k : ℕ) (y : Held) (u : Scanning) (back : Back) where
  abbrev here : ScanStage → Held
  here stage = at_stage y (Scans (record u { stage = stage }) back)

  module _ (stage : ScanStage) (b : Before c p z saver k (here stage)) where
    abbrev x : Held
    x = here stage

    abbrev Owes : Type 0
    Owes = SavesSo c p saver k x

    pages : u.layout.pages ≡ c.pages
    pages = ap (λ (l : Layout). l.pages) b.is.fits.stage.0.layout ∙ b.is.fits.pages

    forgets : IsForgetful x
    forgets = record {
      less = λ reply. let s : Scanning = scan_taken.taken (record u { stage = stage }) reply in scan_less x b.room back s (scan_taken.told s.stage);
      quiet = λ reply. tt;
    }

    loads : (at : ℕ) → wanted x ≡ Some (Load at) → Owes
    loads at next = by_row.loads c p z saver k x b forgets at next

    spared : (addr word : ℕ) → Spares (table c) (saves c) z (team c).count saver (Some (WordIs addr word))
    spared addr word =
        traced_words_are_spared (table c) (saves c) z (team c) b.stands.ghost saver k addr word b.saving (prepared c p z saver k x b)
        (ScansPage (scan_of (record u { stage = stage }) stage) (ap (λ (w : Known). w.scan) b.is.as_known))

    stores : (addr word : ℕ) → IsRow u.layout.pages (HeapWord addr) → wanted x ≡ Some (Store (place_of u.layout.pages (HeapWord addr)) word) → Owes
    stores addr word inside next =
        by_row.stores c p z saver k x b forgets (WordIs addr word) (let n = pages in omega (arith, n, inside)) (spared addr word)
        (next ∙ ap (λ (n : ℕ). Some (Store (place_of n (HeapWord addr)) word)) pages)

  by_stage : (stage : ScanStage) (b : Before c p z saver k (here stage)) → Owes stage b
  by_stage (Asks asked) b = by_row.nothing c p z saver k (here (Asks asked)) b (forgets (Asks asked) b) refl
  by_stage (StoresCopy asked to) b =
      stores (StoresCopy asked to) b (address_of asked.spot) (pointer_word to) (on_row u.layout.pages u.page asked.spot b.is.fits.stage.0.sound.fits) refl
  by_stage (Ended ending) b = by_row.nothing c p z saver k (here (Ended ending)) b (forgets (Ended ending) b) refl
  by_stage stage b = loads stage b _ refl

pub scans : (c : Configuration) (p : Plain) (z : Frozen) (saver : ℕ → Saver) (k : ℕ) (x : Held) (s : Scanning) (back : Back)
    → Before c p z saver k (at_stage x (Scans s back)) → SavesSo c p saver k (at_stage x (Scans s back))
scans c p z saver k x s back b = by_stage c p z saver k x s back s.stage b
