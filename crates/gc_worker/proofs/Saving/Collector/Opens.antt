-- The opening of a scanned page keeps what is kept of checkpoints.
use Rattle.std.proofs.Common.{◌≡◌, ℕ, Some, refl, ap, ◌∙◌, arith}
use Rattle.plain_state.specs.State.{Plain}
use Rattle.atom_store.specs.declared.step.Step.TheVariants.{Store}
use Rattle.space_map.specs.declared.page_word.PageWord.TheVariants.{Open}
use Rattle.space_map.specs.PageWord.{encode_page}
use Rattle.space_map.specs.Spaces.{Layout}
use Rattle.space_map.specs.Table.{Page, place_of}
use Rattle.page_scan.specs.Scanning.{Scanning}
use Rattle.page_slots.specs.declared.open_stage.OpenStage.{OpenStage}
use Rattle.page_slots.specs.declared.open_stage.OpenStage.TheVariants.{StoresOpen, Ended}
use Rattle.page_slots.specs.Open.{Opening}
use Rattle.page_slots.specs.Open as open_page
use Rattle.heap_state.specs.Configuration.{Configuration, table, team}
use Rattle.heap_state.specs.Memory.Entries.{EntryFits, PageIs}
use Rattle.heap_state.specs.Saving.Frozen.{Frozen}
use Rattle.heap_state.specs.Saving.Savers.{Saver}
use Rattle.heap_state.specs.Known.{Known}
use Rattle.heap_laws.specs.Saving.Rows.{Spares}
use Rattle.heap_laws.proofs.Saving.Sparing.{scanned_pages_are_spared}
use Rattle.gc_worker.specs.declared.stage.back.Back.{Back}
use Rattle.gc_worker.specs.declared.stage.Stage.TheVariants.{Opens}
use Rattle.gc_worker.specs.Workers.Held.{Held, at_stage}
use Rattle.gc_worker.specs.Workers.Knows.{scan_of}
use Rattle.gc_worker.proofs.Saving.Frame.Forgetting.{IsForgetful, SavesSo}
use Rattle.gc_worker.proofs.Saving.Frame.Forgetting as by_row
use Rattle.gc_worker.proofs.Saving.Frame.Rounding.{opening_less}
use Rattle.gc_worker.proofs.Saving.Frame.Step.{Before, prepared, saves}
use Rattle.gc_worker.proofs.Stages.OpenedPage.{has_ended, of_page}

module _ (c : Configuration) (p : Plain) (z : Frozen) (saver : ℕ → Saver) (k : ℕ) (y : Held) (o : Opening) (s : Scanning) (back : Back) where
  abbrev here : OpenStage → Held
  here stage = at_stage y (Opens (record o { stage = stage }) s back)

  module _ (stage : OpenStage) (b : Before c p z saver k (here stage)) where
    abbrev x : Held
    x = here stage

    forgets : IsForgetful x
    forgets = record {
      less = λ reply. let q : Opening = open_page.taken (record o { stage = stage }) reply in opening_less x b.room back q s (open_page.told q);
      quiet = λ reply. tt;
    }

    pages : o.layout.pages ≡ c.pages
    pages = ap (λ (l : Layout). l.pages) b.is.fits.stage.0.layout ∙ b.is.fits.pages

    fits : EntryFits c.pages (PageIs o.page (Open o.epoch))
    fits = let n = pages in let page = b.is.fits.stage.0.sound.page in (omega (arith, n, page), b.is.fits.stage.0.sound.epoch)

    spared : Spares (table c) (saves c) z (team c).count saver (Some (PageIs o.page (Open o.epoch)))
    spared =
        let law = scanned_pages_are_spared (table c) (saves c) z (team c) b.stands.ghost saver k (scan_of s s.stage) b.saving (prepared c p z saver k x b)
        (record { scans = ap (λ (w : Known). w.scan) b.is.as_known; ended = has_ended s s.stage b.is.fits.stage.2 }) in
        rw (b.is.fits.stage.0.page, b.is.fits.stage.0.epoch) (rw (of_page s s.stage, b.is.as_known) at law)

    stores : stage ≡ StoresOpen → SavesSo c p saver k x
    stores is = by_row.stores c p z saver k x b forgets (PageIs o.page (Open o.epoch)) fits spared
        (ap (λ (t : OpenStage). open_page.wanted_at o t) is ∙ ap (λ (n : ℕ). Some (Store (place_of n (Page o.page)) (encode_page (Open o.epoch)))) pages)

  by_stage : (stage : OpenStage) → Before c p z saver k (here stage) → SavesSo c p saver k (here stage)
  by_stage StoresOpen b = stores StoresOpen b refl
  by_stage (Ended opened) b = by_row.nothing c p z saver k (here (Ended opened)) b (forgets (Ended opened) b) refl

pub opens : (c : Configuration) (p : Plain) (z : Frozen) (saver : ℕ → Saver) (k : ℕ) (x : Held) (o : Opening) (s : Scanning) (back : Back)
    → Before c p z saver k (at_stage x (Opens o s back)) → SavesSo c p saver k (at_stage x (Opens o s back))
opens c p z saver k x o s back b = by_stage c p z saver k x o s back o.stage b
