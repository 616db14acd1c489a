-- The pointer to a copy is stored in the word that led to the old record, and the word is passed.
use Rattle.std.proofs.Common.{◌≡◌, ℕ, ◌<◌, ◌^◌, Some, refl, ap, ◌∙◌, subst, arith}
use Rattle.plain_state.specs.State.{Plain}
use Rattle.atom_store.specs.declared.step.Step.TheVariants.{Store}
use Rattle.atom_store.specs.declared.reply.Reply.TheVariants.{Done}
use Rattle.heap_words.specs.Word.{pointer_word}
use Rattle.heap_words.proofs.Decoding.{decode-pointer_word}
use Rattle.space_map.specs.Table.{HeapWord, place_of}
use Rattle.page_scan.specs.Scanning.{Scanning, address_of}
use Rattle.page_scan.specs.Soundness as scan_sound
use Rattle.page_scan.specs.Taken.{passes_word}
use Rattle.page_scan.specs.declared.asked.Asked.{Asked}
use Rattle.page_scan.specs.declared.scan_stage.ScanStage.TheVariants as scan_stage
use Rattle.heap_state.specs.Configuration.{Configuration, Stands, era, memory, team}
use Rattle.heap_state.specs.Memory.Entries.{Entry, WordIs}
use Rattle.heap_state.specs.Known.{Known, Scan, Quest, Scanned}
use Rattle.heap_state.proofs.Table.LaidOut.{laid_out}
use Rattle.heap_laws.specs.Scanning.Words.{scanning, past_word, HasFound}
use Rattle.heap_laws.proofs.Lifting.Configurations.{board_at}
use Rattle.heap_laws.proofs.Scanning.Fields as fields
use Rattle.heap_laws.proofs.Steps.Composing.{steps_forget}
use Rattle.gc_worker.specs.declared.stage.back.Back.{Back}
use Rattle.gc_worker.specs.declared.stage.Stage.TheVariants.{Scans}
use Rattle.gc_worker.specs.Steps.Goes.{Is, Goes, StepsSo}
use Rattle.gc_worker.specs.Workers.Held.{Held}
use Rattle.gc_worker.specs.Workers.Knows.{knows, scan_at}
use Rattle.gc_worker.proofs.Stages.Gate.GateWords.{wants}
use Rattle.gc_worker.proofs.Stages.Scan.ScanKnowledge.{scans_to}
use Rattle.gc_worker.proofs.Stages.Scan.Spots.{at_field, passes_less, passes_sound, passes_fits}
use Rattle.gc_worker.proofs.Words.RowSteps.{Law, quiet, stores, row_fits, prepared}

module _ (c : Configuration) (p : Plain) (s : Stands c p) (k : ℕ) (y : Held) (u : Scanning) (asked : Asked) (to : ℕ) (back : Back) where
  abbrev v : Scanning
  v = record u { stage = scan_stage.StoresCopy asked to }

  abbrev x : Held
  x = record y { stage = Scans v back }

  abbrev now : Scan
  now = scan_at v asked.spot

  abbrev quest : Quest
  quest = record { old = asked.old; origin = Scanned (address_of asked.spot); found = Some to }

  abbrev entry : Entry
  entry = WordIs (address_of asked.spot) (pointer_word to)

  module _ (is : Is c k x) where
    on : scan_sound.IsOnPage c.pages u.page asked.spot
    on = let f = is.fits.stage.0.sound.fits in subst (λ n. scan_sound.IsOnPage n u.page asked.spot) (ap (λ l. l.pages) is.fits.stage.0.layout ∙ is.fits.pages) f

    asks : ((team c).worker k).quest ≡ Some quest
    asks = ap (λ (w : Known). w.quest) is.as_known

    found : HasFound (era c) (team c) k now quest to
    found = record { scans = ap (λ (w : Known). w.scan) is.as_known; quest = asks; origin = refl; found = refl; at = at_field y v back (era c) c.pages (board_at c) asked.spot on }

    -- the copy lies in the space, so that its address fits a pointer
    short : to < 2 ^ 32
    short =
        let q = (s.invariant.workers k is.below).quest quest asks in
        let t = s.invariant.copied.target quest.old to q.old.0 (q.found to refl).0 in
        let o = s.invariant.laid.order in
        let l = laid_out c.pages c.words s.formed in
        let b = board_at c in
        let n = is.fits.counted.1 in
        omega (arith, t.3, o, l.below, b, n)

    law : Law c p s k x (Some entry) (knows (scans_to x v back (passes_word u.page u.in_place asked.spot))) s.ghost
    law = steps_forget (era c) (memory c) (team c) s.ghost k (Some entry) (scanning (knows x) (past_word (era c) now)) (knows (scans_to x v back (passes_word u.page u.in_place asked.spot))) s.ghost
        stored (passes_less y v back (era c) c.pages (board_at c) asked.spot on)
      where
        stored : Law c p s k x (Some entry) (scanning (knows x) (past_word (era c) now)) s.ghost
        stored = rw is.as_known at (fields.stores (era c) (memory c) (team c) s.ghost k now quest to (pointer_word to) (prepared c p s k x is) found (ap (λ (w : Known). w.linking) is.as_known) (decode-pointer_word to short))

    goes : Goes c p s k (Some entry) x Done
    goes = quiet c p s k x (Some entry) Done s.ghost is.below law refl
        (record { pages = is.fits.stage.0.sound.pages; page = is.fits.stage.0.sound.page; fits = passes_sound y v back asked.spot is.fits.stage.0.sound.pages is.fits.stage.0.sound.fits })
        (passes_fits y v back c.pages c.mutators k is.fits is.fits.end is.fits.stage.0 is.fits.stage.2 is.fits.side is.fits.task asked.spot is.fits.stage.0.sound.fits) tt

    pub stores_copy : StepsSo c p s k x
    stores_copy =
        wants c p s k x (Store (place_of c.pages (HeapWord (address_of asked.spot))) (pointer_word to)) (rw (is.fits.stage.0.layout, is.fits.pages) refl)
        (stores c p s k x entry (row_fits c p s k x entry (knows (scans_to x v back (passes_word u.page u.in_place asked.spot))) s.ghost is.below law) goes)
