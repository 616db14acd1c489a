-- FRONT is loaded at the end of a record, on the page that is being filled: the scan has ended, or another record begins.
use Rattle.std.proofs.Common.{◌≡◌, ◌≢◌, ℕ, ◌+◌, ◌*◌, ◌/◌, ◌<◌, ◌==◌, Bool, true, false, Some, None, refl, sym, ap, ◌∙◌, arith, if◌then◌else◌, ⊎_elim}
use Rattle.std.proofs.lemmas.Bool.{eq-eqb, ne_eqb, cases_eq}
use Rattle.plain_state.specs.State.{Plain}
use Rattle.atom_store.specs.declared.step.Step.TheVariants.{Load}
use Rattle.atom_store.specs.declared.reply.Reply.TheVariants.{Value}
use Rattle.space_map.specs.Spaces.{space_start, to_space}
use Rattle.space_map.specs.Table.{Area, place_of}
use Rattle.space_map.specs.AreaWord.{decode_area}
use Rattle.space_map.proofs.AreaWords.{decode_area-short}
use Rattle.page_scan.specs.Scanning.{Scanning}
use Rattle.page_scan.specs.Taken.{by_area}
use Rattle.page_scan.specs.declared.scanned_record.ScannedRecord.{ScannedRecord}
use Rattle.page_scan.specs.declared.scan_stage.ScanStage.{ScanStage}
use Rattle.page_scan.specs.declared.scan_stage.ScanStage.TheVariants as scan_stage
use Rattle.page_scan.specs.Soundness as scan_sound
use Rattle.heap_state.specs.Configuration.{Configuration, Stands, era, memory, team, table}
use Rattle.heap_state.specs.Memory.Table.{table_of, word_in}
use Rattle.heap_state.specs.Known.{Known, Scan}
use Rattle.heap_state.proofs.Table.LaidOut.{table_pages}
use Rattle.heap_laws.specs.Scanning.Words.{scanning, IsScanning}
use Rattle.heap_laws.proofs.Lifting.Configurations.{board_at}
use Rattle.heap_laws.proofs.Scanning.ScannedRecords.{reads_front}
use Rattle.heap_laws.proofs.Steps.Composing.{steps_forget}
use Rattle.gc_worker.specs.declared.stage.back.Back.{Back}
use Rattle.gc_worker.specs.declared.stage.Stage.TheVariants.{Scans}
use Rattle.gc_worker.specs.Steps.Goes.{Is, Goes, StepsSo}
use Rattle.gc_worker.specs.Workers.Held.{Held}
use Rattle.gc_worker.specs.Workers.Fits.{Fits}
use Rattle.gc_worker.specs.Workers.Knows.{knows, scan_of}
use Rattle.gc_worker.proofs.Stages.Gate.GateWords.{wants}
use Rattle.heap_laws.proofs.Steps.Forgotten.{of_scan}
use Rattle.gc_worker.proofs.Stages.Scan.ScanKnowledge.{scans_to, going_fits, ended_fits}
use Rattle.gc_worker.proofs.Words.RowSteps.{Law, quiet, loads, prepared}

-- a space's area is what its word says
pub area_says : (c : Configuration) (p : Plain) → Stands c p → (space : ℕ) → space < 2 → decode_area (word_in c.pages c.words (Area space)) ≡ Some ((table c).area space)
unfolding table_of
area_says c p s space below = decode_area-short (word_in c.pages c.words (Area space)) (s.formed.rows (Area space) below)

module _ (c : Configuration) (p : Plain) (s : Stands c p) (k : ℕ) (y : Held) (v : Scanning) (r : ScannedRecord) (back : Back) where
  abbrev at_end : Scanning
  at_end = record v { stage = scan_stage.LoadsFront r }

  abbrev x : Held
  x = record y { stage = Scans at_end back }

  abbrev now : Scan
  now = scan_of at_end (scan_stage.LoadsFront r)

  -- by whether it is at FRONT
  abbrev stage_by : Bool → ScanStage
  stage_by b = if b then scan_stage.Ended (record { cursor = r.next; at_front = true }) else scan_stage.LoadsNext r

  abbrev scan_by : Bool → Scan
  scan_by b = if b then record now { ended = true } else record now { inner = true }

  module _ (is : Is c k x) where
    abbrev word : ℕ
    word = word_in c.pages c.words (Area (to_space v.epoch))

    scans : IsScanning (team c) k now
    scans = record { scans = ap (λ (w : Known). w.scan) is.as_known; asks_nothing = ap (λ (w : Known). w.quest) is.as_known }

    of_now : v.epoch ≡ (era c).epoch
    of_now = is.fits.stage.0.epoch ∙ (ap (λ (w : Known). w.epoch) (sym is.as_known) ∙ (s.invariant.workers k is.below).present now scans.scans)

    in_space : v.page < 2 * c.pages
    in_space = let f = is.fits.stage.0.sound.fits.1 in let l = is.fits.stage.0.layout in let n = is.fits.pages in rw (l, n) at f

    not_board : v.page ≡ (era c).board / 64 → ⊥
    not_board e = let b = board_at c in let i = in_space in omega (arith, b, i, e)

    front_is : space_start c.pages (to_space v.epoch) + ((table c).area (to_space v.epoch)).front ≡ (memory c).front
    front_is = let n : (table c).pages ≡ c.pages = table_pages c.pages c.words in rw (of_now, n) refl

    law_by : (b : Bool) → (r.next == (memory c).front) ≡ b → Law c p s k x None (knows (scans_to x at_end back (stage_by b))) s.ghost
    law_by b e =
        let l : Law c p s k x None (scanning (knows x) (scan_by b)) s.ghost = rw (is.as_known, e) at (reads_front (era c) (memory c) (team c) s.ghost k now (prepared c p s k x is) scans not_board) in
        forgets b l
      where
        forgets : (b : Bool) → Law c p s k x None (scanning (knows x) (scan_by b)) s.ghost → Law c p s k x None (knows (scans_to x at_end back (stage_by b))) s.ghost
        forgets true l = steps_forget (era c) (memory c) (team c) s.ghost k None (scanning (knows x) (scan_by true)) (knows (scans_to x at_end back (stage_by true))) s.ghost l
            (of_scan (scanning (knows x) (scan_by true)) (scan_of at_end (scan_stage.Ended (record { cursor = r.next; at_front = true }))) (scan_by true) refl
            (record { page = refl; cursor = refl; in_place = refl; over = λ _ e. e; headed = λ _ e. e; current = λ _ e. absurd (cc); inner = λ e. e; ended = refl }))
        forgets false l = steps_forget (era c) (memory c) (team c) s.ghost k None (scanning (knows x) (scan_by false)) (knows (scans_to x at_end back (stage_by false))) s.ghost l
            (of_scan (scanning (knows x) (scan_by false)) (scan_of at_end (scan_stage.LoadsNext r)) (scan_by false) refl
            (record { page = refl; cursor = refl; in_place = refl; over = λ _ e. e; headed = λ _ e. e; current = λ _ e. e; inner = λ _. refl; ended = refl }))

    sound_by : (b : Bool) → scan_sound.FitsStage v.layout.pages v.page (stage_by b)
    sound_by true = let f = is.fits.stage.0.sound.fits in let short = f.0.short in let inside = f.0.inside in omega (arith, short, inside)
    sound_by false = is.fits.stage.0.sound.fits

    fits_by : (b : Bool) → Fits c.pages c.mutators k (scans_to x at_end back (stage_by b))
    fits_by true = ended_fits x at_end back c.pages c.mutators k is.fits is.fits.end is.fits.stage.0 is.fits.stage.2 is.fits.side is.fits.task (record { cursor = r.next; at_front = true }) (sound_by true)
    fits_by false = going_fits x at_end back c.pages c.mutators k is.fits is.fits.end is.fits.stage.0 is.fits.stage.2 is.fits.side is.fits.task (scan_stage.LoadsNext r) tt (sound_by false)

    -- what the area makes of it
    comes_to : (b : Bool) → (r.next == (memory c).front) ≡ b → by_area v.layout v.epoch r (decode_area word) ≡ stage_by b
    comes_to b e = rw (area_says c p s (to_space v.epoch) (omega arith), is.fits.stage.0.layout, is.fits.pages, front_is) (turn b e)
      where
        turn : (b : Bool) → (r.next == (memory c).front) ≡ b → (if (memory c).front == r.next then scan_stage.Ended (record { cursor = r.next; at_front = true }) else scan_stage.LoadsNext r) ≡ stage_by b
        turn b e = ⊎_elim
            (λ (same : r.next ≡ (memory c).front). let f : b ≡ true = sym e ∙ eq-eqb r.next (memory c).front same in rw (f, eq-eqb (memory c).front r.next (sym same)) refl)
            (λ (other : r.next ≢ (memory c).front). let f : b ≡ false = sym e ∙ ne_eqb r.next (memory c).front other in rw (f, ne_eqb (memory c).front r.next (λ q. other (sym q))) refl)
            (cases_eq r.next (memory c).front)

    goes : Goes c p s k None x (Value word)
    goes =
        let b = r.next == (memory c).front in
        let after : by_area v.layout v.epoch r (decode_area word) ≡ stage_by b = comes_to b refl in
        quiet c p s k x None (Value word) s.ghost is.below (rw after (law_by b refl)) refl
        (record { pages = is.fits.stage.0.sound.pages; page = is.fits.stage.0.sound.page; fits = rw after (sound_by b) })
        (rw after (fits_by b)) tt

    pub reads : StepsSo c p s k x
    reads =
        wants c p s k x (Load (place_of c.pages (Area (to_space v.epoch)))) (rw (is.fits.stage.0.layout, is.fits.pages) refl)
        (loads c p s k x (Area (to_space v.epoch)) (omega arith) goes)
