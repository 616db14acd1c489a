-- The count of a mixed record is loaded: the scan enters the record.
use Rattle.std.proofs.Common.{◌≡◌, ℕ, ◌+◌, ◌*◌, ◌<◌, ◌≤◌, None, refl, sym, ap, ◌∙◌, arith, max}
use Rattle.std.proofs.lemmas.Bool.{le-leb}
use Rattle.plain_state.specs.State.{Plain}
use Rattle.plain_state.specs.declared.kind.Kind.TheVariants.{Mixed}
use Rattle.atom_store.specs.declared.step.Step.TheVariants.{Load}
use Rattle.atom_store.specs.declared.reply.Reply.TheVariants.{Value}
use Rattle.heap_words.specs.Decoded.{NumberWord, decode}
use Rattle.space_map.specs.Spaces.{first_word}
use Rattle.space_map.specs.Table.{HeapWord, place_of}
use Rattle.page_scan.specs.Scanning.{Scanning}
use Rattle.page_scan.specs.Soundness as scan_sound
use Rattle.page_scan.specs.declared.headed_record.HeadedRecord.{HeadedRecord}
use Rattle.page_scan.specs.declared.scan_stage.ScanStage.TheVariants as scan_stage
use Rattle.heap_state.specs.Configuration.{Configuration, Stands, era, memory, team}
use Rattle.heap_state.specs.Memory.Table.{word_in}
use Rattle.heap_state.specs.Known.{Known, Scan}
use Rattle.heap_laws.specs.Scanning.Words.{scanning, IsScanning, scan_in_record}
use Rattle.heap_laws.proofs.Scanning.ScannedRecords as records
use Rattle.heap_laws.proofs.Steps.Answers.{scans_are_answered}
use Rattle.gc_worker.specs.declared.stage.back.Back.{Back}
use Rattle.gc_worker.specs.declared.stage.Stage.TheVariants.{Scans}
use Rattle.gc_worker.specs.Steps.Goes.{Is, Goes, StepsSo}
use Rattle.gc_worker.specs.Workers.Held.{Held}
use Rattle.gc_worker.specs.Workers.Knows.{knows, scan_of, seen_header}
use Rattle.gc_worker.proofs.Stages.Gate.GateWords.{wants}
use Rattle.gc_worker.proofs.Stages.Scan.Entering.{IsEntered, entered, not_board}
use Rattle.gc_worker.proofs.Stages.Scan.ScannedHeaders.{heap_word}
use Rattle.gc_worker.proofs.Words.RowSteps.{Law, loads, prepared}

module _ (c : Configuration) (p : Plain) (s : Stands c p) (k : ℕ) (y : Held) (u : Scanning) (back : Back) (h : HeadedRecord) where
  abbrev v : Scanning
  v = record u { stage = scan_stage.LoadsCount h }

  abbrev x : Held
  x = record y { stage = Scans v back }

  abbrev now : Scan
  now = scan_of v (scan_stage.LoadsCount h)

  module _ (is : Is c k x) where
    on_page : scan_sound.IsHeadedOn c.pages u.page h
    on_page = let f = is.fits.stage.0.sound.fits in let l = is.fits.stage.0.layout in let n = is.fits.pages in rw (l, n) at f

    inside : h.at + 1 < 128 * c.pages
    inside = let i = on_page.inside in let o = on_page.counted in omega (arith, i, o)

    scans : IsScanning (team c) k now
    scans = record { scans = ap (λ (w : Known). w.scan) is.as_known; asks_nothing = ap (λ (w : Known). w.quest) is.as_known }

    -- a count stands there, for which the record has room
    pub count_there : (count : ℕ) × (decode ((memory c).heap (h.at + 1)) ≡ NumberWord count) × (count + 2 ≤ h.size)
    count_there = (scans_are_answered (era c) (memory c) (team c) s.ghost k now (prepared c p s k x is) scans).count (seen_header h) refl

    lies : (count : ℕ) → count + 2 ≤ h.size → IsEntered c.pages u.page h.at h.size (Mixed count)
    lies count room =
        let o = on_page.counted in
        let i = inside in
        record { space = on_page.low; inside = omega (arith, i); reaches = on_page.reaches; short = on_page.short; some = omega arith; fits = room; behind = omega arith; begins = omega (arith, o) }

    goes : (count : ℕ) → decode ((memory c).heap (h.at + 1)) ≡ NumberWord count → count + 2 ≤ h.size → Goes c p s k None x (Value (word_in c.pages c.words (HeapWord (h.at + 1))))
    goes count says room =
        let said : decode (word_in c.pages c.words (HeapWord (h.at + 1))) ≡ NumberWord count = ap decode (sym (heap_word c (h.at + 1))) ∙ says in
        let fits = le-leb (count + 2) h.size room in
        let l = records.reads_count (era c) (memory c) (team c) s.ghost k now (seen_header h) count (prepared c p s k x is) scans (not_board c p s k y v back h.at h.size (Mixed count) on_page.low) refl says in
        let law : Law c p s k x None (scanning (knows x) (scan_in_record (era c) now h.at (Mixed count) h.size)) s.ghost = rw is.as_known at l in
        let entry : max (h.at + 2) (first_word u.page) ≡ max (max h.at (first_word u.page)) (h.at + 2) = omega arith in
        entered c p s k y v back h.at h.size (Mixed count) is (lies count room) (word_in c.pages c.words (HeapWord (h.at + 1))) (rw entry law) (rw (said, fits) refl) (λ sound. rw (said, fits) sound) refl

    pub reads_count : StepsSo c p s k x
    reads_count =
        let t = count_there in
        wants c p s k x (Load (place_of c.pages (HeapWord (h.at + 1)))) (rw (is.fits.stage.0.layout, is.fits.pages) refl)
        (loads c p s k x (HeapWord (h.at + 1)) (let i = inside in omega (arith, i)) (goes t.0 t.1 t.2))
