-- A scan whose record's header says all, or whose count is read, enters the record; else it reads the count next.
use Rattle.std.proofs.Common.{◌≡◌, ◌≢◌, ℕ, ◌+◌, ◌*◌, ◌/◌, ◌<◌, ◌≤◌, false, None, refl, sym, arith, max}
use Rattle.plain_state.specs.State.{Plain}
use Rattle.atom_store.specs.declared.reply.Reply.TheVariants.{Value}
use Rattle.plain_state.specs.declared.kind.Kind.{Kind}
use Rattle.space_map.specs.Spaces.{first_word, board_page}
use Rattle.page_scan.specs.Scanning.{Scanning}
use Rattle.page_scan.specs.Soundness as scan_sound
use Rattle.page_scan.specs.Taken.{record_at, goes_on_at}
use Rattle.page_scan.specs.declared.headed_record.HeadedRecord.{HeadedRecord}
use Rattle.page_scan.specs.declared.scanned_record.ScannedRecord.{ScannedRecord}
use Rattle.page_scan.specs.declared.scan_stage.ScanStage.TheVariants as scan_stage
use Rattle.heap_state.specs.Configuration.{Configuration, Stands, era, memory, team}
use Rattle.heap_state.specs.Memory.FieldSpan.{first_field, fields_end, next_scanned}
use Rattle.heap_state.specs.Known.{Scan}
use Rattle.heap_laws.specs.Scanning.Words.{scanning, scan_headed}
use Rattle.heap_laws.proofs.Lifting.Configurations.{board_at}
use Rattle.heap_laws.specs.Composing.{IsAtMost}
use Rattle.heap_laws.proofs.Steps.Composing.{steps_forget}
use Rattle.heap_laws.proofs.Steps.Forgotten.{of_scan}
use Rattle.gc_worker.specs.declared.stage.back.Back.{Back}
use Rattle.gc_worker.specs.declared.stage.Stage.TheVariants.{Scans}
use Rattle.gc_worker.specs.Workers.Fits.{Fits, Takes}
use Rattle.gc_worker.specs.Steps.Goes.{Is, Goes}
use Rattle.gc_worker.specs.Workers.Held.{Held}
use Rattle.gc_worker.specs.Workers.Knows.{knows, scan_of, seen_record}
use Rattle.gc_worker.specs.Steps.Turned.{turned, told, Silent}
use Rattle.gc_worker.proofs.Stages.Scan.ScanKnowledge.{scans_to, going_fits}
use Rattle.gc_worker.proofs.Stages.Scan.Passing.{gone_to, goes_on_less, goes_on_sound, goes_on_fits}
use Rattle.gc_worker.proofs.Words.RowSteps.{Law, quiet}

-- where a record that is entered lies: not behind the words of the heap, and over the page or on it; with its fields in it
pub record IsEntered (n page a size : ℕ) (kind : Kind) : Type 0 where
  pub space : page < 2 * n
  pub inside : a < 128 * n
  pub reaches : 64 * page < a + size
  pub short : size ≤ 4096
  pub some : 0 < fields_end kind size
  pub fits : fields_end kind size ≤ size
  pub behind : 0 < first_field kind
  pub begins : first_field kind ≤ size

-- the record of this kind and size at this address, and where it is entered
module _ (c : Configuration) (p : Plain) (s : Stands c p) (k : ℕ) (y : Held) (v : Scanning) (back : Back) (a size : ℕ) (kind : Kind) where
  abbrev x : Held
  x = record y { stage = Scans v back }

  abbrev r : ScannedRecord
  r = record_at a kind size

  abbrev z : ℕ
  z = max (a + first_field kind) (first_word v.page)

  module _ (space : v.page < 2 * c.pages) where
    pub not_board : v.page ≢ (era c).board / 64
    not_board e = let b = board_at c in omega (arith, b, space, e)

  module _ (is : Is c k x) (lies : IsEntered c.pages v.page a size kind) where
    whole : scan_sound.IsScannedRecord r
    whole =
        let i = lies.inside in let n = is.fits.counted.1 in
        record { begins = let q = lies.some in omega (arith, q); fields = let e = lies.fits in omega (arith, e); short = let l = lies.short in omega (arith, l); inside = omega (arith, i, n) }

    space_of : v.page < board_page v.layout.pages
    space_of = rw (is.fits.stage.0.layout, is.fits.pages) lies.space

    behind : r.at < z
    behind = let f = lies.behind in omega (arith, f)

    reaches : 64 * v.page ≤ r.next
    reaches = let l = lies.reaches in omega (arith, l)

    sound : scan_sound.FitsStage v.layout.pages v.page (goes_on_at v.page v.in_place r z)
    sound = goes_on_sound y v back r z whole space_of (omega arith) behind reaches

    -- where the law says what the worker knows of a scan that has entered the record, the step is one of the worker's
    pub entered : (word : ℕ) → Law c p s k x None (scanning (knows x) (gone_to y v back r z (era c) (not_board lies.space) (next_scanned (seen_record r) z))) s.ghost
        → turned x (Value word) ≡ scans_to x v back (goes_on_at v.page v.in_place r z) → (scan_sound.IsSound (record v { stage = goes_on_at v.page v.in_place r z }) → Takes x (Value word))
        → told x (Value word) ≡ Silent → Goes c p s k None x (Value word)
    entered word law turns takes silent = quiet c p s k x None (Value word) s.ghost is.below (rw turns known) silent
        (takes (record { pages = is.fits.stage.0.sound.pages; page = is.fits.stage.0.sound.page; fits = sound })) (rw turns fits_after) tt
      where
        known : Law c p s k x None (knows (scans_to x v back (goes_on_at v.page v.in_place r z))) s.ghost
        known = steps_forget (era c) (memory c) (team c) s.ghost k None (scanning (knows x) (gone_to y v back r z (era c) (not_board lies.space) (next_scanned (seen_record r) z)))
            (knows (scans_to x v back (goes_on_at v.page v.in_place r z))) s.ghost law (goes_on_less y v back r z (era c) (not_board lies.space))

        fits_after : Fits c.pages c.mutators k (scans_to x v back (goes_on_at v.page v.in_place r z))
        fits_after = goes_on_fits y v back r z whole space_of (omega arith) behind reaches c.pages c.mutators k is.fits is.fits.end is.fits.stage.0 is.fits.stage.2 is.fits.side is.fits.task

-- the mixed record of this address and size, whose count is read next
module _ (c : Configuration) (p : Plain) (s : Stands c p) (k : ℕ) (y : Held) (v : Scanning) (back : Back) (h : HeadedRecord) where
  abbrev w : Held
  w = record y { stage = Scans v back }

  module _ (is : Is c k w) (on_page : scan_sound.IsHeadedOn c.pages v.page h) where
    sound_count : scan_sound.FitsStage v.layout.pages v.page (scan_stage.LoadsCount h)
    sound_count = rw (is.fits.stage.0.layout, is.fits.pages) on_page

    pub headed : (word : ℕ) (now : Scan) → now.page ≡ v.page → now.in_place ≡ v.in_place → now.ended ≡ false → now.cursor ≡ max h.at (first_word v.page)
        → Law c p s k w None (scanning (knows w) (scan_headed now h.at h.size)) s.ghost
        → turned w (Value word) ≡ scans_to w v back (scan_stage.LoadsCount h) → (scan_sound.IsSound (record v { stage = scan_stage.LoadsCount h }) → Takes w (Value word))
        → told w (Value word) ≡ Silent → Goes c p s k None w (Value word)
    headed word now page in_place ended cursor law turns takes silent = quiet c p s k w None (Value word) s.ghost is.below (rw turns known) silent
        (takes (record { pages = is.fits.stage.0.sound.pages; page = is.fits.stage.0.sound.page; fits = sound_count }))
        (rw turns (going_fits w v back c.pages c.mutators k is.fits is.fits.end is.fits.stage.0 is.fits.stage.2 is.fits.side is.fits.task (scan_stage.LoadsCount h) tt sound_count)) tt
      where
        less : IsAtMost (knows (scans_to w v back (scan_stage.LoadsCount h))) (scanning (knows w) (scan_headed now h.at h.size))
        less = of_scan (scanning (knows w) (scan_headed now h.at h.size)) (scan_of v (scan_stage.LoadsCount h)) (scan_headed now h.at h.size) refl
            (record { page = sym page; cursor = sym cursor; in_place = sym in_place; over = λ _ u. u; headed = λ _ u. u; current = λ _ u. u; inner = λ u. u; ended = sym ended })

        known : Law c p s k w None (knows (scans_to w v back (scan_stage.LoadsCount h))) s.ghost
        known = steps_forget (era c) (memory c) (team c) s.ghost k None (scanning (knows w) (scan_headed now h.at h.size)) (knows (scans_to w v back (scan_stage.LoadsCount h))) s.ghost law less
