-- The scan of a page by a lone mutator: it meets the words that can be there, and so each of its steps lowers what is still to be paid.
use Rattle.std.proofs.Common.{◌≡◌, ◌≢◌, ℕ, ◌+◌, ◌*◌, ◌/◌, ◌<◌, ◌≤◌, ◌⊎◌, inl, inr, Bool, true, false, None, Some, refl, sym, ap, subst, ◌∙◌, arith}
use Rattle.std.specs.Prelude.{is_some}
use Rattle.std.proofs.lemmas.Bool.{le-leb}
use Rattle.std.proofs.lemmas.Option.{same_Some}
use Rattle.plain_state.specs.State.{Plain}
use Rattle.atom_store.specs.declared.reply.Reply.TheVariants.{Value, Done}
use Rattle.atom_store.specs.declared.step.Step.TheVariants.{Load, Store}
use Rattle.heap_words.specs.Decoded.{decode}
use Rattle.heap_words.specs.FirstWords.{is_header}
use Rattle.heap_words.specs.Word.{pointer_word}
use Rattle.space_map.specs.Spaces.{Layout, to_space}
use Rattle.space_map.specs.Table.{Row, IsRow, Area, Cross, HeapWord, place_of}
use Rattle.page_scan.specs.declared.asked.Asked.{Asked}
use Rattle.page_scan.specs.declared.headed_record.HeadedRecord.{HeadedRecord}
use Rattle.page_scan.specs.declared.scan_stage.ScanStage.{ScanStage}
use Rattle.page_scan.specs.declared.scan_stage.ScanStage.TheVariants.{LoadsCross, LoadsFirst, LoadsCount, LoadsWord, Asks, StoresCopy, LoadsFront, LoadsNext, Ended}
use Rattle.page_scan.specs.declared.scanned_record.ScannedRecord.{ScannedRecord}
use Rattle.page_scan.specs.declared.spot.Spot.{Spot}
use Rattle.page_scan.specs.declared.spot.Spot.TheVariants.{OnBoard, InRecord}
use Rattle.page_scan.specs.Left.{advances}
use Rattle.page_scan.specs.Scanning.{Scanning, address_of}
use Rattle.page_scan.specs.Soundness.{IsOnPage}
use Rattle.page_scan.specs.Taken.{is_count}
use Rattle.heap_state.specs.Configuration.{Configuration, Stands, table, era, memory, team}
use Rattle.heap_state.specs.Memory.Entries.{WordIs, with_entry}
use Rattle.heap_state.specs.Memory.Table.{word_in}
use Rattle.heap_state.specs.Known.{Known, Scan}
use Rattle.heap_laws.specs.Answers.{MeetsHeader, ScanAnswers}
use Rattle.heap_laws.specs.Scanning.Words.{IsScanning}
use Rattle.heap_laws.proofs.Lifting.Configurations.{board_at, ready}
use Rattle.heap_laws.proofs.Steps.Answers.{scans_are_answered}
use Rattle.gc_worker.specs.declared.stage.back.Back.{Back}
use Rattle.gc_worker.specs.declared.stage.Stage.TheVariants.{Scans}
use Rattle.gc_worker.specs.Workers.Held.{Held, at_stage}
use Rattle.gc_worker.specs.Workers.Knows.{quest_at, scan_of, seen_header, seen_record}
use Rattle.gc_worker.specs.Steps.Wanted.{wanted}
use Rattle.gc_worker.proofs.Words.Areas.{area_says, is_space}
use Rattle.gc_worker.proofs.Stages.Scan.ScannedHeaders.{heap_word}
use Rattle.lone_mutator.specs.Law.{IsAlone, StepsLower}
use Rattle.lone_mutator.proofs.Stages.Scan.NextScanCost.{OwesSound, goes_on, sound_steps}
use Rattle.lone_mutator.proofs.Steps.TableSteps as steps

module _ (c : Configuration) (p : Plain) (s : Stands c p) (y : Held) (z : Scanning) (back : Back) where
  abbrev at : ScanStage → Held
  at stage = record y { stage = Scans (record z { stage = stage }) back }

  abbrev Owes : ScanStage → Type 0
  Owes stage = IsAlone c (at stage) → StepsLower c (at stage)

  module _ (stage : ScanStage) (a : IsAlone c (at stage)) where
    pages : z.layout.pages ≡ c.pages
    pages = ap (λ (l : Layout). l.pages) a.is.fits.stage.0.layout ∙ a.is.fits.pages

    -- a load that takes the scan on
    loads_it : (row : Row) → IsRow c.pages row → wanted (at stage) ≡ Some (Load (place_of z.layout.pages row))
        → advances stage (Value (word_in c.pages c.words row)) ≡ true → StepsLower c (at stage)
    loads_it row is want on = sound_steps c p s y z back stage a (λ q asked.
        subst (steps.HoldsBy c p s (OwesSound c p s y z back stage))
        (same_Some (Load (place_of c.pages row)) q (sym (want ∙ ap (λ n. Some (Load (place_of n row))) pages) ∙ asked))
        (steps.loads c p s (OwesSound c p s y z back stage) row is
        (goes_on c p s y z back stage a (table c) refl refl a.remembers.quiet (Value (word_in c.pages c.words row)) on)))

    -- ---- what it meets

    abbrev now : Scan
    now = scan_of (record z { stage = stage }) stage

    module _ (none : quest_at stage ≡ None) where
      scans : IsScanning (team c) 0 now
      scans = record { scans = ap (λ (w : Known). w.scan) a.is.as_known; asks_nothing = ap (λ (w : Known). w.quest) a.is.as_known ∙ none }

      answers : ScanAnswers (era c) (memory c) s.ghost now
      answers = scans_are_answered (era c) (memory c) (team c) s.ghost 0 now (ready c p s 0 a.is.below) scans

    apart : z.page < 2 * z.layout.pages → z.page ≢ (era c).board / 64
    apart inside e = let b = board_at c in let n = pages in omega (arith, b, n, inside, e)

  -- a header is met
  meets : (at : ℕ) → MeetsHeader (memory c) at → is_header (decode (word_in c.pages c.words (HeapWord at))) ≡ true
  meets at h = ap (λ w. is_header (decode w)) (sym (heap_word c at)) ∙ ap is_header h.header

  -- a word that is scanned is one of the table
  on_table : (spot : Spot) → IsOnPage z.layout.pages z.page spot → z.layout.pages ≡ c.pages → address_of spot ≤ 128 * c.pages + 63
  on_table (OnBoard x) fits n = omega (arith, fits, n)
  on_table (InRecord r x) fits n = let low = fits.1 in let high = fits.3 in omega (arith, low, high, n)

  -- ---- each of its steps

  loads_cross : Owes LoadsCross
  loads_cross a = loads_it LoadsCross a (Cross z.page) (let f = a.is.fits.stage.0.sound.fits in let n = pages LoadsCross a in omega (arith, f, n)) refl refl

  loads_first : (first : ℕ) → Owes (LoadsFirst first)
  loads_first first a =
      let stage = LoadsFirst first in
      let f = a.is.fits.stage.0.sound.fits in
      let n = pages stage a in
      let header = (answers stage a refl).first first (apart stage a f.0) refl in
      loads_it stage a (HeapWord first) (let i = f.1 in omega (arith, i, n)) refl (meets first header.1.0)

  loads_count : (h : HeadedRecord) → Owes (LoadsCount h)
  loads_count h a =
      let stage = LoadsCount h in
      let f = a.is.fits.stage.0.sound.fits in
      let n = pages stage a in
      let inside = f.inside in
      let counted = f.counted in
      let t = (answers stage a refl).count (seen_header h) refl in
      loads_it stage a (HeapWord (h.at + 1)) (omega (arith, inside, counted, n)) refl
      (ap (λ w. is_count h.size (decode w)) (sym (heap_word c (h.at + 1))) ∙ ap (is_count h.size) t.1 ∙ le-leb (t.0 + 2) h.size t.2)

  loads_word : (spot : Spot) → Owes (LoadsWord spot)
  loads_word spot a = loads_it (LoadsWord spot) a (HeapWord (address_of spot)) (on_table spot a.is.fits.stage.0.sound.fits (pages (LoadsWord spot) a)) refl refl

  loads_front : (r : ScannedRecord) → Owes (LoadsFront r)
  loads_front r a = loads_it (LoadsFront r) a (Area (to_space z.epoch)) (is_space z.epoch) refl (ap is_some (area_says c p s (to_space z.epoch) (is_space z.epoch)))

  inner_or_not : (b : Bool) → z.in_place ≡ b → (z.in_place ≡ true) ⊎ (z.in_place ≡ false)
  inner_or_not true e = inl e
  inner_or_not false e = inr e

  loads_next : (r : ScannedRecord) → Owes (LoadsNext r)
  loads_next r a =
      let stage = LoadsNext r in
      let f = a.is.fits.stage.0.sound.fits in
      let n = pages stage a in
      let inside = f.1 in
      let below = f.3 in
      let header = (answers stage a refl).next (seen_record r) (apart stage a inside) refl refl (omega (arith, below)) (inner_or_not z.in_place refl) in
      loads_it stage a (HeapWord r.next) (omega (arith, inside, below, n)) refl (meets r.next header)

  stores_copy : (asked : Asked) (to : ℕ) → Owes (StoresCopy asked to)
  stores_copy asked to a =
      let stage = StoresCopy asked to in
      let place = address_of asked.spot in
      let word = pointer_word to in
      let n = pages stage a in
      let want : wanted (at stage) ≡ Some (Store (place_of c.pages (HeapWord place)) word) = ap (λ m. Some (Store (place_of m (HeapWord place)) word)) n in
      sound_steps c p s y z back stage a (λ q asks.
      subst (steps.HoldsBy c p s (OwesSound c p s y z back stage)) (same_Some (Store (place_of c.pages (HeapWord place)) word) q (sym want ∙ asks))
      (steps.stores c p s (OwesSound c p s y z back stage) (WordIs place word) (on_table asked.spot a.is.fits.stage.0.sound.fits n) tt
      (goes_on c p s y z back stage a (with_entry (WordIs place word) (table c)) refl refl a.remembers.quiet Done refl)))

  -- ---- all

  by_stage : (stage : ScanStage) → Owes stage
  by_stage LoadsCross a = loads_cross a
  by_stage (LoadsFirst first) a = loads_first first a
  by_stage (LoadsCount h) a = loads_count h a
  by_stage (LoadsWord spot) a = loads_word spot a
  by_stage (Asks asked) a = absurd a.is.fits.stage.1
  by_stage (StoresCopy asked to) a = stores_copy asked to a
  by_stage (LoadsFront r) a = loads_front r a
  by_stage (LoadsNext r) a = loads_next r a
  by_stage (Ended ending) a = absurd a.is.fits.stage.1

  pub scans_page : IsAlone c (at_stage y (Scans z back)) → StepsLower c (at_stage y (Scans z back))
  scans_page a = by_stage z.stage a
