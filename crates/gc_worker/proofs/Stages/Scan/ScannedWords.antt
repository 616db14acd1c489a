-- A word of the board, or a field, is loaded: where it leads into the old space the copy is asked for, else it is passed.
use Rattle.std.proofs.Common.{◌≡◌, ℕ, ◌+◌, ◌*◌, ◌<◌, ◌≤◌, ◌⊎◌, ◌&&◌, Bool, true, false, None, nat_lt, nat_le, refl, sym, ap, ◌∙◌, subst, arith, inl, inr, ⊎_elim}
use Rattle.std.proofs.lemmas.Bool.{ltb-true, leb-true}
use Rattle.std.proofs.lemmas.Bool.Decides.{nat_tests}
use Rattle.plain_state.specs.State.{Plain}
use Rattle.atom_store.specs.declared.step.Step.TheVariants.{Load}
use Rattle.atom_store.specs.declared.reply.Reply.TheVariants.{Value}
use Rattle.heap_words.specs.Decoded.{Decoded, PointerWord, decode}
use Rattle.space_map.specs.Spaces.{space_start, to_space}
use Rattle.space_map.specs.Table.{HeapWord, place_of}
use Rattle.page_scan.specs.Scanning.{Scanning, address_of}
use Rattle.page_scan.specs.Soundness as scan_sound
use Rattle.page_scan.specs.Taken.{passes_word, by_word, is_old}
use Rattle.page_scan.specs.declared.scan_stage.ScanStage.{ScanStage}
use Rattle.page_scan.specs.declared.scan_stage.ScanStage.TheVariants as scan_stage
use Rattle.page_scan.specs.declared.spot.Spot.{Spot}
use Rattle.page_scan.specs.declared.spot.Spot.TheVariants.{OnBoard, InRecord}
use Rattle.heap_state.specs.Configuration.{Configuration, Stands, era, memory, team, table}
use Rattle.heap_state.specs.Memory.Era.{Era}
use Rattle.heap_state.specs.Invariant.Ghost.{Lands, Leads}
use Rattle.heap_state.specs.Memory.Table.{word_in}
use Rattle.heap_state.specs.Known.{Known, Scan, Scanned}
use Rattle.heap_state.proofs.Table.LaidOut.{table_pages, laid_out}
use Rattle.heap_laws.specs.Scanning.Words.{scanning, asking, past_word, IsScanning, AtField}
use Rattle.heap_laws.proofs.Lifting.Configurations.{board_at}
use Rattle.heap_laws.proofs.Scanning.Fields as fields
use Rattle.heap_laws.proofs.Steps.Answers.{scans_are_answered}
use Rattle.heap_laws.proofs.Steps.Composing.{steps_forget}
use Rattle.gc_worker.specs.declared.stage.back.Back.{Back}
use Rattle.gc_worker.specs.declared.stage.Stage.{Stage}
use Rattle.gc_worker.specs.declared.stage.Stage.TheVariants.{Scans, Evacuates}
use Rattle.forwarding.specs.Evacuation as evac
use Rattle.gc_worker.specs.Steps.Goes.{Is, Goes, StepsSo}
use Rattle.gc_worker.specs.Workers.Held.{Held}
use Rattle.gc_worker.specs.Workers.Knows.{knows, scan_at}
use Rattle.gc_worker.proofs.Words.Eras.{old_span_within, old_start_is, spaces_apart, span_within, start_is}
use Rattle.gc_worker.proofs.Workers.KeptParts.{refit, page_count}
use Rattle.gc_worker.proofs.Stages.Gate.GateWords.{wants}
use Rattle.gc_worker.proofs.Stages.Scan.ScanKnowledge.{scans_to, still_back}
use Rattle.gc_worker.proofs.Stages.Scan.ScannedHeaders.{heap_word}
use Rattle.gc_worker.proofs.Stages.Scan.Spots.{at_field, passes_less, passes_sound, passes_fits}
use Rattle.gc_worker.proofs.Words.RowSteps.{Law, quiet, loads, prepared}

-- a word that is no pointer into the old space leads nowhere there
unleading : (E : Era) (w : ℕ) → ((b : ℕ) → decode w ≡ PointerWord b → E.old_start ≤ b → b < E.old_start + E.old_span → ⊥) → ¬ (Leads E w)
unfolding Leads
unleading E w none l = none l.0 l.1 l.2 l.3

-- the old space lies below the board
old_space_below : (c : Configuration) (p : Plain) → Stands c p → (era c).old_start + (era c).old_span ≤ 128 * c.pages
old_space_below c p s = let l = laid_out c.pages c.words s.formed in let b = board_at c in omega (arith, l.old_below, b)

-- the epoch's space lies apart from the old one with all its pages, in use or not
apart_from_old : (c : Configuration) (p : Plain) → Stands c p → ((era c).start + (era c).span ≤ (era c).old_start) ⊎ ((era c).old_start + 64 * c.pages ≤ (era c).start)
apart_from_old c p s =
    let apart = spaces_apart c.pages (era c).epoch in
    let w = span_within c p s in let b = start_is c in let o = old_start_is c in
    rw (b, o) (⊎_elim (λ l. inl (omega (arith, l, w))) (λ l. inr l) apart)

-- a word that lands leads to a record
leads_to : (size writer : ℕ → ℕ) (w : ℕ) → Lands size writer w → (b : ℕ) → decode w ≡ PointerWord b → (0 < size b) × (writer b ≡ 0)
unfolding Lands
leads_to size writer w lands b points = lands b points

pointers : {a b : ℕ} → PointerWord a ≡ PointerWord b → a ≡ b
pointers e = cc

-- an address between two others
between_by : (low high a : ℕ) (b t : Bool) → nat_le low a ≡ b → nat_lt a high ≡ t → (nat_le low a && nat_lt a high) ≡ true → (low ≤ a) × (a < high)
between_by low high a true true e f is = (leb-true low a e, ltb-true a high f)
between_by low high a true false e f is = absurd (let q = (rw (e, f) at is) in cc)
between_by low high a false t e f is = absurd (let q = (rw e at is) in cc)

outside_by : (low high a : ℕ) → (nat_le low a && nat_lt a high) ≡ false → low ≤ a → a < high → ⊥
outside_by low high a is l h = grind (arith, nat_tests, is, l, h)

module _ (c : Configuration) (p : Plain) (s : Stands c p) (k : ℕ) (y : Held) (u : Scanning) (spot : Spot) (back : Back) where
  abbrev v : Scanning
  v = record u { stage = scan_stage.LoadsWord spot }

  abbrev x : Held
  x = record y { stage = Scans v back }

  abbrev now : Scan
  now = scan_at v spot

  abbrev word : ℕ
  word = word_in c.pages c.words (HeapWord (address_of spot))

  abbrev after : Decoded → ScanStage
  after d = by_word u.layout u.page u.epoch u.in_place spot d

  module _ (is : Is c k x) where
    on : scan_sound.IsOnPage c.pages u.page spot
    on = let f = is.fits.stage.0.sound.fits in subst (λ n. scan_sound.IsOnPage n u.page spot) (ap (λ l. l.pages) is.fits.stage.0.layout ∙ is.fits.pages) f

    scans : IsScanning (team c) k now
    scans = record { scans = ap (λ (w : Known). w.scan) is.as_known; asks_nothing = ap (λ (w : Known). w.quest) is.as_known }

    of_now : u.epoch ≡ (era c).epoch
    of_now = is.fits.stage.0.epoch ∙ (ap (λ (w : Known). w.epoch) (sym is.as_known) ∙ (s.invariant.workers k is.below).present now scans.scans)

    field : AtField (era c) now
    field = at_field y v back (era c) c.pages (board_at c) spot on

    old_start : (era c).old_start ≡ space_start u.layout.pages (to_space (u.epoch + 1))
    old_start = let n : (table c).pages ≡ c.pages = table_pages c.pages c.words in rw (of_now, n, is.fits.stage.0.layout, is.fits.pages) refl

    pages_are : u.layout.pages ≡ c.pages
    pages_are = ap (λ l. l.pages) is.fits.stage.0.layout ∙ is.fits.pages

    -- all the space's pages, in use or not
    old_span : (era c).old_span ≤ 64 * u.layout.pages
    old_span = let w = old_span_within c p s in let n = pages_are in omega (arith, w, n)

    -- the word at the cursor leads to a record, and none is in the pages of the old space that are not in use
    in_use : (a : ℕ) → decode ((memory c).heap now.cursor) ≡ PointerWord a → (era c).old_start ≤ a → a < (era c).old_start + 64 * u.layout.pages
        → a < (era c).old_start + (era c).old_span
    in_use a points low high =
        let lands = (scans_are_answered (era c) (memory c) (team c) s.ghost k now (prepared c p s k x is) scans).field field in
        let there = leads_to s.ghost.size s.ghost.writer ((memory c).heap now.cursor) lands.1 a points in
        let lies = s.invariant.laid.lies a there.0 in
        let o = s.invariant.laid.order in
        let apart = apart_from_old c p s in
        let n = pages_are in
        omega (arith, there.0, lies, o, apart, n, low, high)

    -- it is passed
    goes_past : ¬ (Leads (era c) ((memory c).heap now.cursor)) → after (decode word) ≡ passes_word u.page u.in_place spot → Goes c p s k None x (Value word)
    goes_past away same =
        let l : Law c p s k x None (scanning (knows x) (past_word (era c) now)) s.ghost = rw is.as_known at (fields.passes (era c) (memory c) (team c) s.ghost k now (prepared c p s k x is) scans field away) in
        let known : Law c p s k x None (knows (scans_to x v back (passes_word u.page u.in_place spot))) s.ghost =
        steps_forget (era c) (memory c) (team c) s.ghost k None (scanning (knows x) (past_word (era c) now)) (knows (scans_to x v back (passes_word u.page u.in_place spot))) s.ghost l
        (passes_less y v back (era c) c.pages (board_at c) spot on) in
        quiet c p s k x None (Value word) s.ghost is.below (rw same known) refl
        (record { pages = is.fits.stage.0.sound.pages; page = is.fits.stage.0.sound.page; fits = rw same (passes_sound y v back spot is.fits.stage.0.sound.pages is.fits.stage.0.sound.fits) })
        (rw same (passes_fits y v back c.pages c.mutators k is.fits is.fits.end is.fits.stage.0 is.fits.stage.2 is.fits.side is.fits.task spot is.fits.stage.0.sound.fits)) tt

    -- its copy is asked for
    abbrev asked : ℕ → Stage
    asked a = Evacuates (evac.begun x.layout a x.epoch x.number) (record u { stage = scan_stage.Asks (record { spot = spot; old = a }) }) back

    goes_asking : (a : ℕ) → decode ((memory c).heap now.cursor) ≡ PointerWord a → (era c).old_start ≤ a → a < (era c).old_start + (era c).old_span
        → after (decode word) ≡ scan_stage.Asks (record { spot = spot; old = a }) → Goes c p s k None x (Value word)
    goes_asking a points low high same =
        let l : Law c p s k x None (asking (knows x) (record { old = a; origin = Scanned now.cursor; found = None })) s.ghost =
        rw is.as_known at (fields.asks (era c) (memory c) (team c) s.ghost k now a (prepared c p s k x is) scans field refl points low high) in
        let inside : a < 128 * x.layout.pages = let w = old_space_below c p s in rw is.fits.pages (omega (arith, w, high)) in
        quiet c p s k x None (Value word) s.ghost is.below (rw same l) refl
        (record { pages = is.fits.stage.0.sound.pages; page = is.fits.stage.0.sound.page; fits = rw same is.fits.stage.0.sound.fits })
        (rw same (refit c.pages c.mutators k x is.fits (asked a) is.fits.end is.fits.side is.fits.task (
          record { layout = refl; of_epoch = refl; worker = refl; going = tt; sound = record { pages = page_count c.pages c.mutators k x is.fits; worker = let q = is.fits.few in let r = is.fits.number in omega (arith, q, r); addr = inside; fits = tt } },
          record { layout = is.fits.stage.0.layout; epoch = is.fits.stage.0.epoch; sound = record { pages = is.fits.stage.0.sound.pages; page = is.fits.stage.0.sound.page; fits = is.fits.stage.0.sound.fits } },
          refl,
          still_back x (asked a) back is.fits.stage.2,
        ))) tt

    goes_by : (d : Decoded) → decode word ≡ d → Goes c p s k None x (Value word)
    goes_by (PointerWord a) e = by_old (is_old u.layout u.epoch a) refl
      where
        says : decode ((memory c).heap now.cursor) ≡ PointerWord a
        says = ap decode (heap_word c (address_of spot)) ∙ e

        by_old : (b : Bool) → is_old u.layout u.epoch a ≡ b → Goes c p s k None x (Value word)
        by_old true f =
            let m = between_by (space_start u.layout.pages (to_space (u.epoch + 1))) (space_start u.layout.pages (to_space (u.epoch + 1)) + 64 * u.layout.pages) a
            (nat_le (space_start u.layout.pages (to_space (u.epoch + 1))) a) (nat_lt a (space_start u.layout.pages (to_space (u.epoch + 1)) + 64 * u.layout.pages)) refl refl f in
            let low : (era c).old_start ≤ a = rw old_start m.0 in
            goes_asking a says low (in_use a says low (rw old_start m.1)) (rw (e, f) refl)
        by_old false f = goes_past
            (unleading (era c) ((memory c).heap now.cursor) (λ b q low high.
            let same : a ≡ b = pointers (sym says ∙ q) in
            outside_by (space_start u.layout.pages (to_space (u.epoch + 1))) (space_start u.layout.pages (to_space (u.epoch + 1)) + 64 * u.layout.pages) a f (rw (← old_start, same) low) (let w = old_span in let at = old_start in omega (arith, w, at, same, high))))
            (rw (e, f) refl)
    goes_by _ e = goes_past (unleading (era c) ((memory c).heap now.cursor) (λ b q _ _. let z = sym (ap decode (heap_word c (address_of spot)) ∙ e) ∙ q in absurd (cc))) (rw e refl)

    inside_row : (t : Spot) → scan_sound.IsOnPage c.pages u.page t → address_of t < 128 * c.pages + 64
    inside_row (OnBoard a) o = omega (arith, o)
    inside_row (InRecord r a) o = omega (arith, o)

    pub reads_word : StepsSo c p s k x
    reads_word =
        wants c p s k x (Load (place_of c.pages (HeapWord (address_of spot)))) (rw (is.fits.stage.0.layout, is.fits.pages) refl)
        (loads c p s k x (HeapWord (address_of spot)) (let i = inside_row spot on in omega (arith, i)) (goes_by (decode word) refl))
