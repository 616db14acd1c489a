-- The old record's first word is loaded, and the announced place cleared: the two steps at which a copy may be found.
use Rattle.std.proofs.Common.{◌≡◌, ℕ, ◌<◌, ◌^◌, Option, Some, None, refl, sym, ap, subst, ◌∙◌, arith}
use Rattle.plain_state.specs.State.{Plain}
use Rattle.atom_store.specs.declared.reply.Reply.{Reply}
use Rattle.atom_store.specs.declared.reply.Reply.TheVariants.{Value, Done}
use Rattle.atom_store.specs.declared.step.Step.TheVariants.{Load, Store}
use Rattle.heap_words.specs.Decoded.{Decoded, ForwardWord, HeaderWord, decode}
use Rattle.heap_words.proofs.Ranges.{header_bounds, forward_bounds}
use Rattle.space_map.specs.Table.{HeapWord, Announce, place_of}
use Rattle.forwarding.specs.declared.evac_stage.EvacStage.{EvacStage}
use Rattle.forwarding.specs.declared.evac_stage.EvacStage.TheVariants.{LoadsHeader, TakesHeader, Clears, Ended}
use Rattle.forwarding.specs.Evacuation.{Evacuation}
use Rattle.forwarding.specs.Soundness.{IsSound}
use Rattle.forwarding.specs.Taken.{by_first_word, stage_after}
use Rattle.forwarding.specs.Taken as evac_taken
use Rattle.page_scan.specs.declared.scan_stage.ScanStage.{ScanStage}
use Rattle.page_scan.specs.declared.scan_stage.ScanStage.TheVariants.{Asks}
use Rattle.page_scan.specs.Scanning.{Scanning}
use Rattle.page_scan.specs.Taken.{answered}
use Rattle.heap_state.specs.Configuration.{Configuration, Stands, era, memory, team}
use Rattle.heap_state.specs.Memory.Entries.{Entry, AnnounceIs}
use Rattle.heap_state.specs.Invariant.Ghost.{Ghost}
use Rattle.heap_state.specs.Memory.Table.{word_in}
use Rattle.heap_state.specs.Known.{Known}
use Rattle.heap_laws.specs.Answers.{OldHeader, OldHeaderAnswers, InPlace, KeptBy, Forwards}
use Rattle.heap_laws.proofs.Copying.Laws.{announces_are_cleared, forwards_are_found}
use Rattle.heap_laws.proofs.Steps.Answers.{old_headers_are_read}
use Rattle.gc_worker.specs.declared.stage.back.Back.{Back}
use Rattle.gc_worker.specs.declared.stage.back.Back.TheVariants.{ToAccess}
use Rattle.gc_worker.specs.declared.stage.Stage.TheVariants.{Evacuates, Scans}
use Rattle.gc_worker.specs.Workers.Fits.{Fits, FitsBack, HasAsked}
use Rattle.gc_worker.specs.Steps.Goes.{Is, Goes, StepsSo}
use Rattle.gc_worker.specs.Workers.Held.{Held}
use Rattle.gc_worker.specs.Workers.Knows.{linking_at, knows, cursor_asked}
use Rattle.gc_worker.specs.Steps.Turned.{turned_copy}
use Rattle.gc_worker.proofs.Stages.Copies.Hosts.{Host, ForScan, at, machine_at, wants_its, is_sound, has_pages, is_worker, takes, with_sound, tells_nothing, wins_nothing, copy_is, quest_with, quest_is}
use Rattle.gc_worker.proofs.Stages.Copies.Publishing.{stays}
use Rattle.gc_worker.proofs.Stages.Scan.ScannedHeaders.{heap_word}
use Rattle.gc_worker.proofs.Words.Eras.{board_is}
use Rattle.gc_worker.proofs.Workers.KeptParts.{refit}
use Rattle.gc_worker.proofs.Stages.Gate.GateWords.{wants}
use Rattle.gc_worker.proofs.Words.RowSteps.{Law, becomes, loads, stores, row_fits, prepared}

-- ---- a scan is answered

module _ (y : Held) (v : Evacuation) (scan : Scanning) (back : Back) where
  abbrev asking : EvacStage → ScanStage → Held
  asking z q = record y { stage = Evacuates (record v { stage = z }) (record scan { stage = q }) back }

  abbrev going_on : ScanStage → ℕ → Held
  going_on q to = record y { stage = Scans (answered (record scan { stage = q }) to) back }

  -- the scan knows of the quest what the copy knew
  answer_known : (z : EvacStage) (q : ScanStage) (to : ℕ) → linking_at z ≡ None → HasAsked (record v { stage = z }) q
      → record (knows (asking z q)) { copy = None; quest = Some (quest_with y v (ForScan (record scan { stage = q }) back) (Some to)) } ≡ knows (going_on q to)
  answer_known z (Asks asked) to none has = λ i. record (knows (going_on (Asks asked) to)) { linking = none i; quest = Some (record { old = sym has i; origin = Rattle.heap_state.specs.Known.Scanned (cursor_asked (Asks asked)); found = Some to }) }
  answer_known z _ to none has = absurd has

  back_fits : (q : ScanStage) (z : EvacStage) (to : ℕ) (b : Back) → FitsBack (asking z q) b → FitsBack (going_on q to) b
  back_fits q z to (ToAccess _) f = f
  back_fits q z to _ f = f

  answer_fits : (n mutators k : ℕ) (z : EvacStage) (q : ScanStage) (to : ℕ) → Fits n mutators k (asking z q) → HasAsked (record v { stage = z }) q → Fits n mutators k (going_on q to)
  answer_fits n mutators k z (Asks asked) to f has =
      let g = f.stage.1 in
      refit n mutators k (asking z (Asks asked)) f (Scans (answered (record scan { stage = Asks asked }) to) back) f.end f.side f.task
      (record { layout = g.layout; epoch = g.epoch; sound = record { pages = g.sound.pages; page = g.sound.page; fits = g.sound.fits } }, tt, back_fits (Asks asked) z to back f.stage.3)
  answer_fits n mutators k z _ to f has = absurd has

-- ---- the old record's first word

module _ (c : Configuration) (p : Plain) (s : Stands c p) (k : ℕ) (y : Held) (o : Host) (v : Evacuation) (is : Is c k (at y o v LoadsHeader)) where
  abbrev first_word : ℕ
  first_word = word_in c.pages c.words (HeapWord v.addr)

  -- what a forward leads to is found so
  abbrev Finds : Type 0
  Finds = (len to : ℕ) → decode first_word ≡ ForwardWord len to → Goes c p s k None (at y o v LoadsHeader) (Value first_word)

  pub answers : OldHeaderAnswers (era c) (memory c) s.ghost k (quest_with y v o None)
  answers =
      old_headers_are_read (era c) (memory c) (team c) s.ghost k (quest_with y v o None) (prepared c p s k (at y o v LoadsHeader) is)
      (ap (λ (u : Known). u.quest) is.as_known ∙ quest_is y v o LoadsHeader) (ap (λ (u : Known). u.copy) is.as_known ∙ copy_is y v o LoadsHeader)

  by_word : (size : ℕ) (d : Decoded) → size ≡ s.ghost.size v.addr → decode first_word ≡ d → OldHeader (era c) (memory c).front k size d → Finds → Goes c p s k None (at y o v LoadsHeader) (Value first_word)
  by_word size d is_size e (InPlace kind len serial mutator of_size) finds =
      let below = answers.below in
      let board = board_is c in
      let pages = has_pages y v c.pages c.mutators k o LoadsHeader is.fits in
      stays c p s k y o v LoadsHeader (by_first_word first_word (HeaderWord kind len serial mutator)) (Value first_word) is (ap (by_first_word first_word) e) refl refl refl refl
      (record { serial = serial; mutator = mutator; says = e; short = (header_bounds first_word kind len serial mutator e).0; inside = omega (arith, below, board, pages, of_size, is_size) })
  by_word size d is_size e (KeptBy len j of_size other) finds =
      stays c p s k y o v LoadsHeader LoadsHeader (Value first_word) is (ap (by_first_word first_word) e) refl refl refl refl tt
  by_word size d is_size e (Forwards len to of_size inside) finds = finds len to e

  pub loads_header : Finds → StepsSo c p s k (at y o v LoadsHeader)
  loads_header finds =
      let sound = is_sound y v c.pages c.mutators k o LoadsHeader is.fits in
      let pages = has_pages y v c.pages c.mutators k o LoadsHeader is.fits in
      let inside = sound.addr in
      wants c p s k (at y o v LoadsHeader) (Load (place_of c.pages (HeapWord v.addr)))
      (wants_its y v o LoadsHeader ∙ ap (λ n. Some (Load (place_of n (HeapWord v.addr)))) pages)
      (loads c p s k (at y o v LoadsHeader) (HeapWord v.addr) (omega arith)
      (by_word (s.ghost.size v.addr) (decode first_word) refl refl (subst (λ w. OldHeader (era c) (memory c).front k (s.ghost.size v.addr) (decode w)) (heap_word c v.addr) answers.word) finds))

-- ---- the copy that a scan asked for is found

module _ (c : Configuration) (p : Plain) (s : Stands c p) (k : ℕ) (y : Held) (v : Evacuation) (scan : Scanning) (back : Back) where
  abbrev for_scan : EvacStage → Held
  for_scan z = at y (ForScan scan back) v z

  abbrev found_by : (to : ℕ) → Known → Known
  found_by to w = record w { copy = None; quest = Some (quest_with y v (ForScan scan back) (Some to)) }

  answers_scan : (e : Option Entry) (z : EvacStage) (to : ℕ) (reply : Reply) (h : Ghost) → Is c k (for_scan z) → linking_at z ≡ None → stage_after v.layout v.epoch z reply ≡ Ended to → to < 2 ^ 32
      → Law c p s k (for_scan z) e (found_by to (knows (for_scan z))) h → Goes c p s k e (for_scan z) reply
  answers_scan e z to reply h is none next short law =
      let has = is.fits.stage.2 in
      becomes c p s k (for_scan z) e reply (going_on y v scan back scan.stage to) h
      (ap (λ n. turned_copy (for_scan z) (machine_at y (ForScan scan back) v n) scan back (evac_taken.told n)) next) is.below
      (subst (λ (u : Known). Law c p s k (for_scan z) e u h) (answer_known y v scan back z scan.stage to none has) law)
      (tells_nothing y v (ForScan scan back) z reply) (wins_nothing y v (ForScan scan back) z reply)
      (takes y v (ForScan scan back) z reply (subst (λ n. IsSound (record v { stage = n })) (sym next)
      (with_sound y v c.pages c.mutators k z (Ended to) (is_sound y v c.pages c.mutators k (ForScan scan back) z is.fits) short)))
      (answer_fits y v scan back c.pages c.mutators k z scan.stage to is.fits has)

  module _ (is : Is c k (for_scan LoadsHeader)) where
    pub scan_loads_header : StepsSo c p s k (for_scan LoadsHeader)
    scan_loads_header =
        loads_header c p s k y (ForScan scan back) v is
        (λ len to e. answers_scan None LoadsHeader to (Value (word_in c.pages c.words (HeapWord v.addr))) s.ghost is refl
        (ap (by_first_word (word_in c.pages c.words (HeapWord v.addr))) e) (forward_bounds (word_in c.pages c.words (HeapWord v.addr)) len to e).1
        (subst (λ (u : Known). Law c p s k (for_scan LoadsHeader) None (found_by to u) s.ghost) is.as_known
        (subst (λ q. Law c p s k (for_scan LoadsHeader) None (record ((team c).worker k) { copy = q; quest = Some (quest_with y v (ForScan scan back) (Some to)) }) s.ghost)
        (ap (λ (u : Known). u.copy) is.as_known)
        (forwards_are_found (era c) (memory c) (team c) s.ghost k (quest_with y v (ForScan scan back) None) len to (prepared c p s k (for_scan LoadsHeader) is)
        (ap (λ (u : Known). u.copy) is.as_known) (ap (λ (u : Known). u.quest) is.as_known) (ap decode (heap_word c v.addr) ∙ e)))))

  module _ (to : ℕ) (is : Is c k (for_scan (Clears to))) where
    clear_law : Law c p s k (for_scan (Clears to)) (Some (AnnounceIs k 0)) (knows (for_scan (Clears to))) s.ghost
    clear_law =
        subst (λ (u : Known). Law c p s k (for_scan (Clears to)) (Some (AnnounceIs k 0)) u s.ghost) is.as_known
        (announces_are_cleared (era c) (memory c) (team c) s.ghost k (prepared c p s k (for_scan (Clears to)) is) (ap (λ (u : Known). u.copy) is.as_known))

    pub scan_clears : StepsSo c p s k (for_scan (Clears to))
    scan_clears =
        let sound = is_sound y v c.pages c.mutators k (ForScan scan back) (Clears to) is.fits in
        let pages = has_pages y v c.pages c.mutators k (ForScan scan back) (Clears to) is.fits in
        let worker = is_worker y v c.pages c.mutators k (ForScan scan back) (Clears to) is.fits in
        let row = row_fits c p s k (for_scan (Clears to)) (AnnounceIs k 0) (knows (for_scan (Clears to))) s.ghost is.below clear_law in
        wants c p s k (for_scan (Clears to)) (Store (place_of c.pages (Announce k)) 0)
        (wants_its y v (ForScan scan back) (Clears to) ∙ ap (λ n. Some (Store (place_of n (Announce v.worker)) 0)) pages ∙ ap (λ n. Some (Store (place_of c.pages (Announce n)) 0)) worker)
        (stores c p s k (for_scan (Clears to)) (AnnounceIs k 0) row
        (answers_scan (Some (AnnounceIs k 0)) (Clears to) to Done s.ghost is refl refl sound.fits clear_law))
