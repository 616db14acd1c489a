-- An allocation keeps what is kept of checkpoints: its new pages are none of a checkpoint, and are marked as new before they are
-- opened; and the words of its record are stored as those of an access.
use Rattle.std.proofs.Common.{◌≡◌, ℕ, ◌+◌, ◌*◌, ◌≤◌, ◌==◌, Bool, true, false, cond, Option, None, Some, nat_lt, refl, sym, ap, subst, ◌∙◌, arith, slice_index}
use Rattle.std.proofs.lemmas.Bool.{eqb-true, ne_eqb}
use Rattle.plain_state.specs.State.{Plain}
use Rattle.atom_store.specs.declared.reply.Reply.{Reply}
use Rattle.atom_store.specs.declared.reply.Reply.TheVariants.{Value, Done, Won, Lost}
use Rattle.atom_store.specs.declared.step.Step.{Step}
use Rattle.atom_store.specs.declared.step.Step.TheVariants.{Load, Store, Exchange}
use Rattle.atom_store.specs.declared.turn.Turn.{Turn}
use Rattle.atom_store.specs.declared.turn.Turn.TheVariants.{More, Finished}
use Rattle.heap_words.specs.Decoded.{encode}
use Rattle.heap_words.specs.Word.{number_word}
use Rattle.record_layout.specs.declared.header.Header.{Header}
use Rattle.record_layout.specs.Layout.{header_says}
use Rattle.space_map.specs.declared.area_word.AreaWord.{AreaWord}
use Rattle.space_map.specs.declared.page_word.PageWord.TheVariants.{Open}
use Rattle.space_map.specs.declared.save_word.SaveWord.TheVariants.{New}
use Rattle.space_map.specs.AreaWord.{AreaFits, decode_area, encode_area}
use Rattle.space_map.specs.PageWord.{encode_page}
use Rattle.space_map.specs.SaveWord.{encode_save}
use Rattle.space_map.specs.Spaces.{page_of, to_space}
use Rattle.space_map.specs.Table.{Area, HeapWord, Page, SaveOf, Size, Traced}
use Rattle.space_map.specs.WholeTable.{WholeRow, Within, Behind, whole_place_of}
use Rattle.alloc_end.specs.declared.allocated.Allocated.{Allocated}
use Rattle.alloc_end.specs.declared.allocated.Allocated.TheVariants.{Placed, Full}
use Rattle.alloc_end.specs.declared.fitting.Fitting.{Fitting}
use Rattle.alloc_end.specs.declared.new_pages.NewPages.{NewPages}
use Rattle.alloc_end.specs.declared.place_stage.PlaceStage.{PlaceStage}
use Rattle.alloc_end.specs.declared.place_stage.PlaceStage.TheVariants.{LoadsTraced, LoadsSize, LoadsArea, ExchangesArea, StoresZero, StoresNew, OpensPage, StoresCount, StoresTarget, StoresLink, StoresHeader, Ended}
use Rattle.alloc_end.specs.declared.run.Run.{Run}
use Rattle.alloc_end.specs.declared.shortage.Shortage.{Shortage}
use Rattle.alloc_end.specs.Place.{Placing, area_after, kept_room, looked_at_area, pages_for, readies, size_of, stores_first, taken, told, words_for, writes_on}
use Rattle.alloc_end.specs.Place as place
use Rattle.alloc_end.specs.Soundness.{IsAtPage}
use Rattle.fault_duty.specs.declared.caller.Caller.TheVariants as callers
use Rattle.fault_duty.specs.Duty as duty
use Rattle.gate_core.specs.declared.passage.Passage.TheVariants.{Request}
use Rattle.heap_state.specs.Configuration.{Configuration, table, team}
use Rattle.heap_state.specs.Functions.{put}
use Rattle.heap_state.specs.Memory.Entries.{Entry, AreaIs, PageIs, SaveIs, WordIs}
use Rattle.heap_state.specs.Saving.Frozen.{Frozen}
use Rattle.heap_state.specs.Saving.Parts.{SavingStands}
use Rattle.heap_state.specs.Saving.Savers.{Saver}
use Rattle.heap_state.specs.Known.{Stock, Known, is_running}
use Rattle.heap_laws.specs.Allocation.Stocks.{HasStock, OpensNext}
use Rattle.heap_laws.specs.Saving.Pages.{saver_marking}
use Rattle.heap_laws.specs.Saving.Rounds.{KnowsNoMore}
use Rattle.heap_laws.specs.Saving.Rows.{Spares, SparesArea}
use Rattle.heap_laws.specs.Saving.Sparing.{MayOpenNew, MayStoreOn, OpensBeforeAll, OpensMarked}
use Rattle.heap_laws.specs.Saving.Stores.{saves_after}
use Rattle.heap_laws.proofs.Saving.Pages.Writes.{stock_pages_are_marked}
use Rattle.heap_laws.proofs.Saving.Sparing.{new_pages_are_spared, stores_are_spared, zeros_are_spared}
use Rattle.gc_worker.specs.declared.stage.after.After.TheVariants as afters
use Rattle.gc_worker.specs.declared.stage.goal.Goal.TheVariants.{ForFlip}
use Rattle.gc_worker.specs.declared.stage.Stage.TheVariants.{Places}
use Rattle.gc_worker.specs.Plain.Seen.{Making}
use Rattle.gc_worker.specs.Steps.Turned.{Silent, asks_flip, checkpoints, end_by_shortage, ended, full_by, is_full, passes, told_effect, told_end, told_full, told_place, turned_place, with_record}
use Rattle.gc_worker.specs.Steps.Wanted.{wanted}
use Rattle.gc_worker.specs.Workers.Fits.{IsMaking}
use Rattle.gc_worker.specs.Workers.Held.{Held, at_stage, fields_for, making_for, target_for}
use Rattle.gc_worker.specs.Workers.Knows.{opened_to, zeroed_to}
use Rattle.gc_worker.specs.Workers.Saves.{marked_at, saver_of}
use Rattle.gc_worker.proofs.Plain.NewRecords.{made, made_is}
use Rattle.gc_worker.proofs.Saving.Frame.Answers.{IsNoSnap, keeps_snaps, no_snap_effect, no_snap_end}
use Rattle.gc_worker.proofs.Saving.Frame.StepRows.{exchanges_so, forgets_by, kept_by, loads_so, stores_by, stores_so}
use Rattle.gc_worker.proofs.Saving.Frame.Running.{running_saver, runs_forgetting, first_unmarked, may_store_on, allocates_run, checkpoints_run, leaves_run, looks_run, places_run_at}
use Rattle.gc_worker.proofs.Saving.Mutators.KeptSaves.{asked_so}
use Rattle.gc_worker.proofs.Saving.Frame.Step.{Before, KeepsSnaps, SavesStep, prepared, saves}
use Rattle.gc_worker.proofs.Words.Areas.{is_space}

-- ---- stages with no page marked

-- nothing is marked at its stage
abbrev IsUnmarked : Placing → Type 0
IsUnmarked v = marked_at v v.stage ≡ None

readied_by : (v : Placing) (new : NewPages) (none : Bool) → (v.snap == 0) ≡ none → marked_at v (cond none (OpensPage new) (StoresNew new)) ≡ None
readied_by v new true test = ap (λ (b : Bool). cond b None (Some new.next)) test
readied_by v new false test = refl

readied : (v : Placing) (new : NewPages) → IsUnmarked (place.at_stage v (readies v.snap new))
readied v new = readied_by v new (v.snap == 0) refl

cleared_by : (v : Placing) (new : NewPages) (more : Bool)
    → marked_at v (cond more (StoresZero (record { first = new.first; next = new.next + 1 })) (readies v.snap (record { first = new.first; next = page_of new.first }))) ≡ None
cleared_by v new true = refl
cleared_by v new false = readied v (record { first = new.first; next = page_of new.first })

opened_by : (v : Placing) (new : NewPages) (run : Run) (more : Bool)
    → IsUnmarked (cond more (place.at_stage v (readies v.snap (record { first = new.first; next = new.next + 1 }))) (record v { run = run; stage = stores_first v.header.kind }))
opened_by v new run true = readied v (record { first = new.first; next = new.next + 1 })
opened_by v new run false = first_unmarked (record v { run = run }) v.header.kind

fitting_by : (v : Placing) (f : Fitting) (s : Shortage) (fits : Bool) → marked_at v (cond fits (ExchangesArea f) (Ended (Full s))) ≡ None
fitting_by v f s true = refl
fitting_by v f s false = refl

looked : (v : Placing) (traced : Bool) (size : ℕ) (o : Option AreaWord) → IsUnmarked (place.at_stage v (looked_at_area v traced size o))
looked v traced size None = refl
looked v traced size (Some area) = fitting_by v _ _ (place.fits traced (words_for v.header) area)

-- ---- what comes of it

module _ (x : Held) (room : x.layout.checkpoints ≡ true) where
  abbrev Goes : Held → Type 0
  Goes y = saver_of y ≡ running_saver x.snap x.running

  asks_by : (b : Bool) → x.layout.checkpoints ≡ b → Goes (at_stage x (cond b (checkpoints x ForFlip) (passes x Request afters.Places)))
  asks_by true is = checkpoints_run x room
  asks_by false is = absurd (cc)

  full_so : (s : Shortage) (full : Bool) → Goes (cond full (ended x (end_by_shortage s)) (at_stage x (asks_flip x)))
  full_so s true = leaves_run x room afters.Looks
  full_so s false = asks_by x.layout.checkpoints refl

  is_full_so : (s : Shortage) (traced : Bool) → Goes (full_by x s traced)
  is_full_so s false = allocates_run x room (duty.begun x.layout callers.Allocates x.epoch x.number)
  is_full_so s true = full_so s (is_full x s)

  recorded : (run : Run) (at : ℕ) (m : Making) (o : Option Making) → o ≡ Some m → Goes (with_record x run at o)
  recorded run at m (Some n) is = looks_run (with_record x run at (Some n)) room
  recorded run at m None is = absurd (cc)

  placed : IsMaking x.account x.registers x.task → (v : Placing) → IsUnmarked v → (t : Turn Allocated) → Goes (turned_place x v t)
  placed making v unmarked More = places_run_at x room v unmarked
  placed making v unmarked (Finished (Placed at)) = recorded v.run at (made x making) (making_for x x.task) (made_is x making)
  placed making v unmarked (Finished (Full s)) = is_full_so s s.traced

module _ (p : Plain) (k : ℕ) (x : Held) where
  full_by_end : (s : Shortage) (full : Bool) → KeepsSnaps p k (cond full (told_end x.task (end_by_shortage s)) Silent)
  full_by_end s true = keeps_snaps p k (told_end x.task (end_by_shortage s)) (no_snap_end x.task (end_by_shortage s))
  full_by_end s false = keeps_snaps p k Silent tt

  full_keeps : (s : Shortage) (traced : Bool) → KeepsSnaps p k (told_full x s traced)
  full_keeps s false = keeps_snaps p k Silent tt
  full_keeps s true = full_by_end s (is_full x s)

  keeps_by : IsNoSnap (told_effect x.task) → (t : Turn Allocated) → KeepsSnaps p k (told_place x t)
  keeps_by other More = keeps_snaps p k Silent tt
  keeps_by other (Finished (Placed at)) = keeps_snaps p k (told_effect x.task) other
  keeps_by other (Finished (Full s)) = full_keeps s s.traced

small_room : (traced : Bool) (area : AreaWord) → kept_room traced area ≤ area.owed
small_room true area = omega arith
small_room false area = omega arith

-- ---- the steps

module _ (c : Configuration) (p : Plain) (z : Frozen) (saver : ℕ → Saver) (k : ℕ) (y : Held) (run : Run) (header : Header) where
  abbrev placing : PlaceStage → Placing
  placing stage = record { layout = y.layout; run = run; header = header; fields = fields_for y; epoch = y.epoch; snap = y.snap; target = target_for y; stage = stage }

  abbrev at : PlaceStage → Held
  at stage = at_stage y (Places (placing stage))

  module _ (stage : PlaceStage) (b : Before c p z saver k (at stage)) where
    abbrev x : Held
    x = at stage

    abbrev Steps : Type 0
    Steps = (q : Step) → wanted x ≡ Some q → SavesStep c p saver k x q

    abbrev after : Reply → Placing
    after reply = taken (placing stage) reply

    recalled : (saver_of x).recalled ≡ true
    recalled = let room = b.room in rw room refl

    own_recalled : (saver k).recalled ≡ true
    own_recalled = ap (λ (w : Saver). w.recalled) b.own ∙ recalled

    own_snap : (saver k).snap ≡ y.snap
    own_snap = ap (λ (w : Saver). w.snap) b.own

    less : (v : Placing) → IsUnmarked v → KnowsNoMore (saver_of (turned_place x v (told v))) (saver_of x)
    less v unmarked =
        subst (λ (w : Saver). KnowsNoMore w (saver_of x)) (sym (placed x b.room b.is.fits.task.0 v unmarked (told v)))
        (runs_forgetting (saver_of x) y.snap y.running recalled refl refl refl refl)

    keeps : (v : Placing) → KeepsSnaps p k (told_place x (told v))
    keeps v =
        let making = b.is.fits.task.0 in
        keeps_by p k x (no_snap_effect y.account y.registers y.task _ making.executes refl) (told v)

    pages : y.layout.pages ≡ c.pages
    pages = b.is.fits.pages

    -- ---- on the pages of its run

    may_store : (page : ℕ) → writes_on (placing stage) stage ≡ Some page → MayStoreOn (saver k) page
    may_store page on =
        may_store_on (saver k) y.running page (writes_on (placing stage) stage) own_recalled (ap (λ (w : Saver). w.reads_done) b.own) (ap (λ (w : Saver). w.running) b.own)
        (ap (λ (w : Saver). w.guarded) b.own) on

    loads_on : (row : WholeRow) → wanted x ≡ Some (Load (whole_place_of y.layout.pages row)) → ((word : ℕ) → IsUnmarked (after (Value word))) → Steps
    loads_on row wants unmarked q asked =
        let place : ℕ = whole_place_of y.layout.pages row in
        let word : ℕ = slice_index c.words place in
        asked_so c p z saver k x b (Load place) q wants asked
        (loads_so c p z saver k x b place (forgets_by c p z saver k x b (Value word) (less (after (Value word)) (unmarked word)) (keeps (after (Value word)))))

    -- a word is stored
    module _ (addr word : ℕ) (within : addr ≤ 128 * c.pages + 63) (unmarked : IsUnmarked (after Done))
        (wants : wanted x ≡ Some (Store (whole_place_of y.layout.pages (Within (HeapWord addr))) word)) where
      stores_sparing : Spares (table c) (saves c) z (team c).count saver (Some (WordIs addr word)) → Steps
      stores_sparing spares q asked =
          asked_so c p z saver k x b (Store (whole_place_of c.pages (Within (HeapWord addr))) word) q (wants ∙ ap (λ (n : ℕ). Some (Store (whole_place_of n (Within (HeapWord addr))) word)) pages) asked
          (stores_so c p z saver k x b (WordIs addr word) (stores_by c p z saver k x b (Some (WordIs addr word)) Done within spares (less (after Done) unmarked) (keeps (after Done))))

      stores_on : writes_on (placing stage) stage ≡ Some (page_of addr) → Steps
      stores_on on = stores_sparing (stores_are_spared (table c) (saves c) z (team c).count saver k addr word b.saving b.is.below (may_store (page_of addr) on))

    -- its stock
    has_stock : (stock : Stock) → ((team c).worker k).stock ≡ Some stock → HasStock (team c) k stock
    has_stock stock has = record { runs = ap (λ (w : Known). is_running w.post) b.is.as_known; has = has }

  -- ---- the area

  module _ (f : Fitting) (b : Before c p z saver k (at (ExchangesArea f))) where
    abbrev area : AreaWord
    area = area_after (words_for header) f

    area_fits : AreaFits area
    area_fits =
        let room = b.is.fits.stage.sound.stage in
        let n = b.is.fits.pages in let few = b.is.fits.counted in
        let small = small_room f.traced f.area in
        record { front_fits = omega (arith, room.kept, room.in_space, n, few); low_fits = omega (arith, room.in_space, n, few); owed_fits = omega (arith, room.owed, small) }

    exchanges_area : (q : Step) → wanted (at (ExchangesArea f)) ≡ Some q → SavesStep c p saver k (at (ExchangesArea f)) q
    exchanges_area q asked =
        let stage : PlaceStage = ExchangesArea f in
        let space : ℕ = to_space y.epoch in
        let old : ℕ = encode_area f.area in
        let e : Entry = AreaIs space area in
        let lost : Reply = Lost (slice_index c.words (whole_place_of c.pages (Within (Area space)))) in
        asked_so c p z saver k (at stage) b (Exchange (whole_place_of c.pages (Within (Area space))) old (encode_area area)) q
        (ap (λ (n : ℕ). Some (Exchange (whole_place_of n (Within (Area space))) old (encode_area area))) (pages stage b)) asked
        (exchanges_so c p z saver k (at stage) b e old (is_space y.epoch)
        (λ same. stores_by c p z saver k (at stage) b (Some e) Won (is_space y.epoch, area_fits) (SparesArea space area) (less stage b (after stage b Won) refl) (keeps stage b (after stage b Won)))
        (forgets_by c p z saver k (at stage) b lost (less stage b (after stage b lost) refl) (keeps stage b (after stage b lost))))

  -- ---- new pages

  module _ (new : NewPages) where
    stores_zero : (b : Before c p z saver k (at (StoresZero new))) → (q : Step) → wanted (at (StoresZero new)) ≡ Some q → SavesStep c p saver k (at (StoresZero new)) q
    stores_zero b =
        let stage : PlaceStage = StoresZero new in
        let f = b.is.fits.stage.sound.stage in
        let n = pages stage b in
        stores_sparing stage b new.next 0 (omega (arith, f, n)) (cleared_by (placing stage) new (nat_lt (new.next + 1) (new.first + words_for header))) refl
        (zeros_are_spared (table c) (saves c) z (team c) b.stands.ghost saver k (zeroed_to (placing stage) new) b.saving (prepared c p z saver k (at stage) b)
        (has_stock stage b (zeroed_to (placing stage) new) (ap (λ (w : Known). w.stock) b.is.as_known)) (omega (arith, f)))

    -- the page is the next one to open
    module _ (stage : PlaceStage) (b : Before c p z saver k (at stage)) (stock : ((team c).worker k).stock ≡ Some (opened_to (placing stage) new))
        (claimed : IsAtPage y.layout.pages (pages_for (size_of header)) new) where
      opens_next : OpensNext (team c) k (opened_to (placing stage) new) new.next
      opens_next = record { own = has_stock stage b (opened_to (placing stage) new) stock; blank = refl; at = refl; more = omega (arith, claimed) }

      page_within : new.next ≤ 2 * c.pages
      page_within = let n = pages stage b in omega (arith, claimed, n)

    -- it is marked
    stores_new : (b : Before c p z saver k (at (StoresNew new))) → (q : Step) → wanted (at (StoresNew new)) ≡ Some q → SavesStep c p saver k (at (StoresNew new)) q
    stores_new b q asked =
        let stage : PlaceStage = StoresNew new in
        let stock = ap (λ (w : Known). w.stock) b.is.as_known in
        let f = b.is.fits.stage.sound.stage in
        let begun = f.1 in
        let within = page_within stage b stock f.0 in
        let test : (y.snap == 0) ≡ false = ne_eqb y.snap 0 (λ none. omega (arith, begun, none)) in
        let e : Entry = SaveIs new.next (New y.snap) in
        let same : saver_marking (saver_of (at stage)) new.next ≡ saver_of (at (OpensPage new)) = rw test refl in
        asked_so c p z saver k (at stage) b (Store (whole_place_of c.pages (Behind (SaveOf new.next))) (encode_save (New y.snap))) q
        (ap (λ (n : ℕ). Some (Store (whole_place_of n (Behind (SaveOf new.next))) (encode_save (New y.snap)))) (pages stage b)) asked
        (stores_so c p z saver k (at stage) b e
        (kept_by c p z saver k (at stage) b (Some e) Done (within, b.is.fits.stage.sound.snap) refl
        (subst (λ (w : Saver). SavingStands (table c) (saves_after (saves c) (Some e)) z (team c).count (put saver k w)) (ap (λ (w : Saver). saver_marking w new.next) b.own ∙ same)
        (stock_pages_are_marked (table c) (saves c) z (team c) b.stands.ghost saver k new.next y.snap (opened_to (placing stage) new) b.saving (prepared c p z saver k (at stage) b)
        (opens_next stage b stock f.0) (own_recalled stage b) (own_snap stage b)))
        (keeps_snaps p k Silent tt)))

    -- it is opened
    module _ (b : Before c p z saver k (at (OpensPage new))) where
      may_open : (none : Bool) → (y.snap == 0) ≡ none → MayOpenNew (saver k) new.next
      may_open true test = OpensBeforeAll (own_recalled (OpensPage new) b) (own_snap (OpensPage new) b ∙ eqb-true y.snap 0 test)
      may_open false test = OpensMarked (ap (λ (w : Saver). w.marked) b.own ∙ ap (λ (t : Bool). cond t None (Some new.next)) test)

      opens_page : (q : Step) → wanted (at (OpensPage new)) ≡ Some q → SavesStep c p saver k (at (OpensPage new)) q
      opens_page q asked =
          let stage : PlaceStage = OpensPage new in
          let stock = ap (λ (w : Known). w.stock) b.is.as_known in
          let f = b.is.fits.stage.sound.stage in
          let e : Entry = PageIs new.next (Open y.epoch) in
          let spares : Spares (table c) (saves c) z (team c).count saver (Some e) =
          subst (λ (epoch : ℕ). Spares (table c) (saves c) z (team c).count saver (Some (PageIs new.next (Open epoch)))) (ap (λ (w : Known). w.epoch) b.is.as_known)
          (new_pages_are_spared (table c) (saves c) z (team c) b.stands.ghost saver k new.next (opened_to (placing stage) new) b.saving (prepared c p z saver k (at stage) b)
          (opens_next stage b stock f) (may_open (y.snap == 0) refl)) in
          asked_so c p z saver k (at stage) b (Store (whole_place_of c.pages (Within (Page new.next))) (encode_page (Open y.epoch))) q
          (ap (λ (n : ℕ). Some (Store (whole_place_of n (Within (Page new.next))) (encode_page (Open y.epoch)))) (pages stage b)) asked
          (stores_so c p z saver k (at stage) b e
          (stores_by c p z saver k (at stage) b (Some e) Done (page_within stage b stock f, b.is.fits.stage.sound.epoch) spares
          (less stage b (after stage b Done) (opened_by (placing stage) new _ (nat_lt (new.next + 1) (page_of new.first + pages_for (size_of header))))) (keeps stage b (after stage b Done))))

  -- ---- all stages

  by_stage : (stage : PlaceStage) → Before c p z saver k (at stage) → (q : Step) → wanted (at stage) ≡ Some q → SavesStep c p saver k (at stage) q
  by_stage LoadsTraced b = loads_on LoadsTraced b (Within Traced) refl (λ word. refl)
  by_stage (LoadsSize traced) b = loads_on (LoadsSize traced) b (Within (Size (to_space y.epoch))) refl (λ word. refl)
  by_stage (LoadsArea traced size) b =
      loads_on (LoadsArea traced size) b (Within (Area (to_space y.epoch))) refl (λ word. looked (placing (LoadsArea traced size)) traced size (decode_area word))
  by_stage (ExchangesArea f) b = exchanges_area f b
  by_stage (StoresZero new) b = stores_zero new b
  by_stage (StoresNew new) b = stores_new new b
  by_stage (OpensPage new) b = opens_page new b
  by_stage StoresCount b =
      let s = b.is.fits.stage.sound in
      let r = s.run in let f = s.stage in let n = pages StoresCount b in
      stores_on StoresCount b (run.at + 1) (number_word (fields_for y)) (omega (arith, r, f, n)) refl refl refl
  by_stage StoresTarget b =
      let s = b.is.fits.stage.sound in
      let r = s.run in let f = s.stage in let n = pages StoresTarget b in
      stores_on StoresTarget b (run.at + 1) (target_for y) (omega (arith, r, f, n)) refl refl refl
  by_stage StoresLink b =
      let s = b.is.fits.stage.sound in
      let r = s.run in let f = s.stage in let n = pages StoresLink b in
      stores_on StoresLink b (run.at + 2) 0 (omega (arith, r, f, n)) refl refl refl
  by_stage StoresHeader b =
      let s = b.is.fits.stage.sound in
      let r = s.run in let f = s.stage in let n = pages StoresHeader b in
      stores_on StoresHeader b run.at (encode (header_says header)) (omega (arith, r, f, n)) refl refl refl
  by_stage (Ended result) b = absurd b.is.fits.stage.going

module _ (c : Configuration) (p : Plain) (z : Frozen) (saver : ℕ → Saver) (k : ℕ) (y : Held) where
  pub places : (v : Placing) → Before c p z saver k (at_stage y (Places v)) → (q : Step) → wanted (at_stage y (Places v)) ≡ Some q → SavesStep c p saver k (at_stage y (Places v)) q
  places v b =
      let f = b.is.fits.stage in
      let same : v ≡ placing c p z saver k y v.run v.header v.stage =
      (λ i. record { layout = f.layout i; run = v.run; header = v.header; fields = f.fields i; epoch = f.epoch i; snap = f.snap i; target = f.target i; stage = v.stage }) in
      subst (λ (u : Placing). (q : Step) → wanted (at_stage y (Places u)) ≡ Some q → SavesStep c p saver k (at_stage y (Places u)) q) (sym same)
      (by_stage c p z saver k y v.run v.header v.stage (subst (λ (u : Placing). Before c p z saver k (at_stage y (Places u))) same b))
