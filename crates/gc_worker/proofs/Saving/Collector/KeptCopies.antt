-- The copy of a record keeps what is kept of checkpoints: none is in progress while an epoch is traced, so any word may be stored.
use Rattle.std.proofs.Common.{◌≡◌, ℕ, ◌+◌, ◌-◌, ◌*◌, ◌<◌, Option, None, Some, refl, sym, ap, subst, ◌∙◌, arith, true, false}
use Rattle.plain_state.specs.State.{Plain}
use Rattle.atom_store.specs.declared.step.Step.TheVariants.{Load, Store, Exchange}
use Rattle.atom_store.specs.declared.turn.Turn.{Turn}
use Rattle.atom_store.specs.declared.turn.Turn.TheVariants.{More, Finished}
use Rattle.heap_words.specs.Word.{busy_word, forward_word}
use Rattle.space_map.specs.declared.area_word.AreaWord.{AreaWord}
use Rattle.space_map.specs.AreaWord.{AreaFits, encode_area}
use Rattle.space_map.specs.Spaces.{to_space}
use Rattle.space_map.specs.Table.{Area, WeakHead, HeapWord, place_of}
use Rattle.forwarding.specs.declared.evac_stage.EvacStage.{EvacStage}
use Rattle.forwarding.specs.declared.evac_stage.EvacStage.TheVariants.{LoadsHeader, TakesHeader, LoadsArea, Announces, Reserves, StoresHeader, LoadsWord, StoresWord, StoresCross, StoresForward, LoadsWeak, StoresLink, TakesWeak, Clears, Ended}
use Rattle.forwarding.specs.declared.to.To.{To}
use Rattle.forwarding.specs.Evacuation.{Evacuation, area_past, front_of, link_of, size_of}
use Rattle.forwarding.specs.Soundness.{AreaHoldsCopy, IsSound}
use Rattle.forwarding.specs.Taken as evac_taken
use Rattle.page_scan.specs.Scanning.{Scanning}
use Rattle.heap_state.specs.Configuration.{Configuration, table, team}
use Rattle.heap_state.specs.Memory.Entries.{AnnounceIs, AreaIs, CrossIs, Entry, EntryFits, WeakIs, WordIs, row_of, whole_place_of, word_of}
use Rattle.heap_state.specs.Saving.Frozen.{Frozen}
use Rattle.heap_state.specs.Saving.Savers.{Saver, NoReads}
use Rattle.heap_state.specs.Known.{Known}
use Rattle.heap_laws.specs.Saving.Rounds.{KnowsNoMore}
use Rattle.heap_laws.specs.Saving.Rows.{Spares, SparesAnnounce, SparesArea, SparesCross, SparesWeak}
use Rattle.heap_laws.specs.Saving.Sparing.{AsksForCopy}
use Rattle.heap_laws.proofs.Saving.Sparing.{traced_words_are_spared}
use Rattle.gc_worker.specs.declared.stage.after.After.{After}
use Rattle.gc_worker.specs.declared.stage.back.Back.{Back}
use Rattle.gc_worker.specs.declared.stage.forwarding_register.ForwardingRegister.{ForwardingRegister}
use Rattle.gc_worker.specs.declared.stage.Stage.TheVariants.{Evacuates, Forwards}
use Rattle.gc_worker.specs.Steps.Turned.{Pointed, first_pointer, forwards_it, turned_register, with_copy}
use Rattle.gc_worker.specs.Steps.Wanted.{wanted}
use Rattle.gc_worker.specs.Workers.Held.{Held, at_stage}
use Rattle.gc_worker.specs.Workers.Knows.{found_in}
use Rattle.gc_worker.specs.Workers.Saves.{saver_of}
use Rattle.gc_worker.proofs.Saving.Frame.Forgetting.{IsForgetful, SavesSo}
use Rattle.gc_worker.proofs.Saving.Frame.Forgetting as by_row
use Rattle.gc_worker.proofs.Saving.Frame.Rounding.{copy_less}
use Rattle.gc_worker.proofs.Saving.Frame.Step.{Before, bare_knows_no_more, prepared, saves}
use Rattle.gc_worker.proofs.Stages.Copies.Hosts.{Host, ForScan, ForRegister, at, has_pages, is_sound, machine_at, quest_is, quest_with, wants_its}

-- ---- a late mutator that forwards its registers

-- what it holds of checkpoints
abbrev pub stopped_saver : (snap running : ℕ) → Saver
stopped_saver snap running = record {
  runs = false;
  asks = false;
  recalled = false;
  reads_done = false;
  snap = snap;
  running = running;
  settled = false;
  still = None;
  guarded = None;
  marked = None;
  save = None;
  reads = NoReads;
  round = None;
}

-- it knows nothing that it did not know
pub stopped_less : (snap running : ℕ) → KnowsNoMore (stopped_saver snap running) (stopped_saver snap running)
stopped_less snap running =
    bare_knows_no_more (stopped_saver snap running) (stopped_saver snap running)
    (record { settled = refl; still = refl; guarded = refl; marked = refl; save = refl; reads = refl; round = refl }) (λ is. absurd (cc)) refl

module _ (x : Held) (room : x.layout.checkpoints ≡ true) where
  -- it is stopped until it resumes
  abbrev Stops : Held → Type 0
  Stops y = saver_of y ≡ stopped_saver x.snap x.running

  forwards_stop : (w : ForwardingRegister) → Stops (at_stage x (Forwards w))
  forwards_stop w = rw room refl

  next_stops : (register to : ℕ) (after : After) (o : Option Pointed) → Stops (at_stage (with_copy x register to) (forwards_it (with_copy x register to) after o))
  next_stops register to after (Some q) = rw room refl
  next_stops register to after None = rw room refl

  turned_stops : (w : ForwardingRegister) (t : Turn To) → Stops (turned_register x w t)
  turned_stops w More = forwards_stop w
  turned_stops w (Finished to) = next_stops w.register to.0 w.after (first_pointer (with_copy x w.register to.0).registers (8 - (w.register + 1)) (w.register + 1))

  register_less : (v w : ForwardingRegister) (t : Turn To) → KnowsNoMore (saver_of (turned_register x w t)) (saver_of (at_stage x (Forwards v)))
  register_less v w t =
      subst (λ (u : Saver). KnowsNoMore (saver_of (turned_register x w t)) u) (sym (forwards_stop v))
      (subst (λ (u : Saver). KnowsNoMore u (stopped_saver x.snap x.running)) (sym (turned_stops w t)) (stopped_less x.snap x.running))

-- ---- whatever the copy is for

forgetful : (y : Held) (v : Evacuation) (o : Host) (stage : EvacStage) → y.layout.checkpoints ≡ true → IsForgetful (at y o v stage)
forgetful y v (ForScan s back) stage room = record {
  less = λ reply. let w : Evacuation = evac_taken.taken (machine_at y (ForScan s back) v stage) reply in copy_less (at y (ForScan s back) v stage) room back w s (evac_taken.told w.stage);
  quiet = λ reply. tt;
}
forgetful y v (ForRegister r after) stage room = record {
  less = λ reply.
      let w : Evacuation = evac_taken.taken (machine_at y (ForRegister r after) v stage) reply in
      register_less (at y (ForRegister r after) v stage) room (record { register = r; evac = machine_at y (ForRegister r after) v stage; after = after }) (record { register = r; evac = w; after = after }) (evac_taken.told w.stage);
  quiet = λ reply. tt;
}

-- the area past a copy fits its word
area_past_fits : (pages size : ℕ) (area : AreaWord) → AreaHoldsCopy pages size area → AreaFits (area_past size area)
area_past_fits pages size area holds =
    let below = holds.below_low in
    let low = holds.fits.low_fits in
    let owed = holds.fits.owed_fits in
    record { front_fits = omega arith; low_fits = low; owed_fits = omega arith }

module _ (c : Configuration) (p : Plain) (z : Frozen) (saver : ℕ → Saver) (k : ℕ) (y : Held) (v : Evacuation) (o : Host) where
  module _ (stage : EvacStage) (b : Before c p z saver k (at y o v stage)) where
    abbrev x : Held
    x = at y o v stage

    abbrev Owes : Type 0
    Owes = SavesSo c p saver k x

    forgets : IsForgetful x
    forgets = forgetful y v o stage b.room

    pages : v.layout.pages ≡ c.pages
    pages = has_pages y v c.pages c.mutators k o stage b.is.fits

    abbrev sound : IsSound (machine_at y o v stage)
    sound = is_sound y v c.pages c.mutators k o stage b.is.fits

    word_spared : (addr word : ℕ) → Spares (table c) (saves c) z (team c).count saver (Some (WordIs addr word))
    word_spared addr word =
        traced_words_are_spared (table c) (saves c) z (team c) b.stands.ghost saver k addr word b.saving (prepared c p z saver k x b)
        (AsksForCopy (quest_with y v o (found_in stage)) (ap (λ (w : Known). w.quest) b.is.as_known ∙ quest_is y v o stage))

    loads : (at : ℕ) → wanted x ≡ Some (Load at) → Owes
    loads at next = by_row.loads c p z saver k x b forgets at next

    -- the row is that of the heap
    stores : (e : Entry) → EntryFits c.pages e → Spares (table c) (saves c) z (team c).count saver (Some e)
        → wanted x ≡ Some (Store (whole_place_of v.layout.pages (row_of e)) (word_of e)) → Owes
    stores e fits spares next = by_row.stores c p z saver k x b forgets e fits spares (next ∙ ap (λ (n : ℕ). Some (Store (whole_place_of n (row_of e)) (word_of e))) pages)

    exchanges : (e : Entry) (old : ℕ) → EntryFits c.pages e → Spares (table c) (saves c) z (team c).count saver (Some e)
        → wanted x ≡ Some (Exchange (whole_place_of v.layout.pages (row_of e)) old (word_of e)) → Owes
    exchanges e old fits spares next =
        by_row.exchanges c p z saver k x b forgets e fits old (λ same. spares)
        (next ∙ ap (λ (n : ℕ). Some (Exchange (whole_place_of n (row_of e)) old (word_of e))) pages)

    stores_word : (addr word : ℕ) → addr < 128 * v.layout.pages → wanted x ≡ Some (Store (place_of v.layout.pages (HeapWord addr)) word) → Owes
    stores_word addr word inside next = stores (WordIs addr word) (let n = pages in omega (arith, n, inside)) (word_spared addr word) next

  -- ---- by its stage

  by_stage : (stage : EvacStage) (b : Before c p z saver k (at y o v stage)) → Owes stage b
  by_stage LoadsHeader b = loads LoadsHeader b (place_of v.layout.pages (HeapWord v.addr)) (wants_its y v o LoadsHeader)
  by_stage (TakesHeader kept) b =
      let inside = (sound (TakesHeader kept) b).addr in
      let n = pages (TakesHeader kept) b in
      exchanges (TakesHeader kept) b (WordIs v.addr (busy_word kept.len v.worker)) kept.word (omega (arith, inside, n)) (word_spared (TakesHeader kept) b v.addr (busy_word kept.len v.worker))
      (wants_its y v o (TakesHeader kept))
  by_stage (LoadsArea kept) b = loads (LoadsArea kept) b (place_of v.layout.pages (Area (to_space v.epoch))) (wants_its y v o (LoadsArea kept))
  by_stage (Announces kept area) b =
      stores (Announces kept area) b (AnnounceIs v.worker (front_of v.layout v.epoch area + 1)) (sound (Announces kept area) b).worker
      (SparesAnnounce v.worker (front_of v.layout v.epoch area + 1)) (wants_its y v o (Announces kept area))
  by_stage (Reserves kept area) b =
      exchanges (Reserves kept area) b (AreaIs (to_space v.epoch) (area_past (size_of kept) area)) (encode_area area)
      (omega arith, area_past_fits v.layout.pages (size_of kept) area (sound (Reserves kept area) b).fits.1)
      (SparesArea (to_space v.epoch) (area_past (size_of kept) area)) (wants_its y v o (Reserves kept area))
  by_stage (StoresHeader r) b =
      let inside = (sound (StoresHeader r) b).fits.inside in
      stores_word (StoresHeader r) b r.to r.kept.word (omega arith) (wants_its y v o (StoresHeader r))
  by_stage (LoadsWord r i) b = loads (LoadsWord r i) b (place_of v.layout.pages (HeapWord (v.addr + i))) (wants_its y v o (LoadsWord r i))
  by_stage (StoresWord r w) b =
      let inside = (sound (StoresWord r w) b).fits.0.inside in
      let within = (sound (StoresWord r w) b).fits.2 in
      stores_word (StoresWord r w) b (r.to + w.number) w.word (omega arith) (wants_its y v o (StoresWord r w))
  by_stage (StoresCross r page) b =
      let inside = (sound (StoresCross r page) b).fits.0.inside in
      let within = (sound (StoresCross r page) b).fits.2 in
      let n = pages (StoresCross r page) b in
      stores (StoresCross r page) b (CrossIs page r.to) (omega (arith, inside, within, n)) (SparesCross page r.to) (wants_its y v o (StoresCross r page))
  by_stage (StoresForward r) b = stores_word (StoresForward r) b v.addr (forward_word r.kept.len r.to) (sound (StoresForward r) b).addr (wants_its y v o (StoresForward r))
  by_stage (LoadsWeak to) b = loads (LoadsWeak to) b (place_of v.layout.pages WeakHead) (wants_its y v o (LoadsWeak to))
  by_stage (StoresLink to head) b = stores_word (StoresLink to head) b (link_of to) head (sound (StoresLink to head) b).fits.0 (wants_its y v o (StoresLink to head))
  by_stage (TakesWeak to head) b =
      let n = (sound (TakesWeak to head) b).pages in
      let inside = (sound (TakesWeak to head) b).fits.0 in
      exchanges (TakesWeak to head) b (WeakIs (to + 1)) head (omega (arith, n, inside)) (SparesWeak (to + 1)) (wants_its y v o (TakesWeak to head))
  by_stage (Clears to) b = stores (Clears to) b (AnnounceIs v.worker 0) (sound (Clears to) b).worker (SparesAnnounce v.worker 0) (wants_its y v o (Clears to))
  by_stage (Ended to) b = by_row.nothing c p z saver k (x (Ended to) b) b (forgets (Ended to) b) (wants_its y v o (Ended to))

module _ (c : Configuration) (p : Plain) (z : Frozen) (saver : ℕ → Saver) (k : ℕ) (x : Held) where
  -- for a word that is scanned
  pub evacuates : (v : Evacuation) (s : Scanning) (back : Back) → Before c p z saver k (at_stage x (Evacuates v s back)) → SavesSo c p saver k (at_stage x (Evacuates v s back))
  evacuates v s back b = by_stage c p z saver k x v (ForScan s back) v.stage b

  -- for a register that a late mutator forwards
  pub forwards : (w : ForwardingRegister) → Before c p z saver k (at_stage x (Forwards w)) → SavesSo c p saver k (at_stage x (Forwards w))
  forwards w b = by_stage c p z saver k x w.evac (ForRegister w.register w.after) w.evac.stage b
