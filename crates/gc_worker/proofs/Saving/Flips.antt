-- A flip keeps what is kept of checkpoints: who flips has found that none is in progress.
use Rattle.std.proofs.Common.{◌≡◌, ℕ, ◌+◌, inr, true, None, Some, refl, sym, ap, subst, ◌∙◌, arith, slice_index}
use Rattle.plain_state.specs.State.{Plain}
use Rattle.atom_store.specs.declared.reply.Reply.{Reply}
use Rattle.atom_store.specs.declared.reply.Reply.TheVariants.{Value, Done, Won, Lost}
use Rattle.atom_store.specs.declared.step.Step.TheVariants.{Load, Store, Exchange}
use Rattle.atom_store.specs.declared.turn.Turn.{Turn}
use Rattle.atom_store.specs.declared.turn.Turn.TheVariants.{More, Finished}
use Rattle.space_map.specs.GateWord.{encode_gate}
use Rattle.space_map.specs.Spaces.{to_space}
use Rattle.space_map.specs.Table.{Row, Area, Gate, Size, place_of}
use Rattle.gate_core.specs.declared.flip_stage.FlipStage.{FlipStage}
use Rattle.gate_core.specs.declared.flip_stage.FlipStage.TheVariants.{LoadsGate, LoadsSize, LoadsArea, StoresSize, StoresArea, ResetsWeak, Exchanges, Ended}
use Rattle.gate_core.specs.declared.flipped.Flipped.{Flipped}
use Rattle.gate_core.specs.declared.flipped.Flipped.TheVariants.{Went, NotYet}
use Rattle.gate_core.specs.declared.reset.Reset as resets
use Rattle.gate_core.specs.Flip.{Flipping, area_reset, gate_flipped, told}
use Rattle.gate_core.specs.Flip as flip
use Rattle.heap_state.specs.Configuration.{Configuration, table, team}
use Rattle.heap_state.specs.Functions.{put}
use Rattle.heap_state.specs.Memory.Entries.{Entry, AreaIs, EntryFits, GateIs, SizeIs, WeakIs, row_of, whole_place_of, word_of}
use Rattle.heap_state.specs.Saving.Frozen.{Frozen}
use Rattle.heap_state.specs.Saving.Parts.{SavingStands}
use Rattle.heap_state.specs.Saving.Savers.{Saver}
use Rattle.heap_state.specs.Known.{Reset}
use Rattle.heap_laws.specs.Lifting.{table_after}
use Rattle.heap_laws.specs.Saving.Rounds.{KnowsNoMore}
use Rattle.heap_laws.specs.Saving.Rows.{Spares, SparesArea, SparesSize, SparesWeak, saver_after_flip}
use Rattle.heap_laws.proofs.Lifting.Laws.{flips_are_lifted}
use Rattle.heap_laws.proofs.Saving.Passing.{flippers_keep_saving}
use Rattle.gc_worker.specs.declared.stage.Stage.TheVariants.{Flips}
use Rattle.gc_worker.specs.Steps.Turned.{Marks, Silent, told_flip, turned, turned_flip}
use Rattle.gc_worker.specs.Steps.Wanted.{wanted}
use Rattle.gc_worker.specs.Workers.Held.{Held, at_stage, has_seen_flip}
use Rattle.gc_worker.specs.Workers.Saves.{saver_of}
use Rattle.gc_worker.proofs.Saving.Frame.Answers.{keeps_snaps}
use Rattle.gc_worker.proofs.Saving.Collector.KeptCopies.{stopped_saver}
use Rattle.gc_worker.proofs.Saving.Frame.Forgetting.{SavesSo}
use Rattle.gc_worker.proofs.Saving.Frame.StepRows.{SavedBy, exchanges_so, forgets_by, kept_by, loads_so, stores_by, stores_so}
use Rattle.gc_worker.proofs.Saving.Mutators.KeptSaves.{asked_so}
use Rattle.gc_worker.proofs.Saving.Frame.Step.{Before, KeepsSnaps, prepared, saves}
use Rattle.gc_worker.proofs.Stages.Flip.Flipping as flipping_proofs
use Rattle.gc_worker.proofs.Stages.Flip.Resetting as resetting
use Rattle.gc_worker.proofs.Words.Areas.{is_space}

-- ---- what a worker holds of checkpoints while it flips

-- it holds the request, and has found that none is in progress
abbrev flip_saver : (snap running : ℕ) → Saver
flip_saver snap running = record (stopped_saver snap running) { asks = true; settled = true }

same_less : (snap running : ℕ) → KnowsNoMore (flip_saver snap running) (flip_saver snap running)
same_less snap running = record {
  recalled = λ is. absurd (cc);
  settled = λ is. (refl, refl, inr refl);
  still = λ gate is. absurd (cc);
  guarded = λ page is. absurd (cc);
  marked = λ page is. absurd (cc);
  save = refl;
  reads = inr refl;
  round = λ r is. absurd (cc);
}

flipped_less : (snap running : ℕ) → KnowsNoMore (stopped_saver snap running) (flip_saver snap running)
flipped_less snap running = record {
  recalled = λ is. absurd (cc);
  settled = λ is. absurd (cc);
  still = λ gate is. absurd (cc);
  guarded = λ page is. absurd (cc);
  marked = λ page is. absurd (cc);
  save = refl;
  reads = inr refl;
  round = λ r is. absurd (cc);
}

module _ (x : Held) (room : x.layout.checkpoints ≡ true) where
  abbrev Less : Held → Type 0
  Less y = KnowsNoMore (saver_of y) (flip_saver x.snap x.running)

  flips_on : (f : Flipping) → saver_of (at_stage x (Flips f)) ≡ flip_saver x.snap x.running
  flips_on f = rw room refl

  less : (f : Flipping) (t : Turn Flipped) → Less (turned_flip x f t)
  less f More = subst (λ (w : Saver). KnowsNoMore w (flip_saver x.snap x.running)) (sym (flips_on f)) (same_less x.snap x.running)
  less f (Finished (NotYet word)) = rw room (same_less x.snap x.running)
  less f (Finished (Went asked)) = rw room (flipped_less x.snap x.running)

-- a flip leaves the plain heap
keeps : (p : Plain) (k : ℕ) (t : Turn Flipped) → KeepsSnaps p k (told_flip t)
keeps p k More = keeps_snaps p k Silent tt
keeps p k (Finished (NotYet word)) = keeps_snaps p k Silent tt
keeps p k (Finished (Went asked)) = keeps_snaps p k (Marks asked) tt

-- ---- the steps

module _ (c : Configuration) (p : Plain) (z : Frozen) (saver : ℕ → Saver) (k : ℕ) (y : Held) (asked : ℕ) where
  abbrev flipping : FlipStage → Flipping
  flipping stage = record { layout = y.layout; epoch = y.epoch; asked = asked; seen = has_seen_flip y; stage = stage }

  abbrev at : FlipStage → Held
  at stage = at_stage y (Flips (flipping stage))

  module _ (stage : FlipStage) (b : Before c p z saver k (at stage)) where
    abbrev x : Held
    x = at stage

    abbrev Owes : Type 0
    Owes = SavesSo c p saver k x

    abbrev then : Reply → Flipping
    then reply = flip.taken (flipping stage) reply

    less_then : (reply : Reply) → KnowsNoMore (saver_of (turned x reply)) (saver_of x)
    less_then reply = subst (KnowsNoMore (saver_of (turned x reply))) (sym (flips_on x b.room (flipping stage))) (less x b.room (then reply) (told (then reply)))

    forgets : (reply : Reply) → SavedBy c p saver k x None reply
    forgets reply = forgets_by c p z saver k x b reply (less_then reply) (keeps p k (told (then reply)))

    loads : (row : Row) → wanted x ≡ Some (Load (place_of y.layout.pages row)) → Owes
    loads row wants q asks =
        let place : ℕ = place_of c.pages row in
        asked_so c p z saver k x b (Load place) q (wants ∙ ap (λ (n : ℕ). Some (Load (place_of n row))) b.is.fits.pages) asks
        (loads_so c p z saver k x b place (forgets (Value (slice_index c.words place))))

    stores : (e : Entry) → EntryFits c.pages e → Spares (table c) (saves c) z (team c).count saver (Some e)
        → wanted x ≡ Some (Store (whole_place_of y.layout.pages (row_of e)) (word_of e)) → Owes
    stores e fits spares wants q asks =
        asked_so c p z saver k x b (Store (whole_place_of c.pages (row_of e)) (word_of e)) q
        (wants ∙ ap (λ (n : ℕ). Some (Store (whole_place_of n (row_of e)) (word_of e))) b.is.fits.pages) asks
        (stores_so c p z saver k x b e (stores_by c p z saver k x b (Some e) Done fits spares (less_then Done) (keeps p k (told (then Done)))))

  -- ---- the other space

  abbrev other : ℕ
  other = to_space (y.epoch + 1)

  stores_size : (r : resets.Reset) → Before c p z saver k (at (StoresSize r)) → SavesSo c p saver k (at (StoresSize r))
  stores_size r b =
      let found = b.is.fits.stage.sound.stage in
      let next = resetting.next_within c p b.stands k y asked r found in
      let size = found.size in
      let n = b.is.fits.pages in
      stores (StoresSize r) b (SizeIs other r.next) (is_space (y.epoch + 1), omega (arith, next, size), omega (arith, next, n)) (SparesSize other r.next) refl

  stores_area : (r : resets.Reset) → Before c p z saver k (at (StoresArea r)) → SavesSo c p saver k (at (StoresArea r))
  stores_area r b =
      stores (StoresArea r) b (AreaIs other (area_reset r.next r.used)) (is_space (y.epoch + 1), resetting.fresh_fits c p b.stands k y asked r b.is)
      (SparesArea other (area_reset r.next r.used)) refl

  resets_weak : (r : resets.Reset) → Before c p z saver k (at (ResetsWeak r)) → SavesSo c p saver k (at (ResetsWeak r))
  resets_weak r b = stores (ResetsWeak r) b (WeakIs 0) (omega arith) (SparesWeak 0) refl

  -- ---- the exchange

  module _ (r : resets.Reset) (b : Before c p z saver k (at (Exchanges r))) where
    abbrev last : Held
    last = at (Exchanges r)

    abbrev entry : Entry
    entry = GateIs (gate_flipped r.gate)

    abbrev reset : Reset
    reset = record { read = r.gate; size = Some r.size; grown = Some r.next; used = Some r.used; sized = true; stored = true; cleared = true }

    flipped : saver_after_flip (saver_of last) ≡ saver_of (turned last Won)
    flipped = let room = b.room in rw room refl

    stands : SavingStands (table_after (table c) (Some entry)) (saves c) z (team c).count (put saver k (saver_of (turned last Won)))
    stands =
        subst (λ (w : Saver). SavingStands (table_after (table c) (Some entry)) (saves c) z (team c).count (put saver k w)) (ap saver_after_flip b.own ∙ flipped)
        (flippers_keep_saving (table c) (saves c) z (team c) b.stands.ghost saver k reset b.saving (prepared c p z saver k last b) b.posts
        (flipping_proofs.flips c p b.stands k y asked r b.is) (ap (λ (w : Saver). w.settled) b.own) (ap (λ (w : Saver). w.still) b.own))

    wins : SavedBy c p saver k last (Some entry) Won
    wins =
        kept_by c p z saver k last b (Some entry) Won
        (flips_are_lifted c p b.stands k reset b.is.below (flipping_proofs.flips c p b.stands k y asked r b.is)).fits refl stands (keeps_snaps p k (Marks asked) tt)

    exchanges_gate : SavesSo c p saver k last
    exchanges_gate q asks =
        asked_so c p z saver k last b (Exchange (place_of c.pages Gate) (encode_gate r.gate) (encode_gate (gate_flipped r.gate))) q
        (ap (λ (n : ℕ). Some (Exchange (place_of n Gate) (encode_gate r.gate) (encode_gate (gate_flipped r.gate)))) b.is.fits.pages) asks
        (exchanges_so c p z saver k last b entry (encode_gate r.gate) tt (λ same. wins) (forgets (Exchanges r) b (Lost (slice_index c.words (place_of c.pages Gate)))))

  by_stage : (stage : FlipStage) → Before c p z saver k (at stage) → SavesSo c p saver k (at stage)
  by_stage LoadsGate b = loads LoadsGate b Gate refl
  by_stage (LoadsSize gate) b = loads (LoadsSize gate) b (Size (to_space y.epoch)) refl
  by_stage (LoadsArea gate size) b = loads (LoadsArea gate size) b (Area (to_space y.epoch)) refl
  by_stage (StoresSize r) b = stores_size r b
  by_stage (StoresArea r) b = stores_area r b
  by_stage (ResetsWeak r) b = resets_weak r b
  by_stage (Exchanges r) b = exchanges_gate r b
  by_stage (Ended result) b = absurd b.is.fits.stage.going

pub flips : (c : Configuration) (p : Plain) (z : Frozen) (saver : ℕ → Saver) (k : ℕ) (x : Held) (f : Flipping)
    → Before c p z saver k (at_stage x (Flips f)) → SavesSo c p saver k (at_stage x (Flips f))
flips c p z saver k x f b =
    let fits = b.is.fits.stage in
    let same : f ≡ flipping c p z saver k x f.asked f.stage = (λ i. record { layout = fits.layout i; epoch = fits.epoch i; asked = f.asked; seen = fits.seen i; stage = f.stage }) in
    subst (λ (g : Flipping). SavesSo c p saver k (at_stage x (Flips g))) (sym same)
    (by_stage c p z saver k x f.asked f.stage (subst (λ (g : Flipping). Before c p z saver k (at_stage x (Flips g))) same b))
