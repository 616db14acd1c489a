-- An access keeps what is kept of checkpoints: a word is stored only on a page that is saved or new, or if no checkpoint was in
-- progress when the mutator began to run.
use Rattle.std.proofs.Common.{◌≡◌, ℕ, ◌+◌, ◌*◌, ◌<◌, ◌≤◌, ◌==◌, Bool, true, false, cond, Option, None, Some, refl, sym, ap, subst, ◌∙◌, arith, slice_index}
use Rattle.std.proofs.lemmas.Bool.{eqb-true}
use Rattle.plain_state.specs.State.{Plain}
use Rattle.plain_heap.specs.declared.action.Action.{Action}
use Rattle.plain_heap.specs.declared.action.Action.TheVariants.{Snaps}
use Rattle.atom_store.specs.declared.reply.Reply.{Reply}
use Rattle.atom_store.specs.declared.reply.Reply.TheVariants.{Value, Done, Won, Lost}
use Rattle.atom_store.specs.declared.step.Step.{Step}
use Rattle.atom_store.specs.declared.step.Step.TheVariants.{Load, Store, Exchange}
use Rattle.space_map.specs.Spaces.{board_page, page_of}
use Rattle.space_map.specs.Table.{HeapWord, place_of}
use Rattle.fault_duty.specs.declared.caller.Caller.TheVariants as callers
use Rattle.fault_duty.specs.Duty as duty
use Rattle.heap_state.specs.Configuration.{Configuration, table, team}
use Rattle.heap_state.specs.Memory.Entries.{Entry, WordIs}
use Rattle.heap_state.specs.Saving.Frozen.{Frozen}
use Rattle.heap_state.specs.Saving.Savers.{Saver}
use Rattle.heap_laws.specs.Saving.Rounds.{KnowsNoMore}
use Rattle.heap_laws.specs.Saving.Rows.{Spares}
use Rattle.heap_laws.specs.Saving.Sparing.{MayStoreOn, StoresAtRest, StoresGuarded}
use Rattle.heap_laws.proofs.Saving.Sparing.{stores_are_spared}
use Rattle.record_access.specs.declared.access.Access.{Access}
use Rattle.record_access.specs.declared.access_stage.AccessStage.{AccessStage}
use Rattle.record_access.specs.declared.access_stage.AccessStage.TheVariants.{LooksAtField, StoresField, ExchangesField, StoresBoard, SwapsBoard}
use Rattle.record_access.specs.declared.accessed.Accessed.TheVariants.{Faults, Awaits, Brings, Stored, Fails}
use Rattle.gc_worker.specs.declared.stage.after.After.TheVariants as afters
use Rattle.gc_worker.specs.declared.stage.back.Back.TheVariants.{ToAccess, ToTarget}
use Rattle.gc_worker.specs.declared.stage.Stage.TheVariants.{Accesses, Serves}
use Rattle.gc_worker.specs.declared.task.Task.{Task}
use Rattle.record_access.specs.Access.{Answered, GoesTo, WaitsAt, Comes, answered, board_at, field_at, goes_by, turn_by, writes_on}
use Rattle.gc_worker.specs.Steps.Access.{IsAccessOf}
use Rattle.record_access.specs.Access as access
use Rattle.gc_worker.specs.Steps.Turned.{Silent, ended, guards_access, loads, serves_target, told_access, told_effect, told_end, turned_access, went_on}
use Rattle.gc_worker.specs.Steps.Wanted.{wanted}
use Rattle.gc_worker.specs.Workers.Held.{Held, at_stage}
use Rattle.gc_worker.specs.Workers.Saves.{saver_at, saver_of}
use Rattle.gc_worker.proofs.Plain.OnlySnap.{is_snaps}
use Rattle.gc_worker.proofs.Saving.Frame.Answers.{IsNoSnap, keeps_snaps, no_snap_effect, no_snap_end}
use Rattle.gc_worker.proofs.Saving.Frame.Rounding.{same_still}
use Rattle.gc_worker.proofs.Saving.Frame.StepRows.{exchanges_so, forgets_by, loads_so, stores_by, stores_so}
use Rattle.gc_worker.proofs.Saving.Frame.Running.{running_saver, runs_forgetting, accesses_run, leaves_run, looks_run}
use Rattle.gc_worker.proofs.Saving.Mutators.KeptSaves.{asked_so}
use Rattle.gc_worker.proofs.Saving.Frame.Step.{Before, KeepsSnaps, SavesStep, saves}

-- ---- what comes of it

-- no access is that of `snap`
never_snaps : (stage : AccessStage) → IsAccessOf Snaps stage → ⊥
never_snaps (LooksAtField f usage) is = is
never_snaps (ExchangesField f e old) is = is.0
never_snaps _ is = first_of (assumption, cc)

differs : (act : Action) (stage : AccessStage) → IsAccessOf act stage → is_snaps act ≡ false
differs Snaps stage is = absurd (never_snaps stage is)
differs _ stage is = refl

-- to the plain machine it is its task's effect or end
keeps_by : (p : Plain) (k : ℕ) (task : Option Task) (o : Answered) → IsNoSnap (told_effect task) → KeepsSnaps p k (told_access task (turn_by o))
keeps_by p k task (Comes (Brings into word)) other = keeps_snaps p k (told_effect task) other
keeps_by p k task (Comes Stored) other = keeps_snaps p k (told_effect task) other
keeps_by p k task (Comes (Fails why)) other = keeps_snaps p k (told_end task why) (no_snap_end task why)
keeps_by p k task _ other = keeps_snaps p k Silent tt

module _ (x : Held) (room : x.layout.checkpoints ≡ true) (a : Access) where
  -- a mutator that runs then
  runs_then : (w : Saver) → w ≡ running_saver x.snap x.running → KnowsNoMore w (saver_at x (Accesses a))
  runs_then w same =
      subst (λ (v : Saver). KnowsNoMore v (saver_at x (Accesses a))) (sym same) (runs_forgetting (saver_at x (Accesses a)) x.snap x.running (rw room refl) refl refl refl refl)

  -- one that waits to load the target of a cell
  waits_so : (next : Access) → KnowsNoMore (saver_at x (serves_target x next)) (saver_at x (Accesses a))
  waits_so next = runs_then (saver_at x (serves_target x next)) (rw room refl)

  faulted : (page : ℕ) (target : Bool)
      → KnowsNoMore (saver_at x (Serves (duty.begun x.layout (callers.Faulted page) x.epoch x.number) (cond target (ToTarget a) (ToAccess a)))) (saver_at x (Accesses a))
  faulted page true = runs_then (saver_at x (Serves (duty.begun x.layout (callers.Faulted page) x.epoch x.number) (ToTarget a))) (rw room refl)
  faulted page false = same_still x room (ToAccess a)

  -- what it knows of checkpoints then it knew
  accessed : (o : Answered) → KnowsNoMore (saver_of (turned_access x (goes_by a o) (turn_by o))) (saver_at x (Accesses a))
  accessed (GoesTo stage) = runs_then (saver_at x (guards_access x (access.at_stage a stage))) (accesses_run x room (access.at_stage a stage))
  accessed (WaitsAt stage) = waits_so (access.at_stage a stage)
  accessed (Comes (Faults page)) = faulted page (access.is_at_target a.stage)
  accessed (Comes Awaits) = waits_so a
  accessed (Comes (Brings into word)) = runs_then (saver_of (loads x into word)) (looks_run (loads x into word) room)
  accessed (Comes Stored) = runs_then (saver_of (went_on x)) (looks_run (went_on x) room)
  accessed (Comes (Fails why)) = runs_then (saver_of (ended x why)) (leaves_run x room afters.Looks)

-- ---- the steps

module _ (c : Configuration) (p : Plain) (z : Frozen) (saver : ℕ → Saver) (k : ℕ) (y : Held) where
  abbrev own : AccessStage → Access
  own stage = record { spaces = y.layout; epoch = y.epoch; stage = stage }

  abbrev at : AccessStage → Held
  at stage = at_stage y (Accesses (own stage))

  module _ (stage : AccessStage) (b : Before c p z saver k (at stage)) where
    abbrev x : Held
    x = at stage

    abbrev Steps : Type 0
    Steps = (q : Step) → wanted x ≡ Some q → SavesStep c p saver k x q

    recalled : (saver_of x).recalled ≡ true
    recalled = let room = b.room in rw room refl

    -- the page on which it writes is saved or new, or no checkpoint was in progress
    may_store : (page : ℕ) → writes_on y.layout stage ≡ Some page → (none : Bool) → (y.running == 0) ≡ none → MayStoreOn (saver k) page
    may_store page on true test =
        StoresAtRest (ap (λ (w : Saver). w.recalled) b.own ∙ recalled) (ap (λ (w : Saver). w.reads_done) b.own) (ap (λ (w : Saver). w.running) b.own ∙ eqb-true y.running 0 test)
    may_store page on false test =
        StoresGuarded (ap (λ (w : Saver). w.guarded) b.own ∙ ap (λ (t : Bool). cond t None (writes_on y.layout stage)) test ∙ on)

    less : (o : Answered) → KnowsNoMore (saver_of (turned_access x (goes_by (own stage) o) (turn_by o))) (saver_of x)
    less o = accessed y b.room (own stage) o

    keeps : (o : Answered) → KeepsSnaps p k (told_access y.task (turn_by o))
    keeps o =
        let task = b.is.fits.task in
        keeps_by p k y.task o (no_snap_effect y.account y.registers y.task task.act task.executes (differs task.act stage task.is))

    loads_on : (place : ℕ) → wanted x ≡ Some (Load place) → Steps
    loads_on place wants q asked =
        let reply : Reply = Value (slice_index c.words place) in
        asked_so c p z saver k x b (Load place) q wants asked
        (loads_so c p z saver k x b place (forgets_by c p z saver k x b reply (less (answered (own stage) reply)) (keeps (answered (own stage) reply))))

    module _ (addr new : ℕ) (on : writes_on y.layout stage ≡ Some (page_of addr)) (within : addr ≤ 128 * c.pages + 63) where
      abbrev entry : Entry
      entry = WordIs addr new

      spares : Spares (table c) (saves c) z (team c).count saver (Some entry)
      spares = stores_are_spared (table c) (saves c) z (team c).count saver k addr new b.saving b.is.below (may_store (page_of addr) on (y.running == 0) refl)

      stores_on : wanted x ≡ Some (Store (place_of y.layout.pages (HeapWord addr)) new) → Steps
      stores_on wants q asked =
          asked_so c p z saver k x b (Store (place_of c.pages (HeapWord addr)) new) q (wants ∙ ap (λ (n : ℕ). Some (Store (place_of n (HeapWord addr)) new)) b.is.fits.pages) asked
          (stores_so c p z saver k x b entry (stores_by c p z saver k x b (Some entry) Done within spares (less (answered (own stage) Done)) (keeps (answered (own stage) Done))))

      exchanges_on : (old : ℕ) → wanted x ≡ Some (Exchange (place_of y.layout.pages (HeapWord addr)) old new) → Steps
      exchanges_on old wants q asked =
          let lost : Reply = Lost (slice_index c.words (place_of c.pages (HeapWord addr))) in
          asked_so c p z saver k x b (Exchange (place_of c.pages (HeapWord addr)) old new) q (wants ∙ ap (λ (n : ℕ). Some (Exchange (place_of n (HeapWord addr)) old new)) b.is.fits.pages) asked
          (exchanges_so c p z saver k x b entry old within
          (λ same. stores_by c p z saver k x b (Some entry) Won within spares (less (answered (own stage) Won)) (keeps (answered (own stage) Won)))
          (forgets_by c p z saver k x b lost (less (answered (own stage) lost)) (keeps (answered (own stage) lost))))

    -- a field lies in the heap, and a word of the board on its page
    field_within : (addr : ℕ) → access.IsHeapAddress y.layout.pages addr → addr ≤ 128 * c.pages + 63
    field_within addr inside = let n = b.is.fits.pages in omega (arith, inside, n)

    board_within : (word : ℕ) → word < 16 → board_at y.layout word ≤ 128 * c.pages + 63
    board_within word small = let n = b.is.fits.pages in omega (arith, small, n)

  on_board : (word : ℕ) → word < 16 → Some (board_page y.layout.pages) ≡ Some (page_of (board_at y.layout word))
  on_board word small = let same : board_page y.layout.pages ≡ page_of (board_at y.layout word) = omega (arith, small) in ap Some same

  by_stage : (stage : AccessStage) → Before c p z saver k (at stage) → (q : Step) → wanted (at stage) ≡ Some q → SavesStep c p saver k (at stage) q
  by_stage (StoresField f new) b = let inside = b.is.fits.stage.sound.stage in stores_on (StoresField f new) b (field_at f) new refl (field_within (StoresField f new) b (field_at f) inside) refl
  by_stage (ExchangesField f e old) b =
      let inside = b.is.fits.stage.sound.stage.0 in exchanges_on (ExchangesField f e old) b (field_at f) e.new refl (field_within (ExchangesField f e old) b (field_at f) inside) old refl
  by_stage (StoresBoard word new) b =
      let small = b.is.fits.stage.sound.stage in stores_on (StoresBoard word new) b (board_at y.layout word) new (on_board word small) (board_within (StoresBoard word new) b word small) refl
  by_stage (SwapsBoard s old) b =
      let small = b.is.fits.stage.sound.stage.0 in exchanges_on (SwapsBoard s old) b (board_at y.layout s.word) s.new (on_board s.word small) (board_within (SwapsBoard s old) b s.word small) old refl
  by_stage stage b = loads_on stage b _ refl

  pub accesses : (a : Access) → Before c p z saver k (at_stage y (Accesses a)) → (q : Step) → wanted (at_stage y (Accesses a)) ≡ Some q → SavesStep c p saver k (at_stage y (Accesses a)) q
  accesses a b =
      let same : a ≡ own a.stage = (λ i. record { spaces = b.is.fits.stage.layout i; epoch = b.is.fits.stage.epoch i; stage = a.stage }) in
      subst (λ (v : Access). (q : Step) → wanted (at_stage y (Accesses v)) ≡ Some q → SavesStep c p saver k (at_stage y (Accesses v)) q) (sym same)
      (by_stage a.stage (subst (λ (v : Access). Before c p z saver k (at_stage y (Accesses v))) same b))
