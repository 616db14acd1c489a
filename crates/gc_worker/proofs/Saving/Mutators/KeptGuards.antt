-- The look before a write, and the save of its page: what their steps keep of checkpoints.
use Rattle.std.proofs.Common.{◌≡◌, ◌≢◌, ℕ, ◌+◌, ◌*◌, ◌<◌, ◌≤◌, ◌==◌, ◌⊎◌, inl, inr, Bool, true, false, cond, Option, None, Some, length, nat_lt, refl, sym, ap, subst, ◌∙◌, arith, slice_index}
use Rattle.std.proofs.lemmas.Bool.{eqb-true, ltb-true, ne_eqb}
use Rattle.std.proofs.lemmas.Option.{same_Some}
use Rattle.plain_state.specs.State.{Plain}
use Rattle.alloc_end.specs.declared.place_stage.PlaceStage.{PlaceStage}
use Rattle.alloc_end.specs.declared.place_stage.PlaceStage.TheVariants as place_stage
use Rattle.alloc_end.specs.Place as place
use Rattle.alloc_end.specs.Soundness.{IsSoundPlacing}
use Rattle.atom_store.specs.declared.reply.Reply.TheVariants.{Value}
use Rattle.atom_store.specs.declared.step.Step.{Step}
use Rattle.atom_store.specs.declared.step.Step.TheVariants.{Load}
use Rattle.space_map.specs.declared.save_word.SaveWord.{SaveWord}
use Rattle.space_map.specs.declared.save_word.SaveWord.TheVariants.{Unsaved, Saving, Saved, New}
use Rattle.space_map.specs.declared.spaces.TheConstants.{PAGE_WORDS}
use Rattle.space_map.specs.SaveWord.{decode_save, number_of}
use Rattle.space_map.specs.Spaces.{Layout, board_page, page_of}
use Rattle.space_map.specs.Table.{SaveOf}
use Rattle.space_map.specs.WholeTable.{Behind, whole_place_of}
use Rattle.heap_state.specs.Configuration.{Configuration, Stands, table, team, era}
use Rattle.heap_state.specs.Memory.Entries.{SaveIs}
use Rattle.heap_state.specs.Saving.Frozen.{Frozen}
use Rattle.heap_state.specs.Saving.Savers.{Saver}
use Rattle.heap_state.specs.Known.{Known, is_running}
use Rattle.heap_laws.specs.Saving.Pages.{SavesPages, FindsKept, FindsUnsaved, LooksAgain, EndsLook, WritesOn, WritesRecord, WritesBoard, WritesStock, IsOpenNow, saver_after_save, saver_guarded, saver_in_save}
use Rattle.heap_laws.specs.Saving.Rounds.{save_begun}
use Rattle.heap_laws.proofs.Saving.Pages.Writes.{says_are_found, written_pages_are_open}
use Rattle.page_saves.specs.declared.guard_stage.GuardStage.{GuardStage}
use Rattle.page_saves.specs.declared.guard_stage.GuardStage.TheVariants as guard_stage
use Rattle.page_saves.specs.declared.save_end.SaveEnd.TheVariants as save_end
use Rattle.page_saves.specs.declared.save_stage.SaveStage.{SaveStage}
use Rattle.page_saves.specs.declared.save_stage.SaveStage.TheVariants as save_stage
use Rattle.page_saves.specs.declared.save_state.SaveState.{SaveState}
use Rattle.page_saves.specs.declared.save_state.SaveState.TheVariants.{Waits, Copying, Kept, Past}
use Rattle.page_saves.specs.Guard.{Guarding, looked, looked_by, save_went, told_at}
use Rattle.page_saves.specs.Save.{PageSaving}
use Rattle.page_saves.specs.Save as save
use Rattle.page_saves.specs.SoundSave.{IsOwnSave}
use Rattle.page_saves.specs.SaveState.{state_of, state_within}
use Rattle.record_access.specs.declared.access_stage.AccessStage.{AccessStage}
use Rattle.record_access.specs.declared.access_stage.AccessStage.TheVariants.{StoresField, ExchangesField, StoresBoard, SwapsBoard}
use Rattle.record_access.specs.declared.field_access.FieldAccess.{FieldAccess}
use Rattle.gc_worker.specs.declared.stage.write.Write.{Write}
use Rattle.gc_worker.specs.declared.stage.write.Write.TheVariants.{OfAccess, OfPlace}
use Rattle.gc_worker.specs.declared.stage.Stage.TheVariants.{Guards}
use Rattle.record_access.specs.Access.{field_at}
use Rattle.record_access.specs.Access as access
use Rattle.gc_worker.specs.Steps.Turned.{turned, turned_guard, writes}
use Rattle.gc_worker.specs.Steps.Wanted.{wanted}
use Rattle.gc_worker.specs.Workers.Fits.{FitsGuard, FitsWrite}
use Rattle.gc_worker.specs.Workers.Held.{Held, at_stage}
use Rattle.gc_worker.specs.Workers.Knows.{access_at, known_access, knows, opened_at, stock_at}
use Rattle.gc_worker.specs.Workers.Saves.{marked_at, saver_at, saver_of, save_step}
use Rattle.gc_worker.proofs.Saving.Frame.StepRows.{SavedBy, loads_so}
use Rattle.gc_worker.proofs.Saving.Frame.Running.{running_saver}
use Rattle.gc_worker.proofs.Saving.Mutators.KeptSaves.{Comes, asked_so, saves_page, saving_by}
use Rattle.gc_worker.proofs.Saving.Frame.Step.{Before, SavesStep, prepared, saves}
use Rattle.gc_worker.proofs.Words.Eras.{board_is}
use Rattle.gc_worker.proofs.Workers.Guarded.{page_written}

-- ---- the page that is written

module _ (c : Configuration) (p : Plain) (s : Stands c p) (k : ℕ) (below : k < length c.workers) where
  abbrev It : Known
  It = (team c).worker k

  abbrev On : ℕ → Type 0
  On = WritesOn (era c) (team c) s.ghost k

  on_field : (f : FieldAccess) (page : ℕ) → It.access ≡ Some (known_access f) → It.opened ≡ Some (page_of (field_at f)) → page_of (field_at f) ≡ page → On page
  on_field f page accesses opened is =
      let knew = (s.invariant.workers k below).access (known_access f) accesses in
      WritesRecord f.at f.word (opened ∙ ap Some is) knew.stands knew.inside knew.word.1 is

  on_board : (n page : ℕ) → n ≡ c.pages → It.opened ≡ Some (board_page n) → board_page n ≡ page → On page
  on_board n page same opened is =
      let b = board_is c in
      let at : page_of (era c).board ≡ page = omega (arith, b, same, is) in
      WritesBoard (opened ∙ ap Some is) at

  -- a word of a record, or of the board, on a page that was found open
  access_writes : (l : Layout) (stage : AccessStage) (page : ℕ) → l.pages ≡ c.pages → It.access ≡ access_at stage → It.opened ≡ opened_at l stage
      → access.writes_on l stage ≡ Some page → On page
  access_writes l (StoresField f new) page same accesses opened on = on_field f page accesses opened (same_Some _ page on)
  access_writes l (ExchangesField f e old) page same accesses opened on = on_field f page accesses opened (same_Some _ page on)
  access_writes l (StoresBoard word new) page same accesses opened on = on_board l.pages page same opened (same_Some _ page on)
  access_writes l (SwapsBoard b old) page same accesses opened on = on_board l.pages page same opened (same_Some _ page on)
  access_writes l _ page same accesses opened on = absurd (cc)

  -- a word of a record that is new, in the mutator's run
  module _ (x : Held) (z : place.Placing) (runs : is_running It.post ≡ true) where
    place_writes : (stage : PlaceStage) (page : ℕ) → IsSoundPlacing (record z { stage = stage }) → It.stock ≡ stock_at x z stage → place.writes_on z stage ≡ Some page → On page
    place_writes place_stage.StoresCount page sound has on =
        let room = sound.stage in
        WritesStock _ (z.run.at + 1) (record { runs = runs; has = has }) (omega arith) (omega (arith, room)) (same_Some _ page on)
    place_writes place_stage.StoresTarget page sound has on =
        let room = sound.stage in
        WritesStock _ (z.run.at + 1) (record { runs = runs; has = has }) (omega arith) (omega (arith, room)) (same_Some _ page on)
    place_writes place_stage.StoresLink page sound has on =
        let room = sound.stage in
        WritesStock _ (z.run.at + 2) (record { runs = runs; has = has }) (omega arith) (omega (arith, room)) (same_Some _ page on)
    place_writes place_stage.StoresHeader page sound has on =
        let room = sound.stage in
        WritesStock _ z.run.at (record { runs = runs; has = has }) (omega arith) (omega (arith, room)) (same_Some _ page on)
    place_writes _ page sound has on = absurd (cc)

-- ---- where it writes then

unmarked : (z : place.Placing) (stage : PlaceStage) (page : ℕ) → place.writes_on z stage ≡ Some page → marked_at z stage ≡ None
unmarked z place_stage.StoresCount page on = refl
unmarked z place_stage.StoresTarget page on = refl
unmarked z place_stage.StoresLink page on = refl
unmarked z place_stage.StoresHeader page on = refl
unmarked z _ page on = absurd (cc)

module _ (x : Held) (room : x.layout.checkpoints ≡ true) (runs : (x.running == 0) ≡ false) where
  -- it has found the page saved or new
  abbrev writing : ℕ → Saver
  writing page = record (running_saver x.snap x.running) { guarded = Some page }

  writes_guarded : (write : Write) (page : ℕ) → page_written write ≡ Some page → saver_at x (writes write) ≡ writing page
  writes_guarded (OfAccess a) page on = rw (room, runs, on) refl
  writes_guarded (OfPlace z) page on = let none = unmarked z z.stage page on in rw (room, runs, on, none) refl

-- what SAVE says that is kept
kept_by : (says : SaveWord) (number : ℕ) → 0 < number → number_of says ≡ number → state_within says ≡ Kept → (says ≡ Saved number) ⊎ (says ≡ New number)
kept_by Unsaved number some same kept = absurd (omega (arith, some, same))
kept_by (Saving c worker) number some same kept = absurd (cc)
kept_by (Saved c) number some same kept = inl (ap Saved same)
kept_by (New c) number some same kept = inr (ap New same)

module _ (says : SaveWord) (number : ℕ) where
  -- of an earlier checkpoint
  waits_by : (earlier same : Bool) → cond earlier Waits (cond same (state_within says) Past) ≡ Waits → nat_lt (number_of says) number ≡ earlier → (nat_lt (number_of says) number ≡ true) ⊎ (state_within says ≡ Waits)
  waits_by true same is test = inl test
  waits_by false true is test = inr is
  waits_by false false is test = absurd (cc)

  never_waits : (says : SaveWord) → state_within says ≢ Waits
  never_waits Unsaved is = cc
  never_waits _ is = cc

  is_earlier : state_of says number ≡ Waits → number_of says < number
  is_earlier is = by (waits_by (nat_lt (number_of says) number) (number_of says == number) is refl)
    where
      by : (nat_lt (number_of says) number ≡ true) ⊎ (state_within says ≡ Waits) → number_of says < number
      by (inl test) = ltb-true (number_of says) number test
      by (inr is) = absurd (never_waits says is)

  kept_test : (earlier same : Bool) → cond earlier Waits (cond same (state_within says) Past) ≡ Kept → (number_of says == number) ≡ same → ((number_of says == number) ≡ true) × (state_within says ≡ Kept)
  kept_test true same is test = absurd (cc)
  kept_test false true is test = (test, is)
  kept_test false false is test = absurd (cc)

  is_kept : 0 < number → state_of says number ≡ Kept → (says ≡ Saved number) ⊎ (says ≡ New number)
  is_kept some is =
      let both = kept_test (nat_lt (number_of says) number) (number_of says == number) is refl in
      kept_by says number some (eqb-true (number_of says) number both.0) both.1

-- ---- the steps

module _ (c : Configuration) (p : Plain) (z : Frozen) (saver : ℕ → Saver) (k : ℕ) (y : Held) (write : Write) where
  abbrev at : Guarding → Held
  at g = at_stage y (Guards g write)

  on_page : (x : Held) (write : Write) (page : ℕ) → FitsWrite x write page → page_written write ≡ Some page
  on_page x (OfAccess a) page fits = fits.1
  on_page x (OfPlace p) page fits = fits.1

  module _ (g : Guarding) (b : Before c p z saver k (at g)) where
    abbrev own : FitsGuard (at g) g write
    own = b.is.fits.stage

    on : page_written write ≡ Some g.page
    on = on_page (at g) write g.page own.write

    mine : g.worker ≡ k
    mine = own.worker ∙ b.is.fits.number

    running : (saver k).running ≡ g.number
    running = ap (λ (w : Saver). w.running) b.own ∙ sym own.number

    runs : (y.running == 0) ≡ false
    runs = let some = own.runs in ne_eqb y.running 0 (λ none. omega (arith, some, none))

    recalled : (saver k).recalled ≡ true
    recalled = let room = b.room in ap (λ (w : Saver). w.recalled) b.own ∙ rw room refl

    some : 0 < (saver k).running
    some = let r = own.runs in let e = own.number in let s = running in omega (arith, r, e, s)

    written_by : (w : Write) → (team c).worker k ≡ knows (at_stage y (Guards g w)) → FitsWrite (at_stage y (Guards g w)) w g.page → WritesOn (era c) (team c) b.stands.ghost k g.page
    written_by (OfAccess a) known fits =
        access_writes c p b.stands k b.is.below y.layout a.stage g.page b.is.fits.pages (ap (λ (w : Known). w.access) known) (ap (λ (w : Known). w.opened) known)
        (subst (λ (l : Layout). access.writes_on l a.stage ≡ Some g.page) fits.0.layout fits.1)
    written_by (OfPlace q) known fits =
        place_writes c p b.stands k b.is.below y q (ap (λ (w : Known). is_running w.post) known) q.stage g.page fits.0.sound (ap (λ (w : Known). w.stock) known) fits.1

    is_open : IsOpenNow (table c) g.page
    is_open = written_pages_are_open (table c) (team c) b.stands.ghost k g.page (prepared c p z saver k (at g) b) (written_by write b.is.as_known own.write)

    pages : g.layout.pages ≡ c.pages
    pages = ap (λ (l : Layout). l.pages) own.layout ∙ b.is.fits.pages

    abbrev next : GuardStage → Held
    next stage = turned_guard (at g) (record g { stage = stage }) write (told_at stage)

    -- once the page is saved or new it writes there
    writes_now : saver_of (at_stage y (writes write)) ≡ record (running_saver y.snap y.running) { guarded = Some g.page }
    writes_now = writes_guarded y b.room runs write g.page on

  -- ---- the look

  module _ (layout : Layout) (page number worker : ℕ) where
    abbrev looking : Guarding
    looking = record { layout = layout; page = page; number = number; worker = worker; stage = guard_stage.Looks }

    module _ (b : Before c p z saver k (at looking)) where
      abbrev says : SaveWord
      says = (saves c).save page

      abbrev word : ℕ
      word = slice_index c.words (whole_place_of c.pages (Behind (SaveOf page)))

      within : page ≤ 2 * c.pages
      within = let low = b.is.fits.stage.sound.page in let n = pages looking b in omega (arith, low, n)

      said : decode_save word ≡ Some says
      said = says_are_found.loaded c.pages c.words page b.formed within

      before : saver k ≡ running_saver y.snap y.running
      before = let room = b.room in b.own ∙ rw room refl

      abbrev then : SaveState → Held
      then state = next looking b (looked_by looking says state)

      comes : (state : SaveState) → state_of says number ≡ state → turned (at looking) (Value word) ≡ then state
      comes state is = ap (λ (o : Option SaveWord). next looking b (looked looking o)) said ∙ ap then is

      becomes : (state : SaveState) → state_of says number ≡ state → (w : Saver) → saver_of (then state) ≡ w → SavesPages (table c) (saves c) z k (saver k) None w
          → SavedBy c p saver k (at looking) None (Value word)
      becomes state is w same does =
          saving_by c p z saver k (at looking) b None (Value word) w tt refl refl (ap saver_of (comes state is) ∙ same) does

      -- it looks again
      again : (state : SaveState) → state_of says number ≡ state → saver_of (then state) ≡ saver_of (at looking) → SavedBy c p saver k (at looking) None (Value word)
      again state is same = becomes state is (saver k) (same ∙ sym b.own) LooksAgain

      by_state : (state : SaveState) → state_of says number ≡ state → SavedBy c p saver k (at looking) None (Value word)
      by_state Waits is =
          let stands = is_open looking b in
          becomes Waits is (saver_in_save (saver k) (save_begun page number says)) (ap (λ (w : Saver). record w { save = Some (save_begun page number says) }) (sym b.own))
          (FindsUnsaved page number says (recalled looking b) (running looking b) (ap (λ (w : Saver). w.save) b.own) refl (is_earlier says number is) stands.is_of stands.opened)
      by_state Copying is = again Copying is refl
      by_state Past is = again Past is refl
      by_state Kept is =
          let r = running looking b in
          let s = some looking b in
          let kept : (says ≡ Saved (saver k).running) ⊎ (says ≡ New (saver k).running) =
          subst (λ (n : ℕ). (says ≡ Saved n) ⊎ (says ≡ New n)) (sym r) (is_kept says number (omega (arith, r, s)) is) in
          becomes Kept is (saver_guarded (saver k) page) (writes_now looking b ∙ ap (λ (w : Saver). record w { guarded = Some page }) (sym before))
          (FindsKept page says (recalled looking b) s refl kept)

      looks : (q : Step) → wanted (at looking) ≡ Some q → SavesStep c p saver k (at looking) q
      looks q asked =
          let place : ℕ = whole_place_of c.pages (Behind (SaveOf page)) in
          asked_so c p z saver k (at looking) b (Load place) q (ap (λ (n : ℕ). Some (Load (whole_place_of n (Behind (SaveOf page))))) (pages looking b)) asked
          (loads_so c p z saver k (at looking) b place (by_state (state_of says number) refl))

  -- ---- the save

  module _ (g : Guarding) (s : PageSaving) where
    abbrev saving : Guarding
    saving = record g { stage = guard_stage.Saves s }

    module _ (b : Before c p z saver k (at saving)) where
      abbrev after : SaveStage → Held
      after stage = next saving b (save_went (record s { stage = stage }) (save.told_at stage))

      abbrev it : IsOwnSave g.layout g.page g.number g.worker s
      it = b.is.fits.stage.sound.stage

      at_end : saver_guarded (saver_after_save (saver_of (at saving))) s.page ≡ record (running_saver y.snap y.running) { guarded = Some g.page }
      at_end = let room = b.room in let page = it.of_page in rw (room, page) refl

      ends : (saver k).save ≡ Some (save_step s true PAGE_WORDS None) → SavesPages (table c) (saves c) z k (saver k) (Some (SaveIs s.page (Saved s.number))) (saver_of (at_stage y (writes write)))
      ends holds =
          subst (SavesPages (table c) (saves c) z k (saver k) (Some (SaveIs s.page (Saved s.number))))
          (ap (λ (w : Saver). saver_guarded (saver_after_save w) s.page) b.own ∙ at_end ∙ sym (writes_now saving b))
          (EndsLook (save_step s true PAGE_WORDS None) holds refl refl (recalled saving b) (running saving b ∙ sym it.for_number))

      comes_by : (stage : SaveStage) → Comes c p z saver k (at saving) b s (it.in_layout ∙ b.is.fits.stage.layout) it.sound (it.by_worker ∙ mine saving b) (λ reply. refl) stage (after stage)
      comes_by (save_stage.Ended save_end.Saved) = ends
      comes_by _ = refl

      saves_it : (q : Step) → wanted (at saving) ≡ Some q → SavesStep c p saver k (at saving) q
      saves_it =
          saves_page c p z saver k (at saving) b s (it.in_layout ∙ b.is.fits.stage.layout) it.sound (it.by_worker ∙ mine saving b) (λ reply. refl) it.going refl
          (λ reply. comes_by (save.next_stage s.stage reply)) refl

  by_stage : (g : Guarding) (stage : GuardStage) → Before c p z saver k (at (record g { stage = stage })) → (q : Step) → wanted (at (record g { stage = stage })) ≡ Some q
      → SavesStep c p saver k (at (record g { stage = stage })) q
  by_stage g guard_stage.Looks b = looks g.layout g.page g.number g.worker b
  by_stage g (guard_stage.Saves s) b = saves_it g s b
  by_stage g (guard_stage.Ended result) b = absurd b.is.fits.stage.going

  pub guards : (g : Guarding) → Before c p z saver k (at g) → (q : Step) → wanted (at g) ≡ Some q → SavesStep c p saver k (at g) q
  guards g b = by_stage g g.stage b
