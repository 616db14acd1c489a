-- The look before a write by a lone mutator, and the save of its page: nobody else saves the page, so it writes in the end.
use Rattle.std.proofs.Common.{◌≡◌, ℕ, ◌+◌, ◌*◌, ◌<◌, ◌≤◌, Bool, true, false, cond, Option, Some, nat_lt, refl, sym, ap, subst, ◌∙◌, arith}
use Rattle.plain_state.specs.State.{Plain}
use Rattle.atom_store.specs.declared.step.Step.TheVariants.{Load}
use Rattle.alloc_end.specs.declared.place_stage.PlaceStage.{PlaceStage}
use Rattle.alloc_end.specs.declared.place_stage.PlaceStage.TheVariants.{LoadsTraced}
use Rattle.alloc_end.specs.Place.{Placing}
use Rattle.space_map.specs.declared.save_word.SaveWord.{SaveWord}
use Rattle.space_map.specs.declared.save_word.SaveWord.TheVariants as save_word
use Rattle.space_map.specs.declared.spaces.TheConstants.{PAGE_WORDS}
use Rattle.space_map.specs.SaveWord.{number_of}
use Rattle.space_map.specs.Spaces.{Layout}
use Rattle.space_map.specs.Table.{SaveOf}
use Rattle.space_map.specs.WholeTable.{Behind, whole_place_of}
use Rattle.heap_state.specs.Configuration.{Configuration, Stands, table}
use Rattle.heap_state.specs.Functions.{put}
use Rattle.heap_state.specs.Memory.Table.{Table}
use Rattle.heap_state.specs.Saving.Words.{Saves}
use Rattle.heap_laws.proofs.Saving.Pages.Writes.{says_are_found}
use Rattle.page_saves.specs.declared.guard_stage.GuardStage.{GuardStage}
use Rattle.page_saves.specs.declared.guard_stage.GuardStage.TheVariants as guard_stage
use Rattle.page_saves.specs.declared.save_stage.SaveStage.{SaveStage}
use Rattle.page_saves.specs.declared.save_stage.SaveStage.TheVariants as save_stage
use Rattle.page_saves.specs.declared.save_state.SaveState.{SaveState}
use Rattle.page_saves.specs.declared.save_state.SaveState.TheVariants.{Waits, Copying, Kept, Past}
use Rattle.page_saves.specs.Guard.{Guarding, left_at, looked, looked_by, save_went, told_at}
use Rattle.page_saves.specs.Save.{PageSaving, word_of_page}
use Rattle.page_saves.specs.Save as save
use Rattle.page_saves.specs.SoundSave.{IsOwnSave}
use Rattle.page_saves.specs.SaveState.{state_of}
use Rattle.gc_worker.specs.declared.stage.write.Write.{Write}
use Rattle.gc_worker.specs.declared.stage.write.Write.TheVariants.{OfAccess, OfPlace}
use Rattle.gc_worker.specs.declared.stage.Stage.{Stage}
use Rattle.gc_worker.specs.declared.stage.Stage.TheVariants.{Guards, Places}
use Rattle.gc_worker.specs.Steps.Turned.{turned_guard, writes}
use Rattle.gc_worker.specs.Workers.Fits.{FitsGuard}
use Rattle.gc_worker.specs.Workers.Held.{Held, at_stage}
use Rattle.gc_worker.specs.Workers.Saves.{saver_of}
use Rattle.lone_mutator.specs.Law.{IsAlone, Lowers, Pays, SavesStand, StepsLower, said, saves}
use Rattle.lone_mutator.specs.Lone.{GuardStands, NobodyElseAnnounces, Remembers, WriteStands}
use Rattle.lone_mutator.specs.Potential.{due_in, place_left, potential_in, size_in, write_left}
use Rattle.lone_mutator.specs.Saving.{saving_in}
use Rattle.lone_mutator.proofs.Epochs.SavedPages.{none_later, none_saves, saving_in-images}
use Rattle.lone_mutator.proofs.Epochs.CheckpointDebt.{saving_in-kept}
use Rattle.lone_mutator.proofs.Stages.SaveCosts.{OwesSave, saves_page}
use Rattle.lone_mutator.proofs.Steps.Owed.{loads_any, wants}

-- ---- the write behind it

-- it is as dear at each stage of the look
module _ (n size : ℕ) (y : Held) (a b : Stage) where
  same_place : (z : Placing) (stage : PlaceStage) → place_left n size (at_stage y a) z stage ≡ place_left n size (at_stage y b) z stage
  same_place z LoadsTraced = refl
  same_place z _ = refl

  same_write : (write : Write) → write_left n size (at_stage y a) write ≡ write_left n size (at_stage y b) write
  same_write (OfAccess z) = refl
  same_write (OfPlace z) = same_place z z.stage

-- it remembers what is so once it writes, and that costs no more
module _ (n : ℕ) (s : Saves) (t : Table) (y : Held) (began : y.begun ≤ y.epoch) (quiet : NobodyElseAnnounces t.announced false) where
  writes_so : (write : Write) → WriteStands t write → Remembers t s (at_stage y (writes write))
  writes_so (OfAccess a) stands = record { began = λ past. began; quiet = quiet; stands = stands }
  writes_so (OfPlace z) stands = record { began = λ past. began; quiet = quiet; stands = stands }

  writes_cost : (write : Write) (g : Guarding) → potential_in n t (at_stage y (writes write)) ≡ write_left n (size_in t) (at_stage y (Guards g write)) write + due_in n t
  writes_cost (OfAccess a) g = refl
  writes_cost (OfPlace z) g = ap (λ (left : ℕ). left + due_in n t) (same_place n (size_in t) y (Places z) (Guards g (OfPlace z)) z z.stage)

module _ (c : Configuration) (p : Plain) (s : Stands c p) (y : Held) (write : Write) where
  abbrev at : Guarding → Held
  at g = at_stage y (Guards g write)

  -- ---- with each step that takes it on

  module _ (g : Guarding) (a : IsAlone c (at g)) where
    abbrev own : FitsGuard (at g) g write
    own = a.is.fits.stage

    stands : SavesStand c (at g)
    stands = a.stands own.room

    pages : g.layout.pages ≡ c.pages
    pages = ap (λ (l : Layout). l.pages) own.layout ∙ a.is.fits.pages

    -- the look is for the last checkpoint begun
    last : g.number ≡ (saves c).snap
    last =
        let room = own.room in
        let recalled : (saver_of (at g)).recalled ≡ true = rw room refl in
        own.number ∙ ((stands.knows.recalls recalled).one own.runs).0

    abbrev next : GuardStage → Held
    next stage = turned_guard (at g) (record g { stage = stage }) write (told_at stage)

    guards_on : (then : Saves) (stage : GuardStage) → GuardStands then stage → left_at stage < left_at g.stage
        → Lowers c.pages then (table c) (table c) (at g) (at (record g { stage = stage }))
    guards_on then stage so fewer = record {
      remembers = record { began = a.remembers.began; quiet = a.remembers.quiet; stands = (so, a.remembers.stands.1) };
      falls = (let same = same_write c.pages (size_in (table c)) y (Guards (record g { stage = stage }) write) (Guards g write) write in omega (arith, same, fewer));
    }

    lowers : (then : Saves) (stage : GuardStage) → GuardStands then stage → left_at stage < left_at g.stage → Lowers c.pages then (table c) (table c) (at g) (next stage)
    lowers then guard_stage.Looks so fewer = guards_on then guard_stage.Looks so fewer
    lowers then (guard_stage.Saves v) so fewer = guards_on then (guard_stage.Saves v) so fewer
    lowers then (guard_stage.Ended result) so fewer = record {
      remembers = writes_so c.pages then (table c) y (a.remembers.began tt) a.remembers.quiet write a.remembers.stands.1;
      falls = (let cost = writes_cost c.pages then (table c) y (a.remembers.began tt) a.remembers.quiet write g in omega (arith, cost, fewer));
    }

    pays : (then : Saves) (stage : GuardStage) → GuardStands then stage → left_at stage < left_at g.stage
        → saving_in y.layout.checkpoints c.pages then ≤ saving_in y.layout.checkpoints c.pages (saves c)
        → Pays c.pages y.layout.checkpoints (said c.pages c.words) (record { table = table c; saves = then }) (at g) (next stage)
    pays then stage so fewer least =
        let l = lowers then stage so fewer in
        record { remembers = l.remembers; falls = (let falls = l.falls in omega (arith, falls, least)) }

  -- ---- the look

  module _ (layout : Layout) (page number worker : ℕ) where
    abbrev looking : Guarding
    looking = record { layout = layout; page = page; number = number; worker = worker; stage = guard_stage.Looks }

    module _ (a : IsAlone c (at looking)) where
      abbrev says : SaveWord
      says = (saves c).save page

      within : page ≤ 2 * c.pages
      within = let low = a.is.fits.stage.sound.page in let n = pages looking a in omega (arith, low, n)

      abbrev Looks_so : GuardStage → Type 0
      Looks_so stage = Lowers c.pages (saves c) (table c) (table c) (at looking) (next looking a stage)

      by_state : (state : SaveState) → state_of says number ≡ state → Looks_so (looked_by looking says state)
      by_state Waits is = lowers looking a (saves c) (guard_stage.Saves (save.begun layout page says number worker)) refl (omega arith)
      by_state Kept is = lowers looking a (saves c) (guard_stage.Ended (record {})) tt (omega arith)
      by_state Copying is = absurd (none_saves c (at looking) (stands looking a) page number refl is)
      by_state Past is = absurd (none_later c (at looking) (stands looking a) page number (last looking a) is)

      looks : StepsLower c (at looking)
      looks =
          wants c p s (at looking) (Load (whole_place_of c.pages (Behind (SaveOf page)))) (ap (λ (n : ℕ). Some (Load (whole_place_of n (Behind (SaveOf page))))) (pages looking a))
          (loads_any c p s (at looking) (Behind (SaveOf page)) within
          (subst (λ (o : Option SaveWord). Looks_so (looked looking o)) (sym (says_are_found.loaded c.pages c.words page (stands looking a).formed within)) (by_state (state_of says number) refl)))

  -- ---- the save

  module _ (g : Guarding) (v : PageSaving) where
    abbrev saving : SaveStage → Guarding
    saving stage = record g { stage = guard_stage.Saves (record v { stage = stage }) }

    module _ (stage : SaveStage) (a : IsAlone c (at (saving stage))) where
      abbrev it : IsOwnSave g.layout g.page g.number g.worker (record v { stage = stage })
      it = a.is.fits.stage.sound.stage

      its_layout : v.layout ≡ y.layout
      its_layout = it.in_layout ∙ a.is.fits.stage.layout

      least : (saves c).snap ≤ v.number
      least = let mine = it.for_number in let same = last (saving stage) a in omega (arith, mine, same)

      -- a SAVE of the last checkpoint costs no more
      kept : (word : SaveWord) → number_of word ≡ v.number
          → saving_in y.layout.checkpoints c.pages (record (saves c) { save = put (saves c).save v.page word }) ≤ saving_in y.layout.checkpoints c.pages (saves c)
      kept word is = let low = least in saving_in-kept c.pages (saves c) v.page word (omega (arith, low, is)) y.layout.checkpoints

      abbrev Owes : Type 0
      Owes = OwesSave c p s (at (saving stage)) a (stands (saving stage) a) (record v { stage = stage }) its_layout it.sound stage

    image_by : (i word : ℕ) (a : IsAlone c (at (saving (save_stage.StoresImage i word)))) (image : ℕ → ℕ) (b : Bool)
        → Pays c.pages y.layout.checkpoints (said c.pages c.words) (record { table = table c; saves = record (saves c) { image = image } }) (at (saving (save_stage.StoresImage i word)))
        (next (saving (save_stage.StoresImage i word)) a
        (save_went (record v { stage = cond b (save_stage.LoadsWord (i + 1)) save_stage.StoresSaved }) (save.told_at (cond b (save_stage.LoadsWord (i + 1)) save_stage.StoresSaved))))
    image_by i word a image true =
        let fits = (it (save_stage.StoresImage i word) a).sound.stage in
        let same = saving_in-images y.layout.checkpoints c.pages (saves c) image in
        pays (saving (save_stage.StoresImage i word)) a (record (saves c) { image = image }) (guard_stage.Saves (record v { stage = save_stage.LoadsWord (i + 1) })) tt (omega (arith, fits)) (omega (arith, same))
    image_by i word a image false =
        let fits = (it (save_stage.StoresImage i word) a).sound.stage in
        let same = saving_in-images y.layout.checkpoints c.pages (saves c) image in
        pays (saving (save_stage.StoresImage i word)) a (record (saves c) { image = image }) (guard_stage.Saves (record v { stage = save_stage.StoresSaved })) tt (omega (arith, fits)) (omega (arith, same))

    owes : (stage : SaveStage) (a : IsAlone c (at (saving stage))) → Owes stage a
    owes save_stage.Exchanges a =
        pays (saving save_stage.Exchanges) a (record (saves c) { save = put (saves c).save v.page (save_word.Saving v.number v.worker) }) (guard_stage.Saves (record v { stage = save_stage.LoadsWord 0 })) tt (omega arith)
        (kept save_stage.Exchanges a (save_word.Saving v.number v.worker) refl)
    owes (save_stage.LoadsWord i) a =
        λ word.
        let fits = (it (save_stage.LoadsWord i) a).sound.stage in
        lowers (saving (save_stage.LoadsWord i)) a (saves c) (guard_stage.Saves (record v { stage = save_stage.StoresImage i word })) tt (omega (arith, fits))
    owes (save_stage.StoresImage i word) a = image_by i word a (put (saves c).image (word_of_page v.page i) word) (nat_lt (i + 1) PAGE_WORDS)
    owes save_stage.StoresSaved a =
        pays (saving save_stage.StoresSaved) a (record (saves c) { save = put (saves c).save v.page (save_word.Saved v.number) }) (guard_stage.Ended (record {})) tt (omega arith)
        (kept save_stage.StoresSaved a (save_word.Saved v.number) refl)
    owes (save_stage.Ended result) a = tt

    saves_it : IsAlone c (at (saving v.stage)) → StepsLower c (at (saving v.stage))
    saves_it a =
        saves_page c p s (at (saving v.stage)) a (stands (saving v.stage) a) v (its_layout v.stage a) (it v.stage a).sound (it v.stage a).going a.remembers.stands.0 refl (owes v.stage a)

  by_stage : (g : Guarding) (stage : GuardStage) → IsAlone c (at (record g { stage = stage })) → StepsLower c (at (record g { stage = stage }))
  by_stage g guard_stage.Looks a = looks g.layout g.page g.number g.worker a
  by_stage g (guard_stage.Saves v) a = saves_it g v a
  by_stage g (guard_stage.Ended result) a = absurd a.is.fits.stage.going

  pub guards : (g : Guarding) → IsAlone c (at g) → StepsLower c (at g)
  guards g a = by_stage g g.stage a
