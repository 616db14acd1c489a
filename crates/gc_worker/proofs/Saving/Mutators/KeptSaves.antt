-- The save of a page, at whatever stage a worker makes it: what each of its steps keeps of checkpoints.
use Rattle.std.proofs.Common.{◌≡◌, ℕ, ◌+◌, ◌*◌, ◌^◌, ◌<◌, ◌≤◌, Bool, true, false, cond, Option, None, Some, nat_lt, refl, sym, ap, subst, ◌∙◌, arith, slice_index}
use Rattle.std.proofs.lemmas.Bool.{ltb-false}
use Rattle.std.proofs.lemmas.Option.{same_Some}
use Rattle.plain_state.specs.State.{Plain}
use Rattle.atom_store.specs.declared.reply.Reply.{Reply}
use Rattle.atom_store.specs.declared.reply.Reply.TheVariants.{Value, Done, Won, Lost}
use Rattle.atom_store.specs.declared.step.Step.{Step}
use Rattle.atom_store.specs.declared.step.Step.TheVariants.{Load, Store, Exchange}
use Rattle.space_map.specs.declared.save_word.SaveWord.{SaveWord}
use Rattle.space_map.specs.declared.save_word.SaveWord.TheVariants as save_word
use Rattle.space_map.specs.declared.spaces.TheConstants.{PAGE_WORDS}
use Rattle.space_map.specs.SaveWord.{encode_save}
use Rattle.space_map.specs.Spaces.{Layout}
use Rattle.space_map.specs.Table.{HeapWord, SaveOf, ImageOf}
use Rattle.space_map.specs.WholeTable.{Within, Behind, whole_place_of}
use Rattle.heap_state.specs.Configuration.{Configuration, table, team}
use Rattle.heap_state.specs.Functions.{put}
use Rattle.heap_state.specs.Memory.Entries.{Entry, SaveIs, ImageIs}
use Rattle.heap_state.specs.Saving.Frozen.{Frozen}
use Rattle.heap_state.specs.Saving.Parts.{SavingStands}
use Rattle.heap_state.specs.Saving.Savers.{Saver, SaveStep}
use Rattle.heap_laws.specs.Lifting.{table_after, RowFits}
use Rattle.heap_laws.specs.Saving.Pages.{SavesPages, WinsSave, LosesSave, LoadsWord, StoresImage, saver_in_save, saver_after_save, save_with}
use Rattle.heap_laws.specs.Saving.Pages as law
use Rattle.heap_laws.specs.Saving.Stores.{saves_after}
use Rattle.heap_laws.proofs.Saving.Pages.PageSaves.{pages_are_saved}
use Rattle.heap_laws.proofs.Saving.Pages.Writes.{says_are_found}
use Rattle.page_saves.specs.declared.save_end.SaveEnd.TheVariants as save_end
use Rattle.page_saves.specs.declared.save_stage.SaveStage.{SaveStage}
use Rattle.page_saves.specs.declared.save_stage.SaveStage.TheVariants as save_stage
use Rattle.page_saves.specs.Save.{PageSaving, next_stage, wanted_at, word_of_page}
use Rattle.page_saves.specs.SoundSave.{FitsSaveStage, IsSaveGoing, IsSoundSave}
use Rattle.gc_worker.specs.Steps.Turned.{Silent, turned, told}
use Rattle.gc_worker.specs.Steps.Wanted.{wanted}
use Rattle.gc_worker.specs.Workers.Held.{Held}
use Rattle.gc_worker.specs.Workers.Saves.{page_save_at, save_step, saver_of}
use Rattle.gc_worker.proofs.Saving.Frame.Answers.{keeps_snaps}
use Rattle.gc_worker.proofs.Saving.Frame.StepRows.{SavedBy, exchanges_so, heap_now, kept_by, loads_so, stores_so}
use Rattle.gc_worker.proofs.Saving.Frame.Step.{Before, KeepsSnaps, SavesStep, saves}

module _ (c : Configuration) (p : Plain) (z : Frozen) (saver : ℕ → Saver) (k : ℕ) (x : Held) (b : Before c p z saver k x) where
  -- the step that it wants
  pub asked_so : (r q : Step) → wanted x ≡ Some r → wanted x ≡ Some q → SavesStep c p saver k x r → SavesStep c p saver k x q
  asked_so r q next asked = subst (SavesStep c p saver k x) (same_Some r q (sym next ∙ asked))

  pub silently : (reply : Reply) → told x reply ≡ Silent → KeepsSnaps p k (told x reply)
  silently reply silent = subst (KeepsSnaps p k) (sym silent) (keeps_snaps p k Silent tt)

  -- by a law of saves it becomes this worker
  pub saving_by : (e : Option Entry) (reply : Reply) (w : Saver) → RowFits c.pages e → (saves_after (saves c) e).snap ≡ (saves c).snap → told x reply ≡ Silent
      → saver_of (turned x reply) ≡ w → SavesPages (table c) (saves c) z k (saver k) e w → SavedBy c p saver k x e reply
  saving_by e reply w fits same silent is does =
      kept_by c p z saver k x b e reply fits same
      (subst (λ (w : Saver). SavingStands (table_after (table c) e) (saves_after (saves c) e) z (team c).count (put saver k w)) (sym is)
      (pages_are_saved (table c) (saves c) z (team c).count saver k e w b.saving b.is.below does))
      (silently reply silent)

  -- ---- the save

  module _ (s : PageSaving) (own : s.layout ≡ x.layout) (sound : IsSoundSave s) (mine : s.worker ≡ k) (silent : (reply : Reply) → told x reply ≡ Silent) where
    pages : s.layout.pages ≡ c.pages
    pages = ap (λ (l : Layout). l.pages) own ∙ b.is.fits.pages

    page : s.page ≤ 2 * c.pages
    page = let low = sound.page in let n = pages in omega (arith, low, n)

    -- What a reply makes of it, after which the save is at this stage. One whose page is saved is no part of a round any more, or it
    -- writes there.
    abbrev pub Comes : SaveStage → Held → Type 0
    Comes (save_stage.Ended save_end.Saved) y =
        (saver k).save ≡ Some (save_step s true PAGE_WORDS None) → SavesPages (table c) (saves c) z k (saver k) (Some (SaveIs s.page (save_word.Saved s.number))) (saver_of y)
    Comes (save_stage.Ended (save_end.Taken word)) y = saver_of y ≡ saver_after_save (saver_of x)
    Comes stage y = saver_of y ≡ record (saver_of x) { save = page_save_at s stage }

    abbrev Steps : Type 0
    Steps = (q : Step) → wanted x ≡ Some q → SavesStep c p saver k x q

    -- the same of the worker as it is known
    as_own : (save : Option SaveStep) (y : Held) → saver_of y ≡ record (saver_of x) { save = save } → saver_of y ≡ record (saver k) { save = save }
    as_own save y is = is ∙ ap (λ (w : Saver). record w { save = save }) (sym b.own)

    -- ---- its steps

    exchanges : (saver k).save ≡ page_save_at s save_stage.Exchanges → ((reply : Reply) → Comes (next_stage save_stage.Exchanges reply) (turned x reply))
        → wanted x ≡ wanted_at s save_stage.Exchanges → Steps
    exchanges holds comes asks q asked =
        let saving : SaveWord = save_word.Saving s.number k in
        let e : Entry = SaveIs s.page saving in
        let small : k < 2 ^ 8 = let w = sound.worker in omega (arith, w, mine) in
        let lost : Reply = Lost (slice_index c.words (whole_place_of c.pages (Behind (SaveOf s.page)))) in
        asked_so (Exchange (whole_place_of c.pages (Behind (SaveOf s.page))) (encode_save s.found) (encode_save saving)) q
        (asks ∙ (λ i. Some (Exchange (whole_place_of (pages i) (Behind (SaveOf s.page))) (encode_save s.found) (encode_save (save_word.Saving s.number (mine i)))))) asked
        (exchanges_so c p z saver k x b e (encode_save s.found) page
        (λ same. saving_by (Some e) Won (saver_in_save (saver k) (law.save_at (save_step s false 0 None) 0)) (page, (sound.number, small)) refl (silent Won)
        (as_own (page_save_at s (save_stage.LoadsWord 0)) (turned x Won) (comes Won))
        (WinsSave (save_step s false 0 None) holds refl (says_are_found.exchanged c.pages c.words s.page s.found page sound.found same)))
        (saving_by None lost (saver_after_save (saver k)) tt refl (silent lost) (comes lost ∙ ap saver_after_save (sym b.own)) (LosesSave (save_step s false 0 None) holds refl)))

    loads_word : (i : ℕ) → i < PAGE_WORDS → (saver k).save ≡ page_save_at s (save_stage.LoadsWord i) → ((reply : Reply) → Comes (next_stage (save_stage.LoadsWord i) reply) (turned x reply))
        → wanted x ≡ wanted_at s (save_stage.LoadsWord i) → Steps
    loads_word i fits holds comes asks q asked =
        let at : ℕ = word_of_page s.page i in
        let place : ℕ = whole_place_of c.pages (Within (HeapWord at)) in
        let word : ℕ = slice_index c.words place in
        let low = page in
        asked_so (Load place) q (asks ∙ ap (λ (n : ℕ). Some (Load (whole_place_of n (Within (HeapWord at))))) pages) asked
        (loads_so c p z saver k x b place
        (saving_by None (Value word) (saver_in_save (saver k) (save_with (save_step s true i None) word)) tt refl (silent (Value word))
        (as_own (page_save_at s (save_stage.StoresImage i word)) (turned x (Value word)) (comes (Value word)))
        (LoadsWord (save_step s true i None) word holds refl fits (heap_now c at (omega (arith, fits, low))))))

    module _ (i word : ℕ) (fits : i < PAGE_WORDS) where
      -- the next word, or all are copied
      copied : (more : Bool) → nat_lt (i + 1) PAGE_WORDS ≡ more → Comes (cond more (save_stage.LoadsWord (i + 1)) save_stage.StoresSaved) (turned x Done)
          → saver_of (turned x Done) ≡ saver_in_save (saver k) (save_step s true (i + 1) None)
      copied true test is = as_own (Some (save_step s true (i + 1) None)) (turned x Done) is
      copied false test is =
          let past = ltb-false (i + 1) PAGE_WORDS test in
          let all : PAGE_WORDS ≡ i + 1 = omega (arith, past, fits) in
          as_own (Some (save_step s true (i + 1) None)) (turned x Done) (is ∙ ap (λ (n : ℕ). record (saver_of x) { save = Some (save_step s true n None) }) all)

      stores_image : (saver k).save ≡ page_save_at s (save_stage.StoresImage i word) → ((reply : Reply) → Comes (next_stage (save_stage.StoresImage i word) reply) (turned x reply))
          → wanted x ≡ wanted_at s (save_stage.StoresImage i word) → Steps
      stores_image holds comes asks q asked =
          let at : ℕ = word_of_page s.page i in
          let low = page in
          asked_so (Store (whole_place_of c.pages (Behind (ImageOf at))) word) q (asks ∙ ap (λ (n : ℕ). Some (Store (whole_place_of n (Behind (ImageOf at))) word)) pages) asked
          (stores_so c p z saver k x b (ImageIs at word)
          (saving_by (Some (ImageIs at word)) Done (saver_in_save (saver k) (law.save_at (save_step s true i (Some word)) (i + 1))) (omega (arith, fits, low)) refl (silent Done)
          (copied (nat_lt (i + 1) PAGE_WORDS) refl (comes Done))
          (StoresImage (save_step s true i (Some word)) word holds refl refl)))

    stores_saved : (saver k).save ≡ page_save_at s save_stage.StoresSaved → ((reply : Reply) → Comes (next_stage save_stage.StoresSaved reply) (turned x reply))
        → wanted x ≡ wanted_at s save_stage.StoresSaved → Steps
    stores_saved holds comes asks q asked =
        let saved : SaveWord = save_word.Saved s.number in
        let e : Entry = SaveIs s.page saved in
        asked_so (Store (whole_place_of c.pages (Behind (SaveOf s.page))) (encode_save saved)) q
        (asks ∙ ap (λ (n : ℕ). Some (Store (whole_place_of n (Behind (SaveOf s.page))) (encode_save saved))) pages) asked
        (stores_so c p z saver k x b e (saving_by (Some e) Done (saver_of (turned x Done)) (page, sound.number) refl (silent Done) refl (comes Done holds)))

    by_stage : (stage : SaveStage) → FitsSaveStage stage → IsSaveGoing stage → (saver k).save ≡ page_save_at s stage → ((reply : Reply) → Comes (next_stage stage reply) (turned x reply))
        → wanted x ≡ wanted_at s stage → Steps
    by_stage save_stage.Exchanges fits going = exchanges
    by_stage (save_stage.LoadsWord i) fits going = loads_word i fits
    by_stage (save_stage.StoresImage i word) fits going = stores_image i word fits
    by_stage save_stage.StoresSaved fits going = stores_saved
    by_stage (save_stage.Ended result) fits going = absurd going

    pub saves_page : IsSaveGoing s.stage → (saver_of x).save ≡ page_save_at s s.stage → ((reply : Reply) → Comes (next_stage s.stage reply) (turned x reply)) → wanted x ≡ wanted_at s s.stage → Steps
    saves_page going holds comes asks = by_stage s.stage sound.stage going (ap (λ (w : Saver). w.save) b.own ∙ holds) comes asks
