-- The save of a page, at whatever stage a worker makes it: it writes beside the table alone, and teaches the worker nothing.
use Rattle.std.proofs.Common.{◌≡◌, ℕ, ◌*◌, ◌^◌, ◌<◌, ◌≤◌, true, Some, ap, ◌∙◌, arith}
use Rattle.plain_state.specs.State.{Plain}
use Rattle.atom_store.specs.declared.reply.Reply.{Reply}
use Rattle.atom_store.specs.declared.reply.Reply.TheVariants.{Done, Won}
use Rattle.atom_store.specs.declared.step.Step.TheVariants.{Load, Store, Exchange}
use Rattle.space_map.specs.declared.save_word.SaveWord.{SaveWord}
use Rattle.space_map.specs.declared.save_word.SaveWord.TheVariants as save_word
use Rattle.space_map.specs.SaveWord.{SaveFits, encode_save}
use Rattle.space_map.specs.Spaces.{Layout}
use Rattle.space_map.specs.Table.{HeapWord, SaveOf, ImageOf}
use Rattle.space_map.specs.WholeTable.{Within, Behind, whole_place_of}
use Rattle.heap_laws.specs.Steps.{IsBeside}
use Rattle.heap_state.specs.Configuration.{Configuration, Stands, era}
use Rattle.heap_state.specs.Memory.Entries.{SaveIs, ImageIs}
use Rattle.page_saves.specs.declared.save_stage.SaveStage.{SaveStage}
use Rattle.page_saves.specs.declared.save_stage.SaveStage.TheVariants as save_stage
use Rattle.page_saves.specs.Save.{PageSaving, wanted_at, word_of_page}
use Rattle.page_saves.specs.SoundSave.{FitsSaveStage, IsSaveGoing, IsSoundSave}
use Rattle.gc_worker.specs.Steps.Goes.{Is, StepsSo}
use Rattle.gc_worker.specs.Steps.Wanted.{wanted}
use Rattle.gc_worker.specs.Workers.Held.{Held}
use Rattle.gc_worker.proofs.Stages.Gate.GateWords.{wants}
use Rattle.gc_worker.proofs.Words.RowSteps.{TeachesNothing, untaught, untaught_beside, loads_whole, stores_whole, exchanges_whole, page_in_era, word_in_era}

module _ (c : Configuration) (p : Plain) (s : Stands c p) (k : ℕ) (x : Held) (is : Is c k x) (room : x.layout.checkpoints ≡ true) (z : PageSaving) (own : z.layout ≡ x.layout)
    (untaught_by : (reply : Reply) → TeachesNothing c p s k x reply) where
  -- its layout is the configuration's
  pages : z.layout.pages ≡ c.pages
  pages = ap (λ (l : Layout). l.pages) own ∙ is.fits.pages

  module _ (sound : IsSoundSave z) where
    page : z.page ≤ 2 * c.pages
    page = let low = sound.page in let n = pages in omega (arith, low, n)

    -- what it says of the page
    says : (word : SaveWord) → SaveFits word → IsBeside (era c) (SaveIs z.page word)
    says word fits = (page_in_era c z.page page, fits)

    image : (i word : ℕ) → i < 64 → IsBeside (era c) (ImageIs (word_of_page z.page i) word)
    image i word low = let p = page in word_in_era c (word_of_page z.page i) (omega (arith, low, p))

    by_stage : (stage : SaveStage) → FitsSaveStage stage → IsSaveGoing stage → wanted x ≡ wanted_at z stage → StepsSo c p s k x
    by_stage save_stage.Exchanges fits going asked =
        let saving = save_word.Saving z.number z.worker in
        let small : z.worker < 2 ^ 8 = let w = sound.worker in omega (arith, w) in
        wants c p s k x (Exchange (whole_place_of c.pages (Behind (SaveOf z.page))) (encode_save z.found) (encode_save saving))
        (asked ∙ ap (λ (n : ℕ). Some (Exchange (whole_place_of n (Behind (SaveOf z.page))) (encode_save z.found) (encode_save saving))) pages)
        (exchanges_whole c p s k x is room (SaveIs z.page saving) (encode_save z.found) page
        (λ same. untaught_beside c p s k x is (SaveIs z.page saving) Won (says saving (sound.number, small)) (untaught_by Won))
        (λ other. untaught c p s k x is _ (untaught_by _)))
    by_stage (save_stage.LoadsWord i) fits going asked =
        let at = word_of_page z.page i in
        let p_low = page in
        wants c p s k x (Load (whole_place_of c.pages (Within (HeapWord at)))) (asked ∙ ap (λ (n : ℕ). Some (Load (whole_place_of n (Within (HeapWord at))))) pages)
        (loads_whole c p s k x is room (Within (HeapWord at)) (omega (arith, fits, p_low)) (untaught c p s k x is _ (untaught_by _)))
    by_stage (save_stage.StoresImage i word) fits going asked =
        let at = word_of_page z.page i in
        let p_low = page in
        wants c p s k x (Store (whole_place_of c.pages (Behind (ImageOf at))) word) (asked ∙ ap (λ (n : ℕ). Some (Store (whole_place_of n (Behind (ImageOf at))) word)) pages)
        (stores_whole c p s k x is room (ImageIs at word) (omega (arith, fits, p_low)) (untaught_beside c p s k x is (ImageIs at word) Done (image i word fits) (untaught_by Done)))
    by_stage save_stage.StoresSaved fits going asked =
        let saved = save_word.Saved z.number in
        wants c p s k x (Store (whole_place_of c.pages (Behind (SaveOf z.page))) (encode_save saved))
        (asked ∙ ap (λ (n : ℕ). Some (Store (whole_place_of n (Behind (SaveOf z.page))) (encode_save saved))) pages)
        (stores_whole c p s k x is room (SaveIs z.page saved) page (untaught_beside c p s k x is (SaveIs z.page saved) Done (says saved sound.number) (untaught_by Done)))
    by_stage (save_stage.Ended result) fits going asked = absurd going

    pub saves : IsSaveGoing z.stage → wanted x ≡ wanted_at z z.stage → StepsSo c p s k x
    saves going asked = by_stage z.stage sound.stage going asked
