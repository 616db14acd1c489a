-- The save of a page by a lone mutator: what each of its steps then owes is enough. Its exchange is won.
use Rattle.std.proofs.Common.{◌≡◌, ℕ, ◌*◌, ◌^◌, ◌<◌, ◌≤◌, Some, ap, ◌∙◌, arith}
use Rattle.std.specs.Prelude.{⊤}
use Rattle.plain_state.specs.State.{Plain}
use Rattle.atom_store.specs.declared.reply.Reply.TheVariants.{Value, Done, Won}
use Rattle.atom_store.specs.declared.step.Step.TheVariants.{Load, Store, Exchange}
use Rattle.space_map.specs.declared.save_word.SaveWord.TheVariants as save_word
use Rattle.space_map.specs.SaveWord.{encode_save}
use Rattle.space_map.specs.Spaces.{Layout}
use Rattle.space_map.specs.Table.{HeapWord, SaveOf, ImageOf}
use Rattle.space_map.specs.WholeTable.{Within, Behind, whole_place_of}
use Rattle.heap_state.specs.Configuration.{Configuration, Stands, table}
use Rattle.heap_state.specs.Memory.Entries.{SaveIs, ImageIs, word_in_whole}
use Rattle.heap_state.specs.Saving.Written.{saves_with}
use Rattle.heap_laws.proofs.Saving.Stores.{saves_are_read}
use Rattle.page_saves.specs.declared.save_stage.SaveStage.{SaveStage}
use Rattle.page_saves.specs.declared.save_stage.SaveStage.TheVariants as save_stage
use Rattle.page_saves.specs.Save.{PageSaving, wanted_at, word_of_page}
use Rattle.page_saves.specs.SoundSave.{FitsSaveStage, IsSaveGoing, IsSoundSave}
use Rattle.gc_worker.specs.Steps.Wanted.{wanted}
use Rattle.gc_worker.specs.Workers.Held.{Held}
use Rattle.lone_mutator.specs.Law.{IsAlone, SavesStand, StepsLower, saves}
use Rattle.lone_mutator.specs.Lone.{SaveStands}
use Rattle.lone_mutator.proofs.Steps.Owed.{OwesAll, exchanges_any, loads_any, stores_any, wants}
use Rattle.lone_mutator.proofs.Steps.Owed as owed

module _ (c : Configuration) (p : Plain) (s : Stands c p) (x : Held) (a : IsAlone c x) (stands : SavesStand c x) (v : PageSaving) (own : v.layout ≡ x.layout) (sound : IsSoundSave v) where
  -- what its next step owes
  abbrev pub OwesSave : SaveStage → Type 0
  OwesSave save_stage.Exchanges = OwesAll c p s x (table c) (saves_with (SaveIs v.page (save_word.Saving v.number v.worker)) (saves c)) Won
  OwesSave (save_stage.LoadsWord i) = (word : ℕ) → owed.Owes c p s x (table c) (Value word)
  OwesSave (save_stage.StoresImage i word) = OwesAll c p s x (table c) (saves_with (ImageIs (word_of_page v.page i) word) (saves c)) Done
  OwesSave save_stage.StoresSaved = OwesAll c p s x (table c) (saves_with (SaveIs v.page (save_word.Saved v.number)) (saves c)) Done
  OwesSave (save_stage.Ended result) = ⊤

  pages : v.layout.pages ≡ c.pages
  pages = ap (λ (l : Layout). l.pages) own ∙ a.is.fits.pages

  page : v.page ≤ 2 * c.pages
  page = let low = sound.page in let n = pages in omega (arith, low, n)

  -- SAVE is as it was read
  found : (saves c).save v.page ≡ v.found → word_in_whole c.pages c.words (Behind (SaveOf v.page)) ≡ encode_save v.found
  found same = saves_are_read.rows c.pages c.words (SaveOf v.page) page ∙ (saves_are_read.saves c.pages c.words stands.formed v.page page ∙ ap encode_save same)

  by_stage : (stage : SaveStage) → FitsSaveStage stage → IsSaveGoing stage → SaveStands (saves c) v stage → wanted x ≡ wanted_at v stage → OwesSave stage → StepsLower c x
  by_stage save_stage.Exchanges fits going same asked owes =
      let saving = save_word.Saving v.number v.worker in
      let small : v.worker < 2 ^ 8 = let w = sound.worker in omega (arith, w) in
      wants c p s x (Exchange (whole_place_of c.pages (Behind (SaveOf v.page))) (encode_save v.found) (encode_save saving))
      (asked ∙ ap (λ (n : ℕ). Some (Exchange (whole_place_of n (Behind (SaveOf v.page))) (encode_save v.found) (encode_save saving))) pages)
      (exchanges_any c p s x stands.formed (SaveIs v.page saving) (encode_save v.found) (page, (sound.number, small)) (found same) owes)
  by_stage (save_stage.LoadsWord i) fits going same asked owes =
      let at = word_of_page v.page i in
      let low = page in
      wants c p s x (Load (whole_place_of c.pages (Within (HeapWord at)))) (asked ∙ ap (λ (n : ℕ). Some (Load (whole_place_of n (Within (HeapWord at))))) pages)
      (loads_any c p s x (Within (HeapWord at)) (omega (arith, fits, low)) (owes (word_in_whole c.pages c.words (Within (HeapWord at)))))
  by_stage (save_stage.StoresImage i word) fits going same asked owes =
      let at = word_of_page v.page i in
      let low = page in
      wants c p s x (Store (whole_place_of c.pages (Behind (ImageOf at))) word) (asked ∙ ap (λ (n : ℕ). Some (Store (whole_place_of n (Behind (ImageOf at))) word)) pages)
      (stores_any c p s x stands.formed (ImageIs at word) (omega (arith, fits, low)) owes)
  by_stage save_stage.StoresSaved fits going same asked owes =
      let saved = save_word.Saved v.number in
      wants c p s x (Store (whole_place_of c.pages (Behind (SaveOf v.page))) (encode_save saved))
      (asked ∙ ap (λ (n : ℕ). Some (Store (whole_place_of n (Behind (SaveOf v.page))) (encode_save saved))) pages)
      (stores_any c p s x stands.formed (SaveIs v.page saved) (page, sound.number) owes)
  by_stage (save_stage.Ended result) fits going same asked owes = absurd going

  pub saves_page : IsSaveGoing v.stage → SaveStands (saves c) v v.stage → wanted x ≡ wanted_at v v.stage → OwesSave v.stage → StepsLower c x
  saves_page going same asked owes = by_stage v.stage sound.stage going same asked owes
