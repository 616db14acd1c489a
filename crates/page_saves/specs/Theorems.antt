-- What is proved of a save and of a look before a write, by the words on which they make their steps.
use Rattle.std.specs.Prelude.{◌≡◌, ◌≢◌, ℕ, ◌+◌, ◌*◌, ◌<◌, List, Option, Some}
use Rattle.atom_store.specs.declared.step.Step.{Step}
use Rattle.atom_store.specs.declared.step.Step.TheVariants.{Load, Store}
use Rattle.atom_store.specs.declared.turn.Turn.TheVariants.{More, Finished}
use Rattle.atom_store.specs.Acts.{MakesStep}
use Rattle.atom_store.specs.Runs.{among}
use Rattle.space_map.specs.declared.save_word.SaveWord.{SaveWord}
use Rattle.space_map.specs.declared.save_word.SaveWord.TheVariants as save_word
use Rattle.space_map.specs.declared.spaces.TheConstants.{PAGE_WORDS}
use Rattle.space_map.specs.SaveWord.{decode_save, encode_save, number_of}
use Rattle.space_map.specs.Table.{HeapWord, SaveOf, ImageOf}
use Rattle.page_saves.specs.declared.guard_stage.GuardStage.TheVariants as guard_stage
use Rattle.page_saves.specs.declared.may_write.MayWrite.{MayWrite}
use Rattle.page_saves.specs.declared.save_end.SaveEnd.TheVariants.{Saved, Taken}
use Rattle.page_saves.specs.declared.save_stage.SaveStage.TheVariants.{Exchanges, StoresSaved}
use Rattle.page_saves.specs.Guard.{Guarding, guard_machine}
use Rattle.page_saves.specs.Save.{PageSaving, wanted, told, word_of_page, save_machine}
use Rattle.page_saves.specs.SaveState.{IsKept}
use Rattle.page_saves.specs.SoundGuard.{IsSoundGuard}
use Rattle.page_saves.specs.SoundSave.{IsOwnSave, IsSoundSave}
use Rattle.space_map.specs.WholeTable.{WholeRow, Within, Behind, HoldsWhole, ChangesWholeOnly, whole_place_of, whole_word}

-- ---- the exchange

-- what was said of the page is of an earlier checkpoint, if of any, and then that this worker saves it; no other word changes
pub record BeginsSave (s : PageSaving) (before after : List ℕ) : Type 0 where
  pub was : decode_save (whole_word s.layout.pages (Behind (SaveOf s.page)) before) ≡ Some s.found
  pub earlier : number_of s.found < s.number
  pub is : decode_save (whole_word s.layout.pages (Behind (SaveOf s.page)) after) ≡ Some (save_word.Saving s.number s.worker)
  pub others : ChangesWholeOnly s.layout.pages (Behind (SaveOf s.page)) before after

-- a save that goes on from its exchange has won it
abbrev pub WonExchangesBegin : Type 0
WonExchangesBegin = (s : PageSaving) (before after : List ℕ) → IsSoundSave s → HoldsWhole s.layout before
    → MakesStep save_machine (record s { stage = Exchanges }) before after More → BeginsSave s before after

-- another word is said of the page than was read
pub record ShowsSaveTaken (s : PageSaving) (words : List ℕ) (word : ℕ) : Type 0 where
  pub read : word ≡ whole_word s.layout.pages (Behind (SaveOf s.page)) words
  pub other : word ≢ encode_save s.found

abbrev pub TakenSavesShowIt : Type 0
TakenSavesShowIt = (s : PageSaving) (before after : List ℕ) (word : ℕ)
    → MakesStep save_machine s before after (Finished (Taken word)) → ShowsSaveTaken s before word × (after ≡ before)

-- ---- the whole save

-- it is said then that the page is saved; no other word changes
pub record EndsSave (s : PageSaving) (before after : List ℕ) : Type 0 where
  pub last : s.stage ≡ StoresSaved
  pub is : decode_save (whole_word s.layout.pages (Behind (SaveOf s.page)) after) ≡ Some (save_word.Saved s.number)
  pub others : ChangesWholeOnly s.layout.pages (Behind (SaveOf s.page)) before after

abbrev pub SavedPagesSaySo : Type 0
SavedPagesSaySo = (s : PageSaving) (before after : List ℕ) → IsSoundSave s → HoldsWhole s.layout before
    → MakesStep save_machine s before after (Finished Saved) → EndsSave s before after

-- where a row stands in a save's table
abbrev pub place : PageSaving → WholeRow → ℕ
place s row = whole_place_of s.layout.pages row

-- what a save wants after so many steps, whatever words each of them met
abbrev pub wants : PageSaving → (met : ℕ → List ℕ) → ℕ → Option Step
wants s met n = wanted (among save_machine s met n)

-- The save finds the word that was read; then it loads each word of the page, and stores this word where it is saved; then it
-- stores that the page is saved.
pub record SavesInOrder (s : PageSaving) (met : ℕ → List ℕ) : Type 0 where
  pub won : whole_word s.layout.pages (Behind (SaveOf s.page)) (met 0) ≡ encode_save s.found
  pub loads : (i : ℕ) → i < PAGE_WORDS → wants s met (2 * i + 1) ≡ Some (Load (place s (Within (HeapWord (word_of_page s.page i)))))
  pub stores : (i : ℕ) → i < PAGE_WORDS → wants s met (2 * i + 2)
      ≡ Some (Store (place s (Behind (ImageOf (word_of_page s.page i)))) (whole_word s.layout.pages (Within (HeapWord (word_of_page s.page i))) (met (2 * i + 1))))
  pub says : wants s met (2 * PAGE_WORDS + 1) ≡ Some (Store (place s (Behind (SaveOf s.page))) (encode_save (save_word.Saved s.number)))
  pub ends : told (among save_machine s met (2 * PAGE_WORDS + 2)) ≡ Finished Saved

-- a save that finds the word that was read copies the page
abbrev pub WonSavesCopy : Type 0
WonSavesCopy = (s : PageSaving) (met : ℕ → List ℕ) → s.stage ≡ Exchanges
    → whole_word s.layout.pages (Behind (SaveOf s.page)) (met 0) ≡ encode_save s.found → SavesInOrder s met

-- and one that ends with the page saved has done so
abbrev pub EndedSavesCopied : Type 0
EndedSavesCopied = (s : PageSaving) (met : ℕ → List ℕ) (n : ℕ) → s.stage ≡ Exchanges
    → told (among save_machine s met n) ≡ Finished Saved → SavesInOrder s met

-- ---- the look before a write

-- the word said that the page is saved or new, or the look has just ended a save of its own
pub data FindsKept (g : Guarding) (before after : List ℕ) : Type 0 where
  WasKept : (says : SaveWord) → g.stage ≡ guard_stage.Looks → decode_save (whole_word g.layout.pages (Behind (SaveOf g.page)) before) ≡ Some says
      → IsKept says g.number → after ≡ before → FindsKept g before after
  SavedIt : (s : PageSaving) → g.stage ≡ guard_stage.Saves s → IsOwnSave g.layout g.page g.number g.worker s → EndsSave s before after
      → FindsKept g before after

-- a checkpoint's number isn't 0
abbrev pub GuardsEndOnKept : Type 0
GuardsEndOnKept = (g : Guarding) (before after : List ℕ) (outcome : MayWrite) → IsSoundGuard g → HoldsWhole g.layout before → 0 < g.number
    → MakesStep guard_machine g before after (Finished outcome) → FindsKept g before after
