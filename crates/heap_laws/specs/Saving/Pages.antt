-- How a page is saved, or marked as new: what is read and written of it, stage by stage, and what is kept of checkpoints then. And
-- which pages mutators write, and what they find there.
use Rattle.std.specs.Prelude.{◌≡◌, ℕ, ◌+◌, ◌*◌, ◌<◌, ◌≤◌, ◌⊎◌, true, false, List, Option, Some, None, slice_index}
use Rattle.space_map.specs.declared.page_word.PageWord.TheVariants.{Open}
use Rattle.space_map.specs.declared.save_word.SaveWord.{SaveWord}
use Rattle.space_map.specs.declared.save_word.SaveWord.TheVariants.{Saving, Saved, New}
use Rattle.space_map.specs.declared.spaces.TheConstants.{PAGE_WORDS}
use Rattle.space_map.specs.SaveWord.{SaveFits, number_of, encode_save, decode_save}
use Rattle.space_map.specs.Spaces.{first_word, page_of}
use Rattle.space_map.specs.Table.{SaveOf, save_place_of}
use Rattle.heap_state.specs.Functions.{put}
use Rattle.heap_state.specs.Invariant.Ghost.{Ghost}
use Rattle.heap_state.specs.Memory.Entries.{Entry, SaveIs, ImageIs}
use Rattle.heap_state.specs.Memory.Era.{Era, era_of, memory_of}
use Rattle.heap_state.specs.Memory.Table.{Table}
use Rattle.heap_state.specs.Saving.Words.{Saves, saves_of, AreFormedSaves}
use Rattle.heap_state.specs.Saving.Frozen.{Frozen, IsPageOf}
use Rattle.heap_state.specs.Saving.Savers.{Saver, SaveStep}
use Rattle.heap_state.specs.Saving.Parts.{SavingStands}
use Rattle.heap_state.specs.Known.{Team, Stock}
use Rattle.heap_laws.specs.Allocation.Stocks.{HasStock, OpensNext}
use Rattle.heap_laws.specs.Lifting.{table_after}
use Rattle.heap_laws.specs.Saving.Stores.{saves_after}
use Rattle.heap_laws.specs.Saving.Rounds.{save_begun}
use Rattle.heap_laws.specs.Steps.{Ready}

-- ---- the save of a page at its stages

-- one that has won the exchange, and has copied so many words
abbrev pub save_at : SaveStep → (copied : ℕ) → SaveStep
save_at v copied = record v { won = true; copied = copied; word = None }

-- one that has loaded the next word too
abbrev pub save_with : SaveStep → (word : ℕ) → SaveStep
save_with v word = record v { word = Some word }

-- the address of the word that it copies next
abbrev pub next_word : SaveStep → ℕ
next_word v = first_word v.page + v.copied

-- the worker that saves a page
abbrev pub saver_in_save : Saver → SaveStep → Saver
saver_in_save w v = record w { save = Some v }

-- the worker whose save has come to its end, and the round with it if it was one of a round
abbrev pub saver_after_save : Saver → Saver
saver_after_save w = record w { save = None; round = None }

-- the worker that has found the page saved or new, and may write there
abbrev pub saver_guarded : Saver → (page : ℕ) → Saver
saver_guarded w page = record w { guarded = Some page }

-- the worker that has marked the page as new, and opens it next
abbrev pub saver_marking : Saver → (page : ℕ) → Saver
saver_marking w page = record w { marked = Some page }

-- ---- what is done

-- By this row, or none, worker k, which is w, becomes the other. Before it writes a word of a page it finds the page saved or new, or
-- begins to save it, or looks again while another worker saves it. The exchange of SAVE is won or lost. Then word after word is loaded,
-- and stored in its IMAGE. After the last one SAVE says that the page is saved: in a look before a write the worker may write there then.
-- And a page that isn't one of a checkpoint in progress is marked as new of the last one.
pub data SavesPages (t : Table) (s : Saves) (z : Frozen) (k : ℕ) (w : Saver) : Option Entry → Saver → Type 0 where
  FindsKept : (page : ℕ) (says : SaveWord) → w.recalled ≡ true → 0 < w.running → s.save page ≡ says
      → (says ≡ Saved w.running) ⊎ (says ≡ New w.running) → SavesPages t s z k w None (saver_guarded w page)
  FindsUnsaved : (page number : ℕ) (says : SaveWord) → w.recalled ≡ true → w.running ≡ number → w.save ≡ None → s.save page ≡ says
      → number_of says < number → IsPageOf t.pages t.gate.epoch page → t.page page ≡ Open t.gate.epoch
      → SavesPages t s z k w None (saver_in_save w (save_begun page number says))
  LooksAgain : SavesPages t s z k w None w
  WinsSave : (v : SaveStep) → w.save ≡ Some v → v.won ≡ false → s.save v.page ≡ v.found
      → SavesPages t s z k w (Some (SaveIs v.page (Saving v.number k))) (saver_in_save w (save_at v 0))
  LosesSave : (v : SaveStep) → w.save ≡ Some v → v.won ≡ false → SavesPages t s z k w None (saver_after_save w)
  LoadsWord : (v : SaveStep) (word : ℕ) → w.save ≡ Some v → v.won ≡ true → v.copied < PAGE_WORDS → t.heap (next_word v) ≡ word
      → SavesPages t s z k w None (saver_in_save w (save_with v word))
  StoresImage : (v : SaveStep) (word : ℕ) → w.save ≡ Some v → v.won ≡ true → v.word ≡ Some word
      → SavesPages t s z k w (Some (ImageIs (next_word v) word)) (saver_in_save w (save_at v (v.copied + 1)))
  EndsSave : (v : SaveStep) → w.save ≡ Some v → v.won ≡ true → v.copied ≡ PAGE_WORDS
      → SavesPages t s z k w (Some (SaveIs v.page (Saved v.number))) (saver_after_save w)
  EndsLook : (v : SaveStep) → w.save ≡ Some v → v.won ≡ true → v.copied ≡ PAGE_WORDS → w.recalled ≡ true → w.running ≡ v.number
      → SavesPages t s z k w (Some (SaveIs v.page (Saved v.number))) (saver_guarded (saver_after_save w) v.page)
  MarksNew : (page number : ℕ) → w.recalled ≡ true → w.snap ≡ number → (s.done < s.snap → z.held page ≡ false)
      → SavesPages t s z k w (Some (SaveIs page (New number))) (saver_marking w page)

-- each of these leaves what is kept of checkpoints
abbrev pub PagesAreSaved : Type 0
PagesAreSaved = (t : Table) (s : Saves) (z : Frozen) (count : ℕ) (saver : ℕ → Saver) (k : ℕ) (e : Option Entry) (w : Saver)
    → SavingStands t s z count saver → k < count → SavesPages t s z k (saver k) e w
    → SavingStands (table_after t e) (saves_after s e) z count (put saver k w)

-- and in no page's SAVE the number of its checkpoint falls
abbrev pub SaveNumbersRise : Type 0
SaveNumbersRise = (t : Table) (s : Saves) (z : Frozen) (count : ℕ) (saver : ℕ → Saver) (k : ℕ) (e : Option Entry) (w : Saver)
    → SavingStands t s z count saver → k < count → SavesPages t s z k (saver k) e w → (page : ℕ) → number_of (s.save page) ≤ number_of ((saves_after s e).save page)

-- ---- what is found

-- a load of a page's SAVE reads a word that spells what it says, and an exchange that is won there finds what was expected
pub record SaysAreFound : Type 0 where
  pub loaded : (n : ℕ) (words : List ℕ) (page : ℕ) → AreFormedSaves n words → page ≤ 2 * n
      → decode_save (slice_index words (save_place_of n (SaveOf page))) ≡ Some ((saves_of n words).save page)
  pub exchanged : (n : ℕ) (words : List ℕ) (page : ℕ) (found : SaveWord) → page ≤ 2 * n → SaveFits found
      → slice_index words (save_place_of n (SaveOf page)) ≡ encode_save found → (saves_of n words).save page ≡ found

-- a mutator that recalled a checkpoint in progress finds no SAVE of a later one
abbrev pub NoneIsOfLater : Type 0
NoneIsOfLater = (t : Table) (s : Saves) (z : Frozen) (count : ℕ) (saver : ℕ → Saver) (k page : ℕ) → SavingStands t s z count saver → k < count
    → (saver k).recalled ≡ true → 0 < (saver k).running → number_of (s.save page) ≤ (saver k).running

-- ---- the pages that a mutator writes

-- Worker k writes a word of the page: one of a record of the epoch's space, or of the board, on a page that it found open; or one of its
-- stock, on a page that it has opened.
pub data WritesOn (E : Era) (team : Team) (g : Ghost) (k page : ℕ) : Type 0 where
  WritesRecord : (a x : ℕ) → (team.worker k).opened ≡ Some page → 0 < g.size a → (E.start ≤ a) × (a < E.start + E.span) → x < g.size a
      → page_of (a + x) ≡ page → WritesOn E team g k page
  WritesBoard : (team.worker k).opened ≡ Some page → page_of E.board ≡ page → WritesOn E team g k page
  WritesStock : (q : Stock) (x : ℕ) → HasStock team k q → q.at ≤ x → x < q.opened → page_of x ≡ page → WritesOn E team g k page

-- the page is the board's, or one of the epoch's space, and is open in the epoch
pub record IsOpenNow (t : Table) (page : ℕ) : Type 0 where
  pub is_of : IsPageOf t.pages t.gate.epoch page
  pub opened : t.page page ≡ Open t.gate.epoch

-- so is each that is written
abbrev pub WrittenPagesAreOpen : Type 0
WrittenPagesAreOpen = (t : Table) (team : Team) (g : Ghost) (k page : ℕ) → Ready (era_of t) (memory_of t) team g k → WritesOn (era_of t) team g k page → IsOpenNow t page

-- the next page of a stock, which isn't open yet, is marked as new, and what is kept of checkpoints stays
abbrev pub StockPagesAreMarked : Type 0
StockPagesAreMarked = (t : Table) (s : Saves) (z : Frozen) (team : Team) (g : Ghost) (saver : ℕ → Saver) (k page number : ℕ) (q : Stock)
    → SavingStands t s z team.count saver → Ready (era_of t) (memory_of t) team g k → OpensNext team k q page
    → (saver k).recalled ≡ true → (saver k).snap ≡ number
    → SavingStands t (saves_after s (Some (SaveIs page (New number)))) z team.count (put saver k (saver_marking (saver k) page))
