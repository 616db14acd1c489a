-- What each step keeps of a checkpoint in progress: of the words, and of what each worker knows.
use Rattle.std.specs.Prelude.{◌≡◌, ◌≢◌, ℕ, ◌+◌, ◌^◌, ◌<◌, ◌≤◌, ◌⊎◌, ⊤, true, false, Some}
use Rattle.space_map.specs.declared.gate_word.GateWord.{GateWord}
use Rattle.space_map.specs.declared.page_word.PageWord.TheVariants.{Open}
use Rattle.space_map.specs.declared.save_word.SaveWord.TheVariants.{Saving, Saved, New}
use Rattle.space_map.specs.declared.spaces.TheConstants.{PAGE_WORDS}
use Rattle.space_map.specs.SaveWord.{number_of}
use Rattle.space_map.specs.Spaces.{page_of, first_word, board_page}
use Rattle.heap_state.specs.Memory.Table.{Table}
use Rattle.heap_state.specs.Saving.Words.{Saves, IsInProgress, IsAtRest}
use Rattle.heap_state.specs.Saving.Frozen.{Frozen, IsPageOf, IsSafe, MayBeSaved}
use Rattle.heap_state.specs.Saving.Savers.{Saver, SaveStep, SaveRound, FirstReads, NoReads, GateRead, SnapRead, DoneRead, HasPassed}

-- ---- the words

-- SNAP is DONE or one more, no page's SAVE is of a later checkpoint, and its pages are pages of the table. While one is in progress its epoch is traced, and its pages
-- are open, in no case new, and have their words of then: in the heap as long as they aren't saved, and in their images once they
-- are. Each open page may be saved. When it is finished all its pages have these words in their images.
pub record SavingWords (t : Table) (s : Saves) (z : Frozen) : Type 0 where
  pub order : (s.done ≤ s.snap) × (s.snap ≤ s.done + 1) × (s.snap < 2 ^ 32)
  pub young : (page : ℕ) → number_of (s.save page) ≤ s.snap
  pub within : (page : ℕ) → z.held page ≡ true → page ≤ board_page t.pages
  pub traced : s.done < s.snap → t.traced ≡ t.gate.epoch + 1
  pub opened : s.done < s.snap → (page : ℕ) → z.held page ≡ true → IsPageOf t.pages t.gate.epoch page × (t.page page ≡ Open t.gate.epoch)
  pub old : s.done < s.snap → (page : ℕ) → z.held page ≡ true → s.save page ≢ New s.snap
  pub unsaved : s.done < s.snap → (x : ℕ) → z.held (page_of x) ≡ true → s.save (page_of x) ≢ Saved s.snap → t.heap x ≡ z.heap x
  pub saved : s.done < s.snap → (x : ℕ) → z.held (page_of x) ≡ true → s.save (page_of x) ≡ Saved s.snap → s.image x ≡ z.heap x
  pub done : IsAtRest s → (x : ℕ) → z.held (page_of x) ≡ true → s.image x ≡ z.heap x
  pub ran : s.done < s.snap → MayBeSaved t s z s.snap t.gate.epoch

-- ---- a worker

-- A running mutator that has read SNAP: SNAP is still so. Once it has read DONE too: if no checkpoint was in progress then, none is;
-- else that one was, and the epoch is traced.
pub record RecalledStands (t : Table) (s : Saves) (z : Frozen) (w : Saver) : Type 0 where
  pub runs : w.runs ≡ true
  pub snap : w.snap ≡ s.snap
  pub none : w.reads_done ≡ false → w.running ≡ 0 → IsAtRest s
  pub one : 0 < w.running → (w.running ≡ s.snap) × (t.traced ≡ t.gate.epoch + 1) × MayBeSaved t s z w.running t.gate.epoch

-- it found DONE equal to SNAP: so it is still, with SNAP as it read it, in a traced epoch
pub record Settles (t : Table) (s : Saves) (w : Saver) : Type 0 where
  pub alive : (w.runs ≡ true) ⊎ (w.asks ≡ true)
  pub snap : w.snap ≡ s.snap
  pub rests : IsAtRest s
  pub traced : t.traced ≡ t.gate.epoch + 1

-- the page is saved or new for the checkpoint that was in progress
pub record Guarded (s : Saves) (w : Saver) (page : ℕ) : Type 0 where
  pub recalled : (w.recalled ≡ true) × (0 < w.running)
  pub says : (s.save page ≡ Saved w.running) ⊎ (s.save page ≡ New w.running)

-- before the exchange of SAVE: the word read is of an earlier checkpoint, and the save can do no harm
pub record BeginsSave (s : Saves) (z : Frozen) (v : SaveStep) : Type 0 where
  pub earlier : number_of v.found < v.number
  pub safe : IsSafe s z v.page v.number

-- after it: the checkpoint is in progress, the page is one of it, its SAVE names this worker, and what is copied is as it was
pub record IsSaving (s : Saves) (z : Frozen) (k : ℕ) (v : SaveStep) : Type 0 where
  pub runs : IsInProgress s v.number
  pub held : z.held v.page ≡ true
  pub own : s.save v.page ≡ Saving v.number k
  pub some : v.copied ≤ PAGE_WORDS
  pub copied : (i : ℕ) → i < v.copied → s.image (first_word v.page + i) ≡ z.heap (first_word v.page + i)
  pub loaded : (word : ℕ) → v.word ≡ Some word → (v.copied < PAGE_WORDS) × (word ≡ z.heap (first_word v.page + v.copied))

-- what a scanner's first reads tell, as long as the gate's epoch is theirs: after SNAP, that it still is SNAP, or each open page may
-- be saved for the next number; after DONE, for this number
abbrev pub ReadsTell : (t : Table) (s : Saves) (z : Frozen) → FirstReads → Type 0
ReadsTell t s z NoReads = ⊤
ReadsTell t s z (GateRead epoch) = epoch ≤ t.gate.epoch
ReadsTell t s z (SnapRead epoch c) =
    (epoch ≤ t.gate.epoch) × (c ≤ s.snap)
    × (t.gate.epoch ≡ epoch → (s.snap ≡ c) ⊎ ((t.traced ≡ epoch + 1) × MayBeSaved t s z (c + 1) epoch))
ReadsTell t s z (DoneRead epoch c) =
    (epoch ≤ t.gate.epoch) × (c ≤ s.snap) × (t.gate.epoch ≡ epoch → (t.traced ≡ epoch + 1) × MayBeSaved t s z c epoch)

-- A round is for a checkpoint that was begun, in an epoch that is traced if it is the gate's, and if the checkpoint is in progress it
-- is. Its pages may be saved, and the one found open. If none was busy, the checkpoint's pages that it has passed are saved.
pub record SavesRound (t : Table) (s : Saves) (z : Frozen) (r : SaveRound) : Type 0 where
  pub begun : (r.number ≤ s.snap) × (r.epoch ≤ t.gate.epoch)
  pub traced : t.gate.epoch ≡ r.epoch → t.traced ≡ r.epoch + 1
  pub runs : IsInProgress s r.number → t.gate.epoch ≡ r.epoch
  pub pages : MayBeSaved t s z r.number r.epoch
  pub opened : (page : ℕ) → r.opened ≡ Some page → IsSafe s z page r.number
  pub passed : r.busy ≡ false → IsInProgress s r.number → (page : ℕ) → z.held page ≡ true → HasPassed t.pages r page → s.save page ≡ Saved r.number

-- what worker k knows of checkpoints
pub record KnowsSaving (t : Table) (s : Saves) (z : Frozen) (k : ℕ) (w : Saver) : Type 0 where
  pub recalls : w.recalled ≡ true → RecalledStands t s z w
  pub settles : w.settled ≡ true → Settles t s w
  pub still : (gate : GateWord) → w.still ≡ Some gate → (w.asks ≡ true) × (t.gate ≡ gate) × (gate.running ≡ 0)
  pub guarded : (page : ℕ) → w.guarded ≡ Some page → Guarded s w page
  pub marked : (page : ℕ) → w.marked ≡ Some page → (w.recalled ≡ true) × (s.save page ≡ New s.snap)
  pub begins : (v : SaveStep) → w.save ≡ Some v → v.won ≡ false → BeginsSave s z v
  pub saves : (v : SaveStep) → w.save ≡ Some v → v.won ≡ true → IsSaving s z k v
  pub reads : ReadsTell t s z w.reads
  pub round : (r : SaveRound) → w.round ≡ Some r → SavesRound t s z r

-- worker w saves the page for checkpoint c, and has won the exchange for it
pub record HasWonSave (w : Saver) (p c : ℕ) : Type 0 where
  pub step : SaveStep
  pub is : w.save ≡ Some step
  pub won : step.won ≡ true
  pub page : step.page ≡ p
  pub number : step.number ≡ c

-- ---- all of it

-- each SAVE that says saving names the worker that saves the page, and each worker knows what is so
pub record SavingWorkers (t : Table) (s : Saves) (z : Frozen) (count : ℕ) (saver : ℕ → Saver) : Type 0 where
  pub savers : (page c k : ℕ) → s.save page ≡ Saving c k → (k < count) × HasWonSave (saver k) page c
  pub each : (k : ℕ) → k < count → KnowsSaving t s z k (saver k)

-- what each step keeps of checkpoints, with the same frozen heap unless one is begun
pub record SavingStands (t : Table) (s : Saves) (z : Frozen) (count : ℕ) (saver : ℕ → Saver) : Type 0 where
  pub words : SavingWords t s z
  pub workers : SavingWorkers t s z count saver
