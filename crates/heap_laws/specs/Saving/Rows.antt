-- Rows that a checkpoint in progress doesn't own: which stores in them spare it, and what is kept of it then, at a flip and at the
-- opening. And when all of its pages are saved.
use Rattle.std.specs.Prelude.{◌≡◌, ◌≢◌, ℕ, ◌+◌, ◌*◌, ◌<◌, ◌≤◌, ◌⊎◌, true, false, Option, Some, None}
use Rattle.plain_state.specs.declared.kind.Kind.TheVariants.{Fields}
use Rattle.space_map.specs.declared.area_word.AreaWord.{AreaWord}
use Rattle.space_map.specs.declared.gate_word.GateWord.{GateWord}
use Rattle.space_map.specs.declared.page_word.PageWord.{PageWord}
use Rattle.space_map.specs.declared.page_word.PageWord.TheVariants.{Open}
use Rattle.space_map.specs.declared.save_word.SaveWord.TheVariants.{Unsaved, Saving, Saved}
use Rattle.space_map.specs.SaveWord.{number_of}
use Rattle.space_map.specs.Spaces.{page_of, to_space}
use Rattle.heap_state.specs.Functions.{put}
use Rattle.heap_state.specs.Memory.Entries.{Entry, GateIs, TracedIs, AreaIs, WeakIs, WeakTurnIs, SizeIs, PageIs, CrossIs, WordIs, AnnounceIs}
use Rattle.heap_state.specs.Memory.Table.{Table}
use Rattle.heap_state.specs.Saving.Words.{Saves, IsInProgress, IsAtRest}
use Rattle.heap_state.specs.Saving.Frozen.{Frozen}
use Rattle.heap_state.specs.Saving.Savers.{Saver, SaveRound, NoReads}
use Rattle.heap_state.specs.Saving.Parts.{SavingWords, SavesRound, KnowsSaving, HasWonSave, SavingStands}
use Rattle.heap_laws.specs.Lifting.{table_after}

-- ---- which stores spare it

-- no worker has found the gate with nobody running, to begin a checkpoint
abbrev pub NobodyIsStill : (count : ℕ) (saver : ℕ → Saver) → Type 0
NobodyIsStill count saver = (k : ℕ) → k < count → (saver k).still ≡ None

-- The row that is written, or none, spares the checkpoints. A word on a page of one in progress is written only once the page is
-- saved, and what PAGE says of it stays. A page is opened in this epoch alone, and its SAVE is of the last checkpoint, or the epoch
-- isn't traced. TRACED is written when the epoch becomes traced, and the gate, in its epoch, if nobody is still.
pub data Spares (t : Table) (s : Saves) (z : Frozen) (count : ℕ) (saver : ℕ → Saver) : Option Entry → Type 0 where
  SparesNone : Spares t s z count saver None
  SparesCross : (page place : ℕ) → Spares t s z count saver (Some (CrossIs page place))
  SparesAnnounce : (worker place : ℕ) → Spares t s z count saver (Some (AnnounceIs worker place))
  SparesArea : (space : ℕ) (area : AreaWord) → Spares t s z count saver (Some (AreaIs space area))
  SparesWeak : (word : ℕ) → Spares t s z count saver (Some (WeakIs word))
  SparesWeakTurn : (word : ℕ) → Spares t s z count saver (Some (WeakTurnIs word))
  SparesSize : (space pages : ℕ) → Spares t s z count saver (Some (SizeIs space pages))
  SparesWord : (addr word : ℕ) → (s.done < s.snap → z.held (page_of addr) ≡ true → s.save (page_of addr) ≡ Saved s.snap)
      → Spares t s z count saver (Some (WordIs addr word))
  SparesPage : (page : ℕ) (word : PageWord) → (s.done < s.snap → z.held page ≡ false)
      → ((v : ℕ) → word ≡ Open v → (v ≡ t.gate.epoch) × ((s.snap ≤ number_of (s.save page)) ⊎ (t.traced ≢ t.gate.epoch + 1)))
      → Spares t s z count saver (Some (PageIs page word))
  SparesTraced : (word : ℕ) → t.traced ≢ t.gate.epoch + 1 → word ≡ t.gate.epoch + 1 → Spares t s z count saver (Some (TracedIs word))
  SparesGate : (gate : GateWord) → gate.epoch ≡ t.gate.epoch → NobodyIsStill count saver → Spares t s z count saver (Some (GateIs gate))

-- a store that spares the checkpoints leaves what is kept of them
abbrev pub RowsAreSpared : Type 0
RowsAreSpared = (t : Table) (s : Saves) (z : Frozen) (count : ℕ) (saver : ℕ → Saver) (e : Option Entry) → SavingStands t s z count saver
    → Spares t s z count saver e → SavingStands (table_after t e) s z count saver

-- ---- a worker becomes another

-- worker k becomes w, if w knows what is so, and has won each save for which a SAVE names k
abbrev pub SaverChanges : Type 0
SaverChanges = (t : Table) (s : Saves) (z : Frozen) (count : ℕ) (saver : ℕ → Saver) (k : ℕ) (w : Saver) → SavingStands t s z count saver
    → k < count → KnowsSaving t s z k w → ((page c : ℕ) → s.save page ≡ Saving c k → HasWonSave w page c)
    → SavingStands t s z count (put saver k w)

-- A step of worker k that stores in a row, or in none, leaves what is kept of checkpoints, if the row spares them, and the worker
-- knows what is so before the store. It isn't still unless it was.
abbrev pub StepsAreSpared : Type 0
StepsAreSpared = (t : Table) (s : Saves) (z : Frozen) (count : ℕ) (saver : ℕ → Saver) (k : ℕ) (e : Option Entry) (w : Saver)
    → SavingStands t s z count saver → k < count → Spares t s z count saver e → KnowsSaving t s z k w
    → ((page c : ℕ) → s.save page ≡ Saving c k → HasWonSave w page c) → ((gate : GateWord) → w.still ≡ Some gate → (saver k).still ≡ Some gate)
    → SavingStands (table_after t e) s z count (put saver k w)

-- ---- the flip

-- Worker k may flip: no checkpoint is in progress, nobody has recalled one or is still, and but for k nobody has found DONE equal
-- to SNAP.
pub record MayFlip (s : Saves) (count : ℕ) (saver : ℕ → Saver) (k : ℕ) : Type 0 where
  pub rests : IsAtRest s
  pub recalled : (j : ℕ) → j < count → (saver j).recalled ≡ false
  pub settled : (j : ℕ) → j < count → j ≢ k → (saver j).settled ≡ false
  pub still : NobodyIsStill count saver

-- it may if it has found DONE equal to SNAP and isn't still, nobody runs, and nobody else holds the request
abbrev pub SettledMayFlip : Type 0
SettledMayFlip = (t : Table) (s : Saves) (z : Frozen) (count : ℕ) (saver : ℕ → Saver) (k : ℕ) → SavingStands t s z count saver → k < count
    → (saver k).settled ≡ true → (saver k).still ≡ None → ((j : ℕ) → j < count → (saver j).runs ≡ false)
    → ((j : ℕ) → j < count → j ≢ k → (saver j).asks ≡ false) → MayFlip s count saver k

-- the flipper after the flip
abbrev pub saver_after_flip : Saver → Saver
saver_after_flip w = record w { asks = false; settled = false }

-- a flip leaves what is kept of checkpoints
abbrev pub FlipsAreSpared : Type 0
FlipsAreSpared = (t : Table) (s : Saves) (z : Frozen) (count : ℕ) (saver : ℕ → Saver) (k : ℕ) (gate : GateWord) → SavingStands t s z count saver
    → k < count → gate.epoch ≡ t.gate.epoch + 1 → MayFlip s count saver k
    → SavingStands (table_after t (Some (GateIs gate))) s z count (put saver k (saver_after_flip (saver k)))

-- ---- the end

-- a round has passed the board and the n pages of its space, and none of them was being saved by another worker
pub record HasPassedAll (n : ℕ) (r : SaveRound) : Type 0 where
  pub board : r.board ≡ true
  pub pages : n * to_space r.epoch + n ≤ r.upto
  pub free : r.busy ≡ false

-- checkpoint c is in progress, and each page of it is saved
pub record AllAreSaved (s : Saves) (z : Frozen) (c : ℕ) : Type 0 where
  pub runs : IsInProgress s c
  pub saved : (page : ℕ) → z.held page ≡ true → s.save page ≡ Saved c

-- all pages are saved if a round has passed all, as long as DONE says that its checkpoint isn't finished
abbrev pub PassedRoundsHaveSaved : Type 0
PassedRoundsHaveSaved = (t : Table) (s : Saves) (z : Frozen) (r : SaveRound) → SavingWords t s z → SavesRound t s z r → HasPassedAll t.pages r
    → s.done + 1 ≡ r.number → AllAreSaved s z r.number

-- ---- the opening

-- no checkpoint was begun, and no page is held
pub record NoneWasBegun (s : Saves) (z : Frozen) : Type 0 where
  pub snap : s.snap ≡ 0
  pub done : s.done ≡ 0
  pub save : (page : ℕ) → s.save page ≡ Unsaved
  pub held : (page : ℕ) → z.held page ≡ false

-- the worker knows nothing of checkpoints
pub record KnowsNothing (w : Saver) : Type 0 where
  pub recalled : w.recalled ≡ false
  pub settled : w.settled ≡ false
  pub still : w.still ≡ None
  pub guarded : w.guarded ≡ None
  pub marked : w.marked ≡ None
  pub save : w.save ≡ None
  pub reads : w.reads ≡ NoReads
  pub round : w.round ≡ None

-- what is kept of checkpoints holds before the first one was begun, while nobody knows of one
abbrev pub SavesOpen : Type 0
SavesOpen = (t : Table) (s : Saves) (z : Frozen) (count : ℕ) (saver : ℕ → Saver) → NoneWasBegun s z
    → ((k : ℕ) → k < count → KnowsNothing (saver k)) → SavingStands t s z count saver

-- the frozen heap of then, in which nothing is held
abbrev pub nothing_frozen : Frozen
nothing_frozen = record {
  held = λ page. false;
  heap = λ addr. 0;
  size = λ addr. 0;
  kind = λ addr. Fields;
  identity = λ addr. record { mutator = 0; serial = 0 };
}
