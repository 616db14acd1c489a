-- What a worker learns of checkpoints when it reads SNAP and DONE and in its rounds, what it may forget, and the end of a
-- checkpoint: what is kept of checkpoints then.
use Rattle.std.specs.Prelude.{◌≡◌, ◌≢◌, ℕ, ◌+◌, ◌-◌, ◌*◌, ◌^◌, ◌<◌, ◌==◌, ◌⊎◌, Bool, true, false, Option, Some, None, if◌then◌else◌}
use Rattle.space_map.specs.declared.gate_word.GateWord.{GateWord}
use Rattle.space_map.specs.declared.page_word.PageWord.TheVariants.{Open}
use Rattle.space_map.specs.declared.save_word.SaveWord.{SaveWord}
use Rattle.space_map.specs.declared.save_word.SaveWord.TheVariants.{Saving}
use Rattle.space_map.specs.SaveWord.{number_of}
use Rattle.space_map.specs.Spaces.{board_page, to_space}
use Rattle.heap_state.specs.Functions.{put}
use Rattle.heap_state.specs.Memory.Entries.{Entry}
use Rattle.heap_state.specs.Memory.Table.{Table}
use Rattle.heap_state.specs.Saving.Words.{Saves}
use Rattle.heap_state.specs.Saving.Frozen.{Frozen, IsPageOf}
use Rattle.heap_state.specs.Saving.Savers.{Saver, SaveStep, SaveRound, NoReads, GateRead, SnapRead, DoneRead}
use Rattle.heap_state.specs.Saving.Parts.{SavingWords, SavingStands}
use Rattle.heap_laws.specs.Lifting.{table_after}
use Rattle.heap_laws.specs.Saving.Rows.{Spares, HasPassedAll}
use Rattle.heap_laws.specs.Saving.Snapping.{saver_after_request, saver_running}

-- ---- what a worker may forget

-- what worker w knows of checkpoints, v knows too; and w, if it goes on with that, is still one that runs or asks
pub record KnowsNoMore (w v : Saver) : Type 0 where
  pub recalled : w.recalled ≡ true → (v.recalled ≡ true) × (w.runs ≡ true) × (w.reads_done ≡ v.reads_done) × (w.snap ≡ v.snap) × (w.running ≡ v.running)
  pub settled : w.settled ≡ true → (v.settled ≡ true) × (w.snap ≡ v.snap) × ((w.runs ≡ true) ⊎ (w.asks ≡ true))
  pub still : (gate : GateWord) → w.still ≡ Some gate → (v.still ≡ Some gate) × (w.asks ≡ true)
  pub guarded : (page : ℕ) → w.guarded ≡ Some page → (v.guarded ≡ Some page) × (w.recalled ≡ true)
  pub marked : (page : ℕ) → w.marked ≡ Some page → (v.marked ≡ Some page) × (w.recalled ≡ true)
  pub save : w.save ≡ v.save
  pub reads : (w.reads ≡ NoReads) ⊎ (w.reads ≡ v.reads)
  pub round : (r : SaveRound) → w.round ≡ Some r → v.round ≡ Some r

-- a worker that stores in a row that spares the checkpoints, or in none, may forget what it knows of them
abbrev pub SaversForget : Type 0
SaversForget = (t : Table) (s : Saves) (z : Frozen) (count : ℕ) (saver : ℕ → Saver) (k : ℕ) (e : Option Entry) (w : Saver)
    → SavingStands t s z count saver → k < count → Spares t s z count saver e → KnowsNoMore w (saver k)
    → SavingStands (table_after t e) s z count (put saver k w)

-- worker k becomes what is said, by a store in a row that spares the checkpoints, or in none
abbrev pub KeepsSavingAs : (Saver → Saver) → Type 0
KeepsSavingAs next = (t : Table) (s : Saves) (z : Frozen) (count : ℕ) (saver : ℕ → Saver) (k : ℕ) (e : Option Entry)
    → SavingStands t s z count saver → k < count → Spares t s z count saver e
    → SavingStands (table_after t e) s z count (put saver k (next (saver k)))

-- ---- a mutator begins to run, and stops

-- a mutator that stops
abbrev pub saver_stopped : Saver → Saver
saver_stopped w = record w { runs = false; recalled = false; settled = false; guarded = None; marked = None }

-- the passages of a gate by which it begins to run and stops
pub record RunsKeepSaving : Type 0 where
  pub begun : KeepsSavingAs saver_running
  pub stopped : KeepsSavingAs saver_stopped
  pub asking : KeepsSavingAs saver_after_request

-- ---- one thing that is forgotten

-- a worker that asks for nothing
abbrev pub saver_unsettled : Saver → Saver
saver_unsettled w = record w { settled = false }

-- one that has written its word, or looks at the page again
abbrev pub saver_unguarded : Saver → Saver
saver_unguarded w = record w { guarded = None }

-- one that has opened the page that it had marked as new
abbrev pub saver_unmarked : Saver → Saver
saver_unmarked w = record w { marked = None }

-- one whose round doesn't begin
abbrev pub saver_after_reads : Saver → Saver
saver_after_reads w = record w { reads = NoReads }

-- one whose round has come to its end
abbrev pub saver_after_round : Saver → Saver
saver_after_round w = record w { round = None }

-- each of these may be, also by a store
pub record EachIsForgotten : Type 0 where
  pub unsettled : KeepsSavingAs saver_unsettled
  pub unguarded : KeepsSavingAs saver_unguarded
  pub unmarked : KeepsSavingAs saver_unmarked
  pub after_reads : KeepsSavingAs saver_after_reads
  pub after_round : KeepsSavingAs saver_after_round

-- ---- a round at its stages

-- a round that begins, or that saves a page: it has passed none of its n pages
abbrev pub round_begun : (n number epoch : ℕ) → SaveRound
round_begun n number epoch = record { number = number; epoch = epoch; board = false; upto = n * to_space epoch; busy = false; opened = None }

-- one that has passed the board, and the pages of its space below this one
abbrev pub round_past : (number epoch page : ℕ) → Bool → SaveRound
round_past number epoch page busy = record { number = number; epoch = epoch; board = true; upto = page; busy = busy; opened = None }

-- the page is the board, or the one up to which the round has passed its space
abbrev pub IsNextPage : (n : ℕ) → SaveRound → (page : ℕ) → Type 0
IsNextPage n r page = page ≢ board_page n → r.upto ≡ page

-- the round after it has passed the page
abbrev pub round_passing : (n : ℕ) → SaveRound → (page : ℕ) → SaveRound
round_passing n r page = if page == board_page n then record r { board = true; opened = None } else record r { upto = page + 1; opened = None }

-- From the board it goes on with the space's first page, from one with the one after it; and in the end it has passed all.
pub record RoundsFollow : Type 0 where
  pub board : (n number epoch : ℕ) (busy : Bool)
      → round_passing n (record (round_begun n number epoch) { busy = busy }) (board_page n) ≡ round_past number epoch (n * to_space epoch) busy
  pub pages : (n number epoch page : ℕ) (busy : Bool) → page ≢ board_page n
      → round_passing n (round_past number epoch page busy) page ≡ round_past number epoch (page + 1) busy
  pub all : (n number epoch : ℕ) → HasPassedAll n (round_past number epoch (n * to_space epoch + n) false)

-- ---- what is learnt

-- the checkpoint that is in progress if these are read as SNAP and DONE, or 0
abbrev pub running_by : (number done : ℕ) → ℕ
running_by number done = if done == number then 0 else number

-- a save whose exchange comes next, of a page of which this was read
abbrev pub save_begun : (page number : ℕ) → SaveWord → SaveStep
save_begun page number found = record { page = page; number = number; found = found; won = false; copied = 0; word = None }

-- Worker v becomes this one by a load, stage by stage. A mutator that runs reads SNAP, then DONE. In its round it finds DONE equal to
-- SNAP, in a traced epoch, or else begins with the pages. A scanner reads the gate, SNAP, another DONE, and the gate in the same epoch.
-- In a round a page is found open, or is passed: by another PAGE, by a SAVE of this checkpoint, or as one that another worker saves. Or
-- its SAVE is of an earlier checkpoint, and a save begins.
pub data LearnsOfSaves (t : Table) (s : Saves) (v : Saver) : Saver → Type 0 where
  RecallsSnap : (number : ℕ) → v.runs ≡ true → v.recalled ≡ false → s.snap ≡ number
      → LearnsOfSaves t s v (record v { recalled = true; reads_done = true; snap = number; running = 0; settled = false })
  RecallsDone : (done : ℕ) → v.recalled ≡ true → v.reads_done ≡ true → s.done ≡ done
      → LearnsOfSaves t s v (record v { reads_done = false; running = running_by v.snap done; guarded = None })
  FindsRest : v.recalled ≡ true → s.done ≡ v.snap → t.traced ≡ t.gate.epoch + 1 → LearnsOfSaves t s v (record v { settled = true })
  BeginsRound : (number epoch : ℕ) → v.recalled ≡ true → v.snap ≡ number → s.done ≢ number → t.gate.epoch ≡ epoch
      → LearnsOfSaves t s v (record v { round = Some (round_begun t.pages number epoch) })
  ReadsGate : (epoch : ℕ) → t.gate.epoch ≡ epoch → LearnsOfSaves t s v (record v { reads = GateRead epoch })
  ReadsSnap : (epoch number : ℕ) → v.reads ≡ GateRead epoch → s.snap ≡ number → LearnsOfSaves t s v (record v { reads = SnapRead epoch number })
  ReadsDone : (epoch number : ℕ) → v.reads ≡ SnapRead epoch number → s.done ≢ number → LearnsOfSaves t s v (record v { reads = DoneRead epoch number })
  ReadsGateAgain : (epoch number : ℕ) → v.reads ≡ DoneRead epoch number → t.gate.epoch ≡ epoch
      → LearnsOfSaves t s v (record v { reads = NoReads; round = Some (round_begun t.pages number epoch) })
  FindsOpen : (r : SaveRound) (page : ℕ) → v.round ≡ Some r → IsPageOf t.pages r.epoch page → t.page page ≡ Open r.epoch
      → LearnsOfSaves t s v (record v { round = Some (record r { opened = Some page }) })
  PassesClosed : (r : SaveRound) (page : ℕ) → v.round ≡ Some r → IsNextPage t.pages r page → t.page page ≢ Open r.epoch
      → LearnsOfSaves t s v (record v { round = Some (round_passing t.pages r page) })
  PassesKept : (r : SaveRound) (page : ℕ) (says : SaveWord) → v.round ≡ Some r → IsNextPage t.pages r page → s.save page ≡ says
      → number_of says ≡ r.number → ((worker : ℕ) → says ≢ Saving r.number worker)
      → LearnsOfSaves t s v (record v { round = Some (round_passing t.pages r page) })
  PassesBusy : (r : SaveRound) (page : ℕ) → v.round ≡ Some r → IsNextPage t.pages r page
      → LearnsOfSaves t s v (record v { round = Some (round_passing t.pages (record r { busy = true }) page) })
  BeginsSaving : (r : SaveRound) (page : ℕ) (says : SaveWord) → v.round ≡ Some r → r.opened ≡ Some page → v.save ≡ None → s.save page ≡ says
      → number_of says < r.number
      → LearnsOfSaves t s v (record v { save = Some (save_begun page r.number says); round = Some (round_begun t.pages r.number r.epoch) })

-- a load by which a worker learns of checkpoints leaves what is kept of them
abbrev pub SaversLearn : Type 0
SaversLearn = (t : Table) (s : Saves) (z : Frozen) (count : ℕ) (saver : ℕ → Saver) (k : ℕ) (w : Saver) → SavingStands t s z count saver → k < count
    → LearnsOfSaves t s (saver k) w → SavingStands t s z count (put saver k w)

-- SNAP and DONE are numbers of 32 bits
abbrev pub NumbersFit : Type 0
NumbersFit = (t : Table) (s : Saves) (z : Frozen) → SavingWords t s z → (s.snap < 2 ^ 32) × (s.done < 2 ^ 32)

-- a mutator that has read SNAP and runs reads the same again
abbrev pub NumbersStay : Type 0
NumbersStay = (t : Table) (s : Saves) (z : Frozen) (count : ℕ) (saver : ℕ → Saver) (k : ℕ) → SavingStands t s z count saver → k < count
    → (saver k).recalled ≡ true → s.snap ≡ (saver k).snap

-- ---- the end of a checkpoint

-- if a round has passed all pages, the exchange of DONE leaves what is kept of checkpoints: this one is finished
abbrev pub CheckpointsEnd : Type 0
CheckpointsEnd = (t : Table) (s : Saves) (z : Frozen) (count : ℕ) (saver : ℕ → Saver) (k : ℕ) (r : SaveRound) → SavingStands t s z count saver → k < count
    → (saver k).round ≡ Some r → HasPassedAll t.pages r → s.done ≡ r.number - 1
    → SavingStands t (record s { done = r.number }) z count (put saver k (saver_after_round (saver k)))
