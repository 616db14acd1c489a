-- What holds of the steps of a lone mutator: none is in vain.
use Rattle.std.specs.Prelude.{◌≡◌, ℕ, ◌+◌, ◌<◌, ◌≤◌, ⊤, Bool, true, false, List, length, Some, None}
use Rattle.plain_state.specs.State.{Plain}
use Rattle.atom_store.specs.declared.step.Step.{Step}
use Rattle.atom_store.specs.Step.{words_after, reply_of}
use Rattle.space_map.specs.declared.spaces.TheConstants.{FEWEST_PAGES}
use Rattle.space_map.specs.Spaces.{IsPageCount, Layout}
use Rattle.space_map.specs.declared.save_word.SaveWord.TheVariants.{Saving}
use Rattle.heap_state.specs.Configuration.{Configuration, table}
use Rattle.heap_state.specs.Memory.Table.{Table, table_of}
use Rattle.heap_state.specs.Saving.Frozen.{Frozen}
use Rattle.heap_state.specs.Saving.Parts.{HasWonSave, KnowsSaving, SavingWords}
use Rattle.heap_state.specs.Saving.Words.{AreFormedSaves, Saves, saves_of}
use Rattle.gc_worker.specs.declared.task.Task.{Task}
use Rattle.gc_worker.specs.Laws.Between.{opening_heap, with_task, with_worker}
use Rattle.gc_worker.specs.Steps.Goes.{Is}
use Rattle.gc_worker.specs.Workers.Held.{Held}
use Rattle.gc_worker.specs.Workers.Saves.{saver_of}
use Rattle.gc_worker.specs.Laws.Step.{Heap, WorkersStand, held_at, layout_of, moved}
use Rattle.gc_worker.specs.Steps.Stepped.{awaits}
use Rattle.gc_worker.specs.declared.calls.did.Did.TheVariants.{Done, Trap}
use Rattle.gc_worker.specs.Steps.Turned.{Told, Silent, Empties, Answers, Marks, turned, told}
use Rattle.gc_worker.specs.Steps.Wanted.{wanted}
use Rattle.lone_mutator.specs.Bound.{most_steps_of}
use Rattle.lone_mutator.specs.Lone.{IsLone, Remembers, NobodyElseAnnounces, potential}
use Rattle.lone_mutator.specs.Potential.{potential_in}
use Rattle.lone_mutator.specs.Saving.{saving_in}

-- ---- one step that says nothing of checkpoints, by what the table says

-- the mutator x becomes y: what it remembers is so, and it has less to pay
pub record Lowers (n : ℕ) (s : Saves) (before after : Table) (x y : Held) : Type 0 where
  pub remembers : Remembers after s y
  pub falls : potential_in n after y < potential_in n before x

-- An effect leaves it where it rests, where nobody announces a place; after an end nothing is asked.
abbrev pub LowersWhereTold : ℕ → Saves → (before after : Table) → (x y : Held) → Told → Type 0
LowersWhereTold n s before after x y Silent = Lowers n s before after x y
LowersWhereTold n s before after x y Empties = Lowers n s before after x y
LowersWhereTold n s before after x y (Answers task Done) = NobodyElseAnnounces after.announced false
LowersWhereTold n s before after x y (Answers task (Trap end)) = ⊤
LowersWhereTold n s before after x y (Marks asked) = Lowers n s before after x y

-- ---- one step, by what the table says and what is said of checkpoints

-- the words of a heap
pub record Said : Type 0 where
  pub table : Table
  pub saves : Saves

abbrev pub said : ℕ → List ℕ → Said
said n words = record { table = table_of n words; saves = saves_of n words }

-- what is still to be paid, for a checkpoint in progress too
abbrev pub left_to_pay : (n : ℕ) (checkpoints : Bool) → Said → Held → ℕ
left_to_pay n checkpoints w x = potential_in n w.table x + saving_in checkpoints n w.saves

pub record Pays (n : ℕ) (checkpoints : Bool) (before after : Said) (x y : Held) : Type 0 where
  pub remembers : Remembers after.table after.saves y
  pub falls : left_to_pay n checkpoints after y < left_to_pay n checkpoints before x

abbrev pub PaysWhereTold : (n : ℕ) (checkpoints : Bool) → (before after : Said) → (x y : Held) → Told → Type 0
PaysWhereTold n checkpoints before after x y Silent = Pays n checkpoints before after x y
PaysWhereTold n checkpoints before after x y Empties = Pays n checkpoints before after x y
PaysWhereTold n checkpoints before after x y (Answers task Done) = NobodyElseAnnounces after.table.announced false
PaysWhereTold n checkpoints before after x y (Answers task (Trap end)) = ⊤
PaysWhereTold n checkpoints before after x y (Marks asked) = Pays n checkpoints before after x y

-- ---- a worker by itself

-- what the words of a configuration say of checkpoints
abbrev pub saves : Configuration → Saves
saves c = saves_of c.pages c.words

-- The words of checkpoints can be read, and are as worker x, the only one, knows them: no other saves a page.
pub record SavesStand (c : Configuration) (x : Held) : Type 0 where
  pub formed : AreFormedSaves c.pages c.words
  pub frozen : Frozen
  pub words : SavingWords (table c) (saves c) frozen
  pub knows : KnowsSaving (table c) (saves c) frozen 0 (saver_of x)
  pub savers : (page number k : ℕ) → (saves c).save page ≡ Saving number k → HasWonSave (saver_of x) page number

-- worker x is the only one of a configuration, a mutator without an end, and what it remembers is so
pub record IsAlone (c : Configuration) (x : Held) : Type 0 where
  pub is : Is c 0 x
  pub one : length c.workers ≡ 1
  pub alone : c.mutators ≡ 1
  pub no_end : x.account.end ≡ None
  pub remembers : Remembers (table c) (saves c) x
  pub stands : x.layout.checkpoints ≡ true → SavesStand c x

-- what a stage owes: its next step, if there is one, lowers what is still to be paid
abbrev pub StepsLower : Configuration → Held → Type 0
StepsLower c x = (q : Step) → wanted x ≡ Some q
    → PaysWhereTold c.pages x.layout.checkpoints (said c.pages c.words) (said c.pages (words_after q c.words)) x (turned x (reply_of q c.words)) (told x (reply_of q c.words))

-- ---- the law

-- After a step that answers nothing, or flips, the mutator is alone as before and has less to pay. After an effect it has to pay less
-- than the most steps of an instruction, and has executed one more. Else it has an end.
abbrev pub AfterStep : (h later : Heap) → Told → Type 0
AfterStep h later Silent = IsLone later × (potential later < potential h) × ((held_at later 0).account.executed ≡ (held_at h 0).account.executed)
AfterStep h later Empties = IsLone later × (potential later < potential h) × ((held_at later 0).account.executed ≡ (held_at h 0).account.executed)
AfterStep h later (Answers task Done) = IsLone later × (potential later < most_steps_of (layout_of h)) × ((held_at later 0).account.executed ≡ (held_at h 0).account.executed + 1)
AfterStep h later (Answers task (Trap end)) = (held_at later 0).account.end ≡ Some end
AfterStep h later (Marks asked) = IsLone later × (potential later < potential h) × ((held_at later 0).account.executed ≡ (held_at h 0).account.executed)

-- each step of a lone mutator that has a task where it looks at the gate
abbrev pub LoneStepsLower : Type 0
LoneStepsLower = (h : Heap) (p o : Plain) (x : Held) (q : Step) → WorkersStand h p o → IsLone h → held_at h 0 ≡ x → awaits x ≡ false → wanted x ≡ Some q
    → AfterStep h (moved h 0 x q) (told x (reply_of q h.words))

-- a task changes nothing of it
abbrev pub LoneTasksBegin : Type 0
LoneTasksBegin = (h : Heap) (task : Task) → IsLone h
    → IsLone (with_worker h 0 (with_task (held_at h 0) task)) × (potential (with_worker h 0 (with_task (held_at h 0) task)) ≡ potential h)

-- a heap of one mutator without scanners opens so
abbrev pub LoneHeapsOpen : Type 0
LoneHeapsOpen = (prints : Bool) (l : Layout) (least : ℕ) → IsPageCount l.pages → FEWEST_PAGES ≤ least → least ≤ l.pages
    → IsLone (opening_heap prints l least 1 0) × (potential (opening_heap prints l least 1 0) < most_steps_of l)
