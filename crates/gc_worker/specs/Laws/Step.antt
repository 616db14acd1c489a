-- The law of a step, over the words, what all workers hold, and the plain state: in these alone a caller that steps one worker speaks.
use Rattle.std.specs.Prelude.{◌≡◌, ℕ, ◌+◌, ◌*◌, ◌<◌, ◌≤◌, ◌↔◌, ⊤, Bool, true, false, List, [], length, map, Option, Some, None, slice_index_or, slice_set}
use Rattle.plain_state.specs.State.{Plain}
use Rattle.atom_store.specs.declared.step.Step.{Step}
use Rattle.atom_store.specs.Step.{place_in, words_after, reply_of}
use Rattle.space_map.specs.PageWord.{age_of}
use Rattle.space_map.specs.Table.{Gate, Page, Traced, whole_length}
use Rattle.atom_store.specs.declared.reply.Reply.TheVariants.{Won}
use Rattle.heap_state.specs.Configuration.{Configuration, Stands, era, memory, table, team}
use Rattle.heap_state.specs.Cycles.Cycle.{Cycle}
use Rattle.heap_state.specs.Memory.Table.{word_in, page_word_in}
use Rattle.space_map.specs.Spaces.{Layout, IsInSpace, to_space, without_checkpoints}
use Rattle.space_map.specs.declared.gate_word.GateWord.{GateWord}
use Rattle.gate_core.specs.declared.gate_stage.GateStage.TheVariants as gate_stage
use Rattle.gate_core.specs.declared.passage.Passage.TheVariants.{Clear}
use Rattle.gate_core.specs.declared.snap.snap_stage.SnapStage.TheVariants.{ExchangesSnap}
use Rattle.gate_core.specs.Gate.{Passing}
use Rattle.gate_core.specs.Snap.{Snapping}
use Rattle.heap_state.specs.Saving.Frozen.{Frozen}
use Rattle.heap_state.specs.Saving.Kept.{ShowsSnapped}
use Rattle.heap_state.specs.Saving.Parts.{SavingStands}
use Rattle.heap_state.specs.Saving.Said.{SaysCheckpoint}
use Rattle.heap_state.specs.Saving.Words.{Saves, AreFormedSaves, saves_of}
use Rattle.gc_worker.specs.declared.stage.after.After.{After}
use Rattle.gc_worker.specs.declared.stage.forwarding_register.ForwardingRegister.{ForwardingRegister}
use Rattle.gc_worker.specs.declared.stage.Stage.TheVariants.{Passes, Forwards, BeginsCheckpoint, Gone}
use Rattle.gc_worker.specs.Workers.Fits.{Fits, Takes}
use Rattle.gc_worker.specs.Plain.Answer.{IsAnswered, after_told}
use Rattle.gc_worker.specs.Plain.Empty.{empty_cells}
use Rattle.gc_worker.specs.Plain.Full.{FullWhereTold}
use Rattle.gc_worker.specs.Workers.Held.{Held, pages_needed}
use Rattle.gc_worker.specs.Workers.Knows.{knows}
use Rattle.gc_worker.specs.Workers.Saves.{saver_of}
use Rattle.gc_worker.specs.Steps.Turned.{Told, Silent, Empties, Answers, Marks, PageWon, epoch_said, turned, told, won}
use Rattle.gc_worker.specs.Steps.Wanted.{wanted}

-- ---- a heap with its workers

-- the pages of a space, whether checkpoints can be begun, the words of the table, the number of mutators, and what each worker holds:
-- the mutators first
pub record Heap : Type 0 where
  pub pages : ℕ
  pub checkpoints : Bool
  pub words : List ℕ
  pub mutators : ℕ
  pub workers : List Held

-- the configuration that it is to the proofs of the heap
abbrev pub read : Heap → Configuration
read h = record { pages = h.pages; words = h.words; mutators = h.mutators; workers = map knows h.workers }

abbrev pub nobody : Held
nobody = record {
  number = 0;
  layout = without_checkpoints 0;
  mutators = 0;
  prints = false;
  epoch = 0;
  begun = 0;
  snap = 0;
  running = 0;
  account = record { counter = 0; printed = []; executed = 0; serial = 0; end = None };
  registers = [];
  run = None;
  task = None;
  stage = Gone;
}

abbrev pub held_at : Heap → ℕ → Held
held_at h k = slice_index_or h.workers k nobody

abbrev pub layout_of : Heap → Layout
layout_of h = record { pages = h.pages; checkpoints = h.checkpoints }

-- what the words say of checkpoints
abbrev pub saves_in : Heap → Saves
saves_in h = saves_of h.pages h.words

-- The words of checkpoints can be read, and what is kept of the last one stands for what the plain heap has kept of it.
pub record CheckpointsStand (h : Heap) (p : Plain) : Type 0 where
  pub formed : AreFormedSaves h.pages h.words
  pub frozen : Frozen
  pub stands : SavingStands (table (read h)) (saves_in h) frozen (length h.workers) (λ k. saver_of (held_at h k))
  pub shows : ShowsSnapped h.pages (saves_in h) frozen p.heap

-- if they can be begun
abbrev pub StandIf : (checkpoints : Bool) → Heap → Plain → Type 0
StandIf true h p = CheckpointsStand h p
StandIf false h p = ⊤

-- The heap stands for the plain state p, and keeps what a cycle keeps that began at o. Each worker is sound, and at its own number; it
-- has the layout of the heap, whose table is whole. What is kept of checkpoints stands too, if they can be begun.
pub record WorkersStand (h : Heap) (p o : Plain) : Type 0 where
  pub stands : Stands (read h) p
  pub cycle : Cycle (era (read h)) (memory (read h)) (team (read h)) stands.ghost o
  pub fit : (k : ℕ) → k < length h.workers → Fits h.pages h.mutators k (held_at h k)
  pub laid_out : (k : ℕ) → k < length h.workers → (held_at h k).layout.checkpoints ≡ h.checkpoints
  pub whole : whole_length (layout_of h) ≤ length h.words
  pub saving : StandIf h.checkpoints h p

-- ---- a step

-- worker k, which holds x, makes the step
abbrev pub moved : Heap → (k : ℕ) → Held → Step → Heap
moved h k x q = record h { words = words_after q h.words; workers = slice_set h.workers k (turned x (reply_of q h.words)) }

-- the plain state at the last flip, after a step that is this to the plain machine
abbrev pub at_flip : (p o : Plain) → Told → Plain
at_flip p o Silent = o
at_flip p o Empties = o
at_flip p o (Answers task outcome) = o
at_flip p o (Marks asked) = p

-- the epoch that the gate says
abbrev pub epoch_of : ℕ → List ℕ → ℕ
epoch_of n words = epoch_said 0 (word_in n words Gate)

-- the words say that the gate's epoch is traced
abbrev pub IsTracedIn : ℕ → List ℕ → Type 0
IsTracedIn n words = word_in n words Traced ≡ epoch_of n words + 1

-- the epoch that a page's word says, and one more, or 0
abbrev pub age : ℕ → List ℕ → (page : ℕ) → ℕ
age n words page = age_of (page_word_in (word_in n words (Page page)))

-- the page's word is of this epoch or a later one, so nobody can win the page in it any more
pub record IsOut (n : ℕ) (words : List ℕ) (w : PageWon) : Type 0 where
  pub page : w.page ≤ 2 * n
  pub epoch : w.epoch < age n words w.page

abbrev pub WinsOne : ℕ → List ℕ → List ℕ → Option PageWon → Type 0
WinsOne n words later None = ⊤
WinsOne n words later (Some w) = ¬ (IsOut n words w) × IsOut n later w

-- The epoch stays, and it is traced after the step if and only if it was before.
pub record EpochStays (n : ℕ) (words later : List ℕ) : Type 0 where
  pub epoch : epoch_of n later ≡ epoch_of n words
  pub traced : IsTracedIn n later ↔ IsTracedIn n words

-- The epoch stays. It wasn't traced before the step, and is after it.
pub record EpochIsTraced (n : ℕ) (words later : List ℕ) : Type 0 where
  pub epoch : epoch_of n later ≡ epoch_of n words
  pub before : ¬ (IsTracedIn n words)
  pub traced : IsTracedIn n later

-- A flip is for the pages that the flipper's task asks for, and is the gate's step into the next epoch, which isn't traced.
pub record FlipsOnce (n : ℕ) (words later : List ℕ) (x : Held) (asked : ℕ) : Type 0 where
  pub asked_is : asked ≡ pages_needed x
  pub epoch : epoch_of n words ≡ x.epoch
  pub next : epoch_of n later ≡ x.epoch + 1
  pub untraced : ¬ (IsTracedIn n later)

-- an epoch begins where a flip is told, is traced from where that is told on, and else stays as it is
abbrev pub FlipsWhereTold : (n : ℕ) → (words later : List ℕ) → Held → Told → Type 0
FlipsWhereTold n words later x Silent = EpochStays n words later
FlipsWhereTold n words later x Empties = EpochIsTraced n words later
FlipsWhereTold n words later x (Answers task outcome) = EpochStays n words later
FlipsWhereTold n words later x (Marks asked) = FlipsOnce n words later x asked

-- The step is of a word of the table, and the worker may take the reply, after which it is sound. Where it answers the task, the plain
-- machine's mutator may come to that, and the heap stands for the plain state after it; where it tells that the epoch is traced, for that in
-- which the cells are empty whose targets are the number 0; else for the same plain state. What a cycle keeps it keeps, and a cycle begins
-- at a flip. What is out stays out, and a page that is won was not out before and is out after. Where the
-- heap is said to be full, it is; a flip, and nothing else, raises the epoch by one. An epoch becomes traced at the step that tells so, and
-- at no other, and stays so until a flip.
pub record StepKeeps (h : Heap) (p o : Plain) (k : ℕ) (x : Held) (q : Step) : Type 0 where
  pub place : place_in q < length h.words
  pub takes : Takes x (reply_of q h.words)
  pub fits : Fits h.pages h.mutators k (turned x (reply_of q h.words))
  pub answered : IsAnswered p k (told x (reply_of q h.words))
  pub stands : WorkersStand (moved h k x q) (after_told (empty_cells (read (moved h k x q))) p k (told x (reply_of q h.words))) (at_flip p o (told x (reply_of q h.words)))
  pub kept : (w : PageWon) → IsOut h.pages h.words w → IsOut h.pages (words_after q h.words) w
  pub wins : WinsOne h.pages h.words (words_after q h.words) (won x (reply_of q h.words))
  pub full : FullWhereTold h.pages h.words x (told x (reply_of q h.words))
  pub flips : FlipsWhereTold h.pages h.words (words_after q h.words) x (told x (reply_of q h.words))

abbrev pub StepsKeep : Type 0
StepsKeep = (h : Heap) (p o : Plain) (k : ℕ) (x : Held) (q : Step) → WorkersStand h p o → k < length h.workers → held_at h k ≡ x → wanted x ≡ Some q
    → StepKeeps h p o k x q

-- the exchange by which a checkpoint is begun is never lost
abbrev pub SnapsAreWon : Type 0
SnapsAreWon = (h : Heap) (p o : Plain) (k : ℕ) (x : Held) (s : Snapping) (gate : GateWord) (q : Step) → WorkersStand h p o → k < length h.workers → held_at h k ≡ x
    → x.stage ≡ BeginsCheckpoint (record s { stage = ExchangesSnap gate }) → wanted x ≡ Some q → reply_of q h.words ≡ Won

-- nor that by which its request is cleared
abbrev pub ClearsAreWon : Type 0
ClearsAreWon = (h : Heap) (p o : Plain) (k : ℕ) (x : Held) (g : Passing) (after : After) (gate : GateWord) (q : Step) → WorkersStand h p o → k < length h.workers → held_at h k ≡ x
    → x.stage ≡ Passes (record g { passage = Clear; stage = gate_stage.Exchanges gate }) after → wanted x ≡ Some q → reply_of q h.words ≡ Won

-- The words say what the plain heap has kept at the last `snap`, whatever the workers are about to do.
abbrev pub CheckpointsAreKept : Type 0
CheckpointsAreKept = (h : Heap) (p o : Plain) → WorkersStand h p o → h.checkpoints ≡ true → SaysCheckpoint h.pages h.words p.heap.snaps p.heap.snapped

-- The place of a step is in the table by what the worker holds alone: a caller asks for it before it knows any word.
abbrev pub PlacesFit : Type 0
PlacesFit = (n mutators k : ℕ) (x : Held) (q : Step) → Fits n mutators k x → wanted x ≡ Some q → place_in q < whole_length x.layout

-- a register whose record is being copied leads into the space that was copied into in the mutator's own epoch
abbrev pub RegistersLeadBack : Type 0
RegistersLeadBack = (h : Heap) (p o : Plain) (k : ℕ) (x : Held) (w : ForwardingRegister) → WorkersStand h p o → k < length h.workers → held_at h k ≡ x
    → x.stage ≡ Forwards w → IsInSpace h.pages w.evac.addr (to_space x.epoch)
