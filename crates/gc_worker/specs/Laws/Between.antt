-- What is so between any two steps, how a heap begins, and what a worker may become without a step.
use Rattle.std.specs.Prelude.{◌≡◌, ◌≢◌, ℕ, ◌+◌, ◌<◌, ◌≤◌, ◌↔◌, ◌⊎◌, ◌||◌, ⊤, Bool, List, [], length, true, Some, None, nat_lt, replicate, slice_get, slice_index, slice_set, if◌then◌else◌, zero, suc, ◌∷◌}
use Rattle.heap_words.specs.declared.kind.Kind.{Kind}
use Rattle.heap_words.specs.Decoded.{NumberWord, PointerWord, HeaderWord, decode}
use Rattle.plain_state.specs.declared.end.End.{End}
use Rattle.plain_state.specs.declared.value.Identity.{Identity}
use Rattle.plain_state.specs.declared.value.Value.TheVariants.{Number, Reference}
use Rattle.plain_state.specs.declared.sizes.TheConstants.{REGISTERS}
use Rattle.plain_state.specs.State.{Mutator, Plain, serial_of}
use Rattle.space_map.specs.declared.spaces.TheConstants.{FEWEST_PAGES, MOST_MUTATORS, MOST_SCANNERS}
use Rattle.space_map.specs.Spaces.{Layout, IsInSpace, IsPageCount, to_space}
use Rattle.space_map.specs.Table.{HeapWord, table_length}
use Rattle.atom_store.specs.declared.reply.Reply.{Reply}
use Rattle.fault_duty.specs.declared.caller.Caller.TheVariants as callers
use Rattle.fault_duty.specs.Duty as duty
use Rattle.gate_core.specs.declared.passage.Passage.TheVariants.{Attach, Clear}
use Rattle.heap_state.specs.Memory.Entries.{written}
use Rattle.heap_state.specs.Memory.Table.{word_in}
use Rattle.heap_state.specs.Saving.Written.{written_whole}
use Rattle.heap_state.specs.Theorems.Standing.{IsSound}
use Rattle.heap_state.specs.Meaning.Values.{Accounts}
use Rattle.heap_state.specs.Known.{Post, is_asking, is_running}
use Rattle.heap_laws.specs.Opening.{opening_entries, opening_plain}
use Rattle.gc_worker.specs.declared.stage.after.After.TheVariants as afters
use Rattle.gc_worker.specs.declared.stage.back.Back.TheVariants.{ToScanner}
use Rattle.gc_worker.specs.declared.stage.Stage.{Stage}
use Rattle.gc_worker.specs.declared.stage.Stage.TheVariants.{Looks, Passes, Serves, Gone}
use Rattle.gc_worker.specs.declared.task.Task.{Task}
use Rattle.gc_worker.specs.Plain.Answer.{after_told}
use Rattle.gc_worker.specs.Workers.Fits.{Fits, MayBegin}
use Rattle.gc_worker.specs.Workers.Held.{Held}
use Rattle.gc_worker.specs.Workers.Knows.{knows, post_in}
use Rattle.gc_worker.specs.Workers.Saves.{saver_of}
use Rattle.gc_worker.specs.Laws.Step.{Heap, read, held_at, WorkersStand, epoch_of}
use Rattle.gc_worker.specs.declared.calls.did.Did.{Did}
use Rattle.gc_worker.specs.declared.calls.did.Did.TheVariants.{Done, Trap}
use Rattle.gc_worker.specs.Steps.Stepped.{IsBeginningCheckpoint}
use Rattle.gc_worker.specs.Steps.Turned.{Told, Silent, Empties, Answers, Marks, passes, turned, told}
use Rattle.gc_worker.specs.Steps.Wanted.{wanted}

-- ---- how it begins

-- Worker k before its first step: a mutator that is about to attach, or a scanner before its first round. Mutators may print, or none of
-- them may.
abbrev pub fresh : (prints : Bool) → Layout → (mutators k : ℕ) → Held
fresh prints layout mutators k = record {
  number = k;
  layout = layout;
  mutators = mutators;
  prints = prints;
  epoch = 0;
  begun = 0;
  snap = 0;
  running = 0;
  account = record { counter = 0; printed = []; executed = 0; serial = 0; end = None };
  registers = replicate REGISTERS 0;
  run = None;
  task = None;
  stage = Gone;
}

abbrev pub fresh_mutator : (prints : Bool) → Layout → (mutators k : ℕ) → Held
fresh_mutator prints layout mutators k = let x = fresh prints layout mutators k in record x { stage = passes x Attach afters.Looks }

abbrev pub fresh_scanner : (prints : Bool) → Layout → (mutators k : ℕ) → Held
fresh_scanner prints layout mutators k = let x = fresh prints layout mutators k in record x { stage = Serves (duty.begun x.layout (callers.Scans mutators) 0 k) ToScanner }

abbrev pub fresh_worker : (prints : Bool) → Layout → (mutators k : ℕ) → Held
fresh_worker prints layout mutators k = if nat_lt k mutators then fresh_mutator prints layout mutators k else fresh_scanner prints layout mutators k

-- so many workers from this number on
unfoldable pub fresh_workers : (prints : Bool) → Layout → (mutators from count : ℕ) → List Held
fresh_workers prints layout mutators from zero = []
fresh_workers prints layout mutators from (suc count) = fresh_worker prints layout mutators from ∷ fresh_workers prints layout mutators (from + 1) count

-- at first so many pages of each space are in use, and nothing is said of checkpoints
abbrev pub opening_words : Layout → (least : ℕ) → List ℕ
opening_words layout least =
    if layout.checkpoints then written_whole layout.pages (opening_entries layout.pages least) else written layout.pages (opening_entries layout.pages least)

abbrev pub opening_heap : (prints : Bool) → Layout → (least mutators scanners : ℕ) → Heap
opening_heap prints layout least mutators scanners = record {
  pages = layout.pages;
  checkpoints = layout.checkpoints;
  words = opening_words layout least;
  mutators = mutators;
  workers = fresh_workers prints layout mutators 0 (mutators + scanners);
}

-- it stands for the plain state in which nothing was made yet, and a cycle begins there
abbrev pub HeapsOpen : Type 0
HeapsOpen = (prints : Bool) (layout : Layout) (least mutators scanners : ℕ) → IsPageCount layout.pages → FEWEST_PAGES ≤ least → least ≤ layout.pages → mutators ≤ MOST_MUTATORS → mutators + scanners ≤ MOST_MUTATORS + MOST_SCANNERS
    → WorkersStand (opening_heap prints layout least mutators scanners) (opening_plain mutators) (opening_plain mutators)

-- ---- what a worker may become without a step

-- to the proofs of the heap it is the same, and it is still sound
pub record Readies (n mutators k : ℕ) (was now : Held) : Type 0 where
  pub same : knows now ≡ knows was
  pub saver : saver_of now ≡ saver_of was
  pub layout : now.layout ≡ was.layout
  pub fits : Fits n mutators k was → Fits n mutators k now

abbrev pub with_worker : Heap → (k : ℕ) → Held → Heap
with_worker h k x = record h { workers = slice_set h.workers k x }

abbrev pub ReadyingStands : Type 0
ReadyingStands = (h : Heap) (p o : Plain) (k : ℕ) (now : Held) → WorkersStand h p o → k < length h.workers
    → Readies h.pages h.mutators k (held_at h k) now → WorkersStand (with_worker h k now) p o

-- a mutator that has no end, and no task that it has not answered
pub record IsIdle (x : Held) : Type 0 where
  pub is_mutator : x.number < x.mutators
  pub no_end : x.account.end ≡ None
  pub no_task : x.task ≡ None

abbrev pub with_task : Held → Task → Held
with_task x task = record x { task = Some task }

-- it is as it was, or was given a task where it had none
abbrev pub Begins : (was now : Held) → Type 0
Begins was now = (now ≡ was) ⊎ ((task : Task) × (was.task ≡ None) × (now ≡ with_task was task))

-- such a one may be given a task
abbrev pub TasksMayBegin : Type 0
TasksMayBegin = (n mutators k : ℕ) (x : Held) (task : Task) → Fits n mutators k x → IsIdle x → MayBegin x.account x.registers (Some task)
    → Readies n mutators k x (with_task x task)

-- ---- the task that was begun

abbrev pub IsNoAnswer : Told → Type 0
IsNoAnswer Silent = ⊤
IsNoAnswer Empties = ⊤
IsNoAnswer (Answers task outcome) = ⊥
IsNoAnswer (Marks asked) = ⊤

-- it looks at the gate; or it has begun a checkpoint, and clears the request next
abbrev pub RestsAt : (was now : Stage) → Type 0
RestsAt was Looks = ⊤
RestsAt was (Passes g after) = IsBeginningCheckpoint was × (g.passage ≡ Clear) × (after ≡ afters.Looks)
RestsAt was now = ⊥

-- after its effect a mutator rests there; with an end its registers stay
abbrev pub RestsAfter : (was now : Held) → Did → Type 0
RestsAfter was now Done = RestsAt was.stage now.stage
RestsAfter was now (Trap end) = (now.account ≡ record was.account { end = Some end }) × (now.registers ≡ was.registers)

-- the task is answered: it was the one begun, and now there is none
pub record IsAnswerOf (was now : Held) (task : Task) (outcome : Did) : Type 0 where
  pub asked : was.task ≡ Some task
  pub rests : now.task ≡ None
  pub after : RestsAfter was now outcome

-- A step answers no other task than the one begun; it keeps that one until it answers it, and then there is none. A mutator with an end
-- keeps its account and registers. The worker's number, layout and number of mutators never change, nor whether it may print.
pub record KeepsToTask (x : Held) (reply : Reply) : Type 0 where
  pub answers : (task : Task) (outcome : Did) → told x reply ≡ Answers task outcome → IsAnswerOf x (turned x reply) task outcome
  pub kept : IsNoAnswer (told x reply) → (turned x reply).task ≡ x.task
  pub ended : (end : End) → x.account.end ≡ Some end → ((turned x reply).account ≡ x.account) × ((turned x reply).registers ≡ x.registers)
  pub number : (turned x reply).number ≡ x.number
  pub layout : (turned x reply).layout ≡ x.layout
  pub mutators : (turned x reply).mutators ≡ x.mutators
  pub prints : (turned x reply).prints ≡ x.prints

abbrev pub WorkersGoOn : Type 0
WorkersGoOn = (n mutators k : ℕ) (x : Held) (reply : Reply) → Fits n mutators k x → KeepsToTask x reply

-- a worker that is no mutator that has left, nor a scanner that has seen all leave, wants a step
abbrev pub WorkersWant : Type 0
WorkersWant = (n mutators k : ℕ) (x : Held) → Fits n mutators k x → (wanted x ≡ None) ↔ (x.stage ≡ Gone)

-- ---- what is so at any time

-- Registers show those of the plain mutator: where a number stands that one has the number, and where a pointer stands it has a reference.
pub record ShowsRegisters (registers : List ℕ) (q : Mutator) : Type 0 where
  pub numbers : (j n : ℕ) → j < REGISTERS → decode (slice_index registers j) ≡ NumberWord n → slice_get q.registers j ≡ Some (Number n)
  pub pointers : (j a : ℕ) → j < REGISTERS → decode (slice_index registers j) ≡ PointerWord a → (i : Identity) × (slice_get q.registers j ≡ Some (Reference i))

-- each pointer in a register is one into the space of the worker's epoch, to a record's header
pub record RegistersLand (n : ℕ) (words : List ℕ) (x : Held) : Type 0 where
  pub in_space : (j a : ℕ) → j < REGISTERS → decode (slice_index x.registers j) ≡ PointerWord a → IsInSpace n a (to_space x.epoch)
  pub header : (j a : ℕ) → j < REGISTERS → decode (slice_index x.registers j) ≡ PointerWord a
      → (kind : Kind) × (len : ℕ) × (serial : ℕ) × (mutator : ℕ) × (decode (word_in n words (HeapWord a)) ≡ HeaderWord kind len serial mutator)

-- two registers hold one word exactly where those of the plain mutator have one value
abbrev pub AreAlike : List ℕ → Mutator → Type 0
AreAlike registers q = (j i : ℕ) → j < REGISTERS → i < REGISTERS → (slice_index registers j ≡ slice_index registers i) ↔ (slice_get q.registers j ≡ slice_get q.registers i)

-- it runs, or has made the request: its epoch is the gate's
abbrev pub is_present : Post → Bool
is_present post = is_running post || is_asking post

-- A mutator is as its plain one, and where it has no end its registers show that one's. Where it is present its epoch is the gate's, and
-- then they lead to headers of records.
pub record IsAsPlain (h : Heap) (p : Plain) (k : ℕ) (x : Held) (q : Mutator) : Type 0 where
  pub account : Accounts p.heap k x.account q
  pub shows : q.end ≡ None → ShowsRegisters x.registers q
  pub epoch : is_present (post_in x x.stage) ≡ true → epoch_of h.pages h.words ≡ x.epoch
  pub lands : q.end ≡ None → is_present (post_in x x.stage) ≡ true → RegistersLand h.pages h.words x
  pub alike : q.end ≡ None → is_present (post_in x x.stage) ≡ true → AreAlike x.registers q

-- The table has all its words, which keep the invariant and represent the plain state; each worker is sound, and each mutator is as its
-- plain one, of which there are as many.
pub record IsSo (h : Heap) (p : Plain) : Type 0 where
  pub whole : table_length h.pages ≤ length h.words
  pub sound : IsSound (read h) p
  pub fit : (k : ℕ) → k < length h.workers → Fits h.pages h.mutators k (held_at h k)
  pub as_many : length p.mutators ≡ h.mutators
  pub enough : h.mutators ≤ length h.workers
  pub mutators : (k : ℕ) (q : Mutator) → slice_get p.mutators k ≡ Some q → IsAsPlain h p k (held_at h k) q

abbrev pub WhatStandsIsSo : Type 0
WhatStandsIsSo = (h : Heap) (p o : Plain) → WorkersStand h p o → IsSo h p

-- ---- the other mutators

-- all but the heap and mutator k are as they were: also how many records another one has made
pub record LeavesTheOthers (p after : Plain) (k : ℕ) : Type 0 where
  pub as_many : length after.mutators ≡ length p.mutators
  pub mutator : (j : ℕ) → j ≢ k → slice_get after.mutators j ≡ slice_get p.mutators j
  pub serial : (j : ℕ) → j ≢ k → serial_of after.heap j ≡ serial_of p.heap j

abbrev pub AnswersLeaveTheOthers : Type 0
AnswersLeaveTheOthers = (empty : List Identity) (p : Plain) (k : ℕ) (t : Told) → LeavesTheOthers p (after_told empty p k t) k
