-- What a kind of step owes: what the laws of the heap say of it, of what the worker holds, the reply and the words.
use Rattle.std.specs.Prelude.{◌≡◌, ℕ, ◌+◌, ◌*◌, ◌<◌, ◌≤◌, ⊤, true, length, Option, Some, None, slice_get}
use Rattle.plain_state.specs.declared.value.Value.{Value}
use Rattle.plain_state.specs.Cells.{KeepsCells, cell_of}
use Rattle.plain_state.specs.State.{Plain}
use Rattle.atom_store.specs.declared.reply.Reply.{Reply}
use Rattle.atom_store.specs.declared.step.Step.{Step}
use Rattle.atom_store.specs.Step.{place_in, words_after, reply_of}
use Rattle.space_map.specs.PageWord.{age_of}
use Rattle.space_map.specs.Table.{SnapNumber, whole_length}
use Rattle.heap_state.specs.Configuration.{Configuration, Stands, era, memory, table, team}
use Rattle.heap_state.specs.Cycles.Cycle.{Cycle}
use Rattle.heap_state.specs.Memory.Entries.{Entry, GateIs}
use Rattle.heap_state.specs.Memory.Table.{word_in}
use Rattle.heap_state.specs.Invariant.Ghost.{Ghost}
use Rattle.heap_state.specs.Targets.{IsCell}
use Rattle.heap_laws.specs.Lifting.{LeavesConfiguration, Flipped, configuration_after}
use Rattle.heap_laws.specs.Lifting.{words_after_row}
use Rattle.heap_laws.specs.Tracing.{FollowsTargets, IsLostOrShown}
use Rattle.gc_worker.specs.Plain.Answer.{IsAnswered, after_answer}
use Rattle.gc_worker.specs.Plain.Empty.{empty_cells}
use Rattle.gc_worker.specs.Workers.Fits.{Fits, Takes}
use Rattle.gc_worker.specs.Plain.Full.{FullWhereTold}
use Rattle.gc_worker.specs.Workers.Held.{Held, pages_needed}
use Rattle.gc_worker.specs.Workers.Knows.{knows}
use Rattle.gc_worker.specs.Workers.Saves.{saver_of}
use Rattle.gc_worker.specs.Steps.Wanted.{wanted}
use Rattle.gc_worker.specs.Steps.Turned.{Told, Silent, Empties, Answers, Marks, PageWon, turned, told, won}

-- worker k of a configuration that stands holds this; its table is whole, and SNAP is as it has read it while it runs
pub record Is (c : Configuration) (k : ℕ) (x : Held) : Type 0 where
  pub below : k < length c.workers
  pub as_known : (team c).worker k ≡ knows x
  pub fits : Fits c.pages c.mutators k x
  pub whole : whole_length x.layout ≤ length c.words
  pub recalls : (saver_of x).recalled ≡ true → word_in c.pages c.words SnapNumber ≡ (saver_of x).snap

-- As long as the plain state has kept the cells of that at the flip: each target denotes the cell's value, or was lost and is the number 0.
abbrev pub Settles : Configuration → Plain → Ghost → Type 0
Settles c p g = (o : Plain) → Cycle (era c) (memory c) (team c) g o → KeepsCells o p
    → (a : ℕ) (v : Value) → IsCell g a → (era c).start ≤ a → a < (era c).start + (era c).span → cell_of p.heap (g.identity a) ≡ Some v → IsLostOrShown (memory c) g o a v

-- What a step leaves that writes this row, after which the epoch is traced, which it wasn't before: a configuration in which the same cells
-- are empty, and which stands for each plain state that follows the targets of cells.
pub record TracesEpoch (c : Configuration) (p : Plain) (g : Ghost) (k : ℕ) (e : Option Entry) (y : Held) (h : Ghost) : Type 0 where
  pub settles : Settles c p g
  pub before : (memory c).traced ≤ (era c).epoch
  pub traced : (memory (configuration_after c e k (knows y))).traced ≡ (era c).epoch + 1
  pub empty : empty_cells (configuration_after c e k (knows y)) ≡ empty_cells c
  pub leaves : (q : Plain) → FollowsTargets (era c) (memory c) g p q → LeavesConfiguration c e k (knows y) q g h

-- What a step leaves that writes this row, or none, by what it is to the plain machine: the same plain state; one that follows the targets
-- of cells, where the epoch is traced; that after an instruction; or a flip.
abbrev pub LeavesToPlain : (c : Configuration) (p : Plain) (g : Ghost) (k : ℕ) → Option Entry → Held → Ghost → Told → Type 0
LeavesToPlain c p g k e y h Silent = LeavesConfiguration c e k (knows y) p g h
LeavesToPlain c p g k e y h Empties = TracesEpoch c p g k e y h
LeavesToPlain c p g k (Some (GateIs gate)) y h (Marks asked) = Flipped c gate k (knows y) p h
LeavesToPlain c p g k e y h (Marks asked) = ⊥
LeavesToPlain c p g k e y h (Answers task outcome) = LeavesConfiguration c e k (knows y) (after_answer p k task outcome (slice_get p.mutators k)) g h

-- the page had no word of this epoch or a later one, and has one now
pub record IsWon (c : Configuration) (e : Option Entry) (k : ℕ) (y : Held) (w : PageWon) : Type 0 where
  pub page : w.page ≤ 2 * c.pages
  pub before : age_of ((table c).page w.page) ≤ w.epoch
  pub after : w.epoch < age_of ((table (configuration_after c e k (knows y))).page w.page)

abbrev pub Wins : (c : Configuration) (e : Option Entry) (k : ℕ) → Held → Option PageWon → Type 0
Wins c e k y None = ⊤
Wins c e k y (Some w) = IsWon c e k y w

-- a flip is for the pages that the flipper's task asks for, and in its own epoch
abbrev pub FlipIsOwn : Configuration → Held → Told → Type 0
FlipIsOwn c x Silent = ⊤
FlipIsOwn c x Empties = ⊤
FlipIsOwn c x (Answers task outcome) = ⊤
FlipIsOwn c x (Marks asked) = (asked ≡ pages_needed x) × ((table c).gate.epoch ≡ x.epoch)

-- a row is written, or none, and worker k takes this reply
pub record Goes (c : Configuration) (p : Plain) (s : Stands c p) (k : ℕ) (e : Option Entry) (x : Held) (reply : Reply) : Type 0 where
  pub takes : Takes x reply
  pub fits : Fits c.pages c.mutators k (turned x reply)
  pub ghost_after : Ghost
  pub leads : LeavesToPlain c p s.ghost k e (turned x reply) ghost_after (told x reply)
  pub wins : Wins c e k (turned x reply) (won x reply)
  pub answered : IsAnswered p k (told x reply)
  pub full : FullWhereTold c.pages c.words x (told x reply)
  pub flip : FlipIsOwn c x (told x reply)

-- The step is of a word of the table. It writes the word of a row, or none, and goes as above with the reply of these words.
pub record StepsInTable (c : Configuration) (p : Plain) (s : Stands c p) (k : ℕ) (x : Held) (q : Step) : Type 0 where
  pub place : place_in q < length c.words
  pub entry : Option Entry
  pub writes : words_after q c.words ≡ words_after_row c.pages c.words entry
  pub goes : Goes c p s k entry x (reply_of q c.words)

-- what a stage owes: its next step, if there is one, goes so
abbrev pub StepsSo : (c : Configuration) (p : Plain) (s : Stands c p) (k : ℕ) → Held → Type 0
StepsSo c p s k x = (q : Step) → wanted x ≡ Some q → StepsInTable c p s k x q
