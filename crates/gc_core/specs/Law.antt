-- The law of an event: it does to the plain state what the mark of it does, and what is told of it is what the plain machine has.
use Rattle.std.specs.Prelude.{◌≡◌, ◌≢◌, ◌↔◌, ⊤, ℕ, ◌+◌, ◌<◌, ◌≤◌, length, Some, None, IsTrue}
use Rattle.std.specs.List.{list_all}
use Rattle.std.specs.Option.{option_to_list}
use Rattle.plain_state.specs.declared.end.End.{End}
use Rattle.plain_state.specs.declared.end.End.TheVariants as ends
use Rattle.plain_state.specs.State.{Plain}
use Rattle.mutator_asm.specs.Program.{is_valid}
use Rattle.plain_heap.specs.Step.{asked_by}
use Rattle.plain_heap.specs.Order.{Story, story_after, end_of}
use Rattle.space_map.specs.Table.{whole_length}
use Rattle.heap_state.specs.Meaning.Represents.{Represents}
use Rattle.gc_worker.specs.declared.config.TheConstants.{MOST_TURNS}
use Rattle.gc_worker.specs.declared.stage.Stage.TheVariants.{Gone}
use Rattle.gc_worker.specs.declared.task.Task.{Task}
use Rattle.gc_worker.specs.Plain.Answer.{with_emptied}
use Rattle.gc_worker.specs.Plain.Empty.{empty_cells}
use Rattle.gc_worker.specs.Plain.Full.{FindsNoRoom}
use Rattle.gc_worker.specs.Workers.Held as held
use Rattle.gc_worker.specs.Laws.Claims.{epoch_of_heap}
use Rattle.gc_worker.specs.Laws.Copied.{IsTraced}
use Rattle.gc_worker.specs.Laws.Cycles.{HaveNextSizes}
use Rattle.gc_worker.specs.Laws.Gone.{ScannersAreLast}
use Rattle.gc_worker.specs.Laws.Represented.{HasKept}
use Rattle.gc_worker.specs.Laws.Stories.{StoryStands}
use Rattle.gc_worker.specs.Laws.Step.{Heap, WorkersStand, held_at, layout_of, read}
use Rattle.gc_worker.specs.declared.steps.stepped.Stepped.{Stepped}
use Rattle.gc_worker.specs.declared.steps.stepped.Stepped.TheVariants.{Idle, Moved, Effect, Flipped, Traced, Ended}
use Rattle.gc_worker.specs.Plain.Marks.{mark_of}
use Rattle.gc_core.specs.Core.{CoreState}
use Rattle.gc_core.specs.Event.{Event, fetched_task, ready, event_of, core_after}

-- ---- what a core keeps beside the plain state

-- A mutator made a record by an instruction each, and executed no more than it may; and the task that it has begun is its next one.
pub record IsOnTask (s : CoreState) (m : ℕ) : Type 0 where
  pub counted : (held_at s.heap m).account.serial ≤ (held_at s.heap m).account.executed
  pub within : (held_at s.heap m).account.executed ≤ s.turns
  pub task : (t : Task) → (held_at s.heap m).task ≡ Some t → t ≡ fetched_task s.code s.turns m (held_at s.heap m)

-- There is a mutator for each section of valid code, and each is on its task; once a scanner is gone, all mutators are. A flipper that has
-- read all has found how many pages are to be in use. The words are just those of the heap's layout.
pub record IsSteady (s : CoreState) : Type 0 where
  pub valid : IsTrue (list_all (list_all is_valid) s.code)
  pub sections : length s.code ≡ s.heap.mutators
  pub turns_fit : s.turns ≤ MOST_TURNS
  pub on_task : (m : ℕ) → m < s.heap.mutators → IsOnTask s m
  pub last : ScannersAreLast s.heap
  pub found : HaveNextSizes s.heap
  pub whole : length s.heap.words ≡ whole_length (layout_of s.heap)

-- it is steady, and its heap stands for some plain state
pub record IsLawful (s : CoreState) : Type 0 where
  pub steady : IsSteady s
  pub plain : Plain
  pub flip : Plain
  pub stands : WorkersStand s.heap plain flip

-- A lawful core represents p: its words, with what its workers keep, represent it, and if checkpoints can be begun it has kept what the core
-- stands for.
pub record StandsFor (s : CoreState) (lawful : IsLawful s) (p : Plain) : Type 0 where
  pub represents : Represents (read s.heap) p
  pub kept : HasKept s.heap.checkpoints lawful.plain p

-- ---- an event

-- the story after what is told of an event
abbrev pub story_by : CoreState → Story → Stepped → Story
story_by s story told = story_after s.code s.turns story (option_to_list (mark_of told))

-- the plain state then
abbrev pub plain_after : CoreState → Story → Stepped → Plain
plain_after s story told = (story_by s story told).now

-- What a core represents after what is told of an event, whatever it stood for before: where the epoch is traced, the state in which the
-- cells are empty whose targets the words then say are the number 0; else the state after the mark. In a story these are the same.
abbrev pub plain_met_by : CoreState → Story → (after : Heap) → Stepped → Plain
plain_met_by s story after Traced = with_emptied story.now (empty_cells (read after))
plain_met_by s story after told = plain_after s story told

abbrev pub plain_met : CoreState → Story → Event → Plain
plain_met s story e = plain_met_by s story e.after e.told

-- and the state at the last flip with it
abbrev pub story_met : CoreState → Story → Event → Story
story_met s story e = record { flip = (story_by s story e.told).flip; now = plain_met s story e }

-- An end for want of room comes only where the next step of mutator m asks for so many pages, and the worker finds no room for them.
abbrev pub IsForWant : CoreState → Plain → ℕ → End → Type 0
IsForWant s p m (ends.HeapFull asked room live) = (asked_by s.code s.turns p m ≡ Some asked) × FindsNoRoom s.heap.pages s.heap.words (ready s m) asked room live
IsForWant s p m ends.Halt = ⊤
IsForWant s p m ends.NotPointer = ⊤
IsForWant s p m ends.NotNumber = ⊤
IsForWant s p m ends.OutOfRange = ⊤
IsForWant s p m ends.WeakCell = ⊤
IsForWant s p m ends.IntoRaw = ⊤
IsForWant s p m ends.ZeroDivisor = ⊤
IsForWant s p m ends.JumpOut = ⊤
IsForWant s p m ends.TurnsOut = ⊤
IsForWant s p m ends.OutputFull = ⊤

-- worker w is a scanner
abbrev pub IsScanner : Heap → ℕ → Type 0
IsScanner h w = (h.mutators ≤ w) × (w < length h.workers)

-- each mutator is gone
abbrev pub AllHaveLeft : Heap → Type 0
AllHaveLeft h = (m : ℕ) → m < h.mutators → (held_at h m).stage ≡ Gone

-- The epoch stays, and it is traced after the event if and only if it was before.
pub record KeepsEpoch (was now : Heap) : Type 0 where
  pub epoch : epoch_of_heap now ≡ epoch_of_heap was
  pub traced : IsTraced now ↔ IsTraced was

-- The epoch stays. It wasn't traced before the event, and is after it.
pub record BecomesTraced (was now : Heap) : Type 0 where
  pub epoch : epoch_of_heap now ≡ epoch_of_heap was
  pub before : ¬ (IsTraced was)
  pub traced : IsTraced now

-- What is told of an event of worker w is so: an idle mutator has its end, of an idle scanner all mutators are gone, and nothing
-- changed. An effect or an end is of mutator w, which had no end, and has just the end that is told. A flip is for the pages that the
-- worker's task asks for, and comes into the next epoch, which isn't traced; nothing else changes the epoch. An epoch becomes traced at the
-- event that tells so, and at no other.
abbrev pub IsTold : CoreState → ℕ → Story → Heap → Stepped → Type 0
IsTold s w story after Idle = (after ≡ s.heap) × (end_of story.now w ≢ Some None) × (IsScanner s.heap w → AllHaveLeft s.heap)
IsTold s w story after Moved = KeepsEpoch s.heap after
IsTold s w story after Traced = BecomesTraced s.heap after
IsTold s w story after (Flipped asked) = (asked ≡ held.pages_needed (ready s w)) × (epoch_of_heap after ≡ epoch_of_heap s.heap + 1) × ¬ (IsTraced after)
IsTold s w story after (Effect m) =
    (m ≡ w) × (end_of story.now m ≡ Some None) × (end_of (plain_after s story (Effect m)) m ≡ Some None) × KeepsEpoch s.heap after
IsTold s w story after (Ended m why) =
    (m ≡ w) × (end_of story.now m ≡ Some None) × (end_of (plain_after s story (Ended m why)) m ≡ Some (Some why)) × IsForWant s story.now m why
    × KeepsEpoch s.heap after

-- The event of worker w, from a core whose heap stands for a plain state: it stands for the one that the core then represents. What is
-- told of it is so.
pub record KeepsPlain (s : CoreState) (w : ℕ) (story : Story) : Type 0 where
  pub steady : IsSteady (core_after s w)
  pub stands : WorkersStand (event_of s w).after (story_met s story (event_of s w)).now (story_met s story (event_of s w)).flip
  pub told : IsTold s w story (event_of s w).after (event_of s w).told

abbrev pub EventsStand : Type 0
EventsStand = (s : CoreState) (w : ℕ) (story : Story) → IsSteady s → WorkersStand s.heap story.now story.flip → KeepsPlain s w story

-- The event of worker w, from a core that stands for a story: it stands for the story after what is told, which is so.
pub record KeepsStory (s : CoreState) (w : ℕ) (story : Story) : Type 0 where
  pub steady : IsSteady (core_after s w)
  pub stands : StoryStands (event_of s w).after (story_by s story (event_of s w).told).now (story_by s story (event_of s w).told).flip
  pub told : IsTold s w story (event_of s w).after (event_of s w).told

abbrev pub EventsKeep : Type 0
EventsKeep = (s : CoreState) (w : ℕ) (story : Story) → IsSteady s → StoryStands s.heap story.now story.flip → KeepsStory s w story

-- The event e of worker w, from a core that represents the plain state of a story, meets the law: the core after it is lawful, with the
-- state at the last flip then, and represents the plain state then; what is told is so.
pub record Meets (s : CoreState) (w : ℕ) (story : Story) (e : Event) : Type 0 where
  pub lawful : IsLawful (record s { heap = e.after })
  pub flip : lawful.flip ≡ (story_by s story e.told).flip
  pub after : StandsFor (record s { heap = e.after }) lawful (plain_met s story e)
  pub told : IsTold s w story e.after e.told

-- the story of a lawful core that represents p
abbrev pub story_in : (s : CoreState) → IsLawful s → Plain → Story
story_in s lawful p = record { flip = lawful.flip; now = p }

abbrev pub EventsMeet : Type 0
EventsMeet = (s : CoreState) (w : ℕ) (p : Plain) (lawful : IsLawful s) → StandsFor s lawful p → Meets s w (story_in s lawful p) (event_of s w)
