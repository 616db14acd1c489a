-- The law of a step as a story has it: where the epoch is traced, the cells lose their targets that weren't reachable at the last flip.
use Rattle.std.specs.Prelude.{◌≡◌, ℕ, ◌+◌, ◌<◌, ◌≤◌, length, Some, Bool}
use Rattle.plain_state.specs.Cells.{CellsFollow}
use Rattle.plain_state.specs.State.{Plain}
use Rattle.space_map.specs.declared.spaces.TheConstants.{FEWEST_PAGES, MOST_MUTATORS, MOST_SCANNERS}
use Rattle.space_map.specs.Spaces.{Layout, IsPageCount}
use Rattle.atom_store.specs.declared.step.Step.{Step}
use Rattle.atom_store.specs.Step.{reply_of}
use Rattle.heap_laws.specs.Opening.{opening_plain}
use Rattle.gc_worker.specs.Plain.Stories.{story_told}
use Rattle.gc_worker.specs.Workers.Held.{Held}
use Rattle.gc_worker.specs.Laws.Between.{opening_heap}
use Rattle.gc_worker.specs.Laws.Copied.{IsTraced}
use Rattle.gc_worker.specs.Laws.Step.{Heap, WorkersStand, at_flip, held_at, moved}
use Rattle.gc_worker.specs.Steps.Turned.{told}
use Rattle.gc_worker.specs.Steps.Wanted.{wanted}

-- The heap stands for the plain state p, in the cycle that began at o; and cells have what they have in such a cycle, by whether the epoch
-- is traced.
pub record StoryStands (h : Heap) (p o : Plain) : Type 0 where
  pub stands : WorkersStand h p o
  pub cells : CellsFollow (IsTraced h) o p

-- what stood for a story stands for the story after the step
abbrev pub StoriesKeep : Type 0
StoriesKeep = (h : Heap) (p o : Plain) (k : ℕ) (x : Held) (q : Step) → StoryStands h p o → k < length h.workers → held_at h k ≡ x → wanted x ≡ Some q
    → StoryStands (moved h k x q) (story_told p o k (told x (reply_of q h.words))) (at_flip p o (told x (reply_of q h.words)))

-- a new heap stands for the story that begins where nothing was made yet
abbrev pub StoriesOpen : Type 0
StoriesOpen = (prints : Bool) (layout : Layout) (least mutators scanners : ℕ) → IsPageCount layout.pages → FEWEST_PAGES ≤ least → least ≤ layout.pages → mutators ≤ MOST_MUTATORS → mutators + scanners ≤ MOST_MUTATORS + MOST_SCANNERS
    → StoryStands (opening_heap prints layout least mutators scanners) (opening_plain mutators) (opening_plain mutators)
