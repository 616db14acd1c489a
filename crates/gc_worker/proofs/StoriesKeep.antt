-- The law of a step as a story has it, from the law of a step; and that it begins so.
use Rattle.std.proofs.Common.{◌≡◌, ℕ, ◌<◌, length, Some, refl, sym, ◌∙◌, slice_get}
use Rattle.plain_state.specs.Cells.{CellsFollow}
use Rattle.plain_state.specs.State.{Plain}
use Rattle.plain_heap.specs.Emptied.{cells_to_empty}
use Rattle.plain_heap.proofs.Calls.KeptCells.{LeavesCells, followed-on, same-cells}
use Rattle.atom_store.specs.declared.step.Step.{Step}
use Rattle.atom_store.specs.Step.{reply_of}
use Rattle.gc_worker.specs.Laws.Between.{opening_heap}
use Rattle.gc_worker.specs.Laws.Copied.{IsTraced}
use Rattle.gc_worker.specs.Laws.Step.{EpochIsTraced, EpochStays, FlipsWhereTold, Heap, StepKeeps, WorkersStand, at_flip, held_at, moved, read}
use Rattle.gc_worker.specs.Laws.Stories.{StoriesKeep, StoriesOpen, StoryStands}
use Rattle.gc_worker.specs.Plain.Answer.{after_told}
use Rattle.gc_worker.specs.Plain.Empty.{empty_cells}
use Rattle.gc_worker.specs.Plain.Stories.{story_told}
use Rattle.gc_worker.specs.Steps.Turned.{Told, Silent, Empties, Answers, Marks, told}
use Rattle.gc_worker.specs.Steps.Wanted.{wanted}
use Rattle.gc_worker.specs.Workers.Held.{Held}
use Rattle.gc_worker.proofs.Between.OpenedHeap.{heaps_open}
use Rattle.gc_worker.proofs.Plain.CellTargets.Emptied.{kept_if}
use Rattle.gc_worker.proofs.Plain.CellTargets.Followed.{follows_lost}
use Rattle.gc_worker.proofs.Plain.CellTargets.KeptCells.{answer_cells, lost_cells, made_cells, opening_cells}
use Rattle.gc_worker.proofs.StepKeeps.{steps_keep, traces_heap}

module _ (h : Heap) (p o : Plain) (k : ℕ) (x : Held) (q : Step) (story : StoryStands h p o) (below : k < length h.workers) (holds : held_at h k ≡ x) (asked : wanted x ≡ Some q) where
  abbrev u : Told
  u = told x (reply_of q h.words)

  abbrev later : Heap
  later = moved h k x q

  keeps : StepKeeps h p o k x q
  keeps = steps_keep h p o k x q story.stands below holds asked

  -- ---- what stands

  -- where the epoch is traced, the lost cells are those whose targets are the number 0
  traced : u ≡ Empties → EpochIsTraced h.pages h.words later.words → WorkersStand later (story_told p o k Empties) o
  traced tells epoch =
      let traces = traces_heap h p o k x q story.stands below holds asked tells in
      traces.stands (story_told p o k Empties) (follows_lost (read h) p o story.stands.stands.ghost traces.settles story.stands.cycle (story.cells.untraced epoch.before))
      (kept_if p (cells_to_empty o) h.checkpoints)

  stands_by : (t : Told) → u ≡ t → FlipsWhereTold h.pages h.words later.words x t → WorkersStand later (after_told (empty_cells (read later)) p k t) (at_flip p o t)
      → WorkersStand later (story_told p o k t) (at_flip p o t)
  stands_by Empties tells epoch stands = traced tells epoch
  stands_by _ tells flips stands = stands

  -- ---- cells

  -- within an epoch that is traced as it was before, cells go on
  goes_on : EpochStays h.pages h.words later.words → (p' : Plain) → LeavesCells p.heap p'.heap → CellsFollow (IsTraced later) o p'
  goes_on stays p' leaves = followed-on (IsTraced h) (IsTraced later) o p p' stays.traced.1 stays.traced.0 leaves story.cells

  cells_by : (t : Told) → FlipsWhereTold h.pages h.words later.words x t → CellsFollow (IsTraced later) (at_flip p o t) (story_told p o k t)
  cells_by Silent stays = goes_on stays p (same-cells p.heap)
  cells_by Empties epoch = record {
    untraced = λ not. absurd (not epoch.traced);
    lost = λ is. lost_cells o p (story.cells.untraced epoch.before);
    made = made_cells o p story.cells.made;
  }
  cells_by (Answers task outcome) stays = goes_on stays (story_told p o k (Answers task outcome)) (answer_cells p k task outcome (slice_get p.mutators k))
  cells_by (Marks asked) flips = record {
    untraced = λ not i v held. held;
    lost = λ is. absurd (flips.untraced is);
    made = λ i v none held. absurd (let both = sym none ∙ held in cc);
  }

  story_keeps : StoryStands later (story_told p o k u) (at_flip p o u)
  story_keeps = record { stands = stands_by u refl keeps.flips keeps.stands; cells = cells_by u keeps.flips }

pub stories_keep : StoriesKeep
stories_keep h p o k x q story below holds asked = story_keeps h p o k x q story below holds asked

pub stories_open : StoriesOpen
stories_open prints layout least mutators scanners size fewest most few all = record {
  stands = heaps_open prints layout least mutators scanners size fewest most few all;
  cells = opening_cells (IsTraced (opening_heap prints layout least mutators scanners)) mutators;
}
