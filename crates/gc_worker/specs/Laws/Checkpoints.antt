-- What the words of a heap tell of the last checkpoint, and what holds of the one in progress between any two steps.
use Rattle.std.specs.Prelude.{◌≡◌, ◌≢◌, ◌⊎◌, ℕ, ◌+◌, ◌<◌, Bool, true, false, length, Option, Some, None}
use Rattle.plain_state.specs.State.{Plain}
use Rattle.space_map.specs.declared.page_word.PageWord.TheVariants.{Open}
use Rattle.space_map.specs.declared.save_word.SaveWord.TheVariants.{Saving, Saved, New}
use Rattle.space_map.specs.PageWord.{decode_page}
use Rattle.space_map.specs.Spaces.{IsPageCount, first_word}
use Rattle.space_map.specs.Table.{HeapWord, Page, whole_length}
use Rattle.alloc_end.specs.Place as place
use Rattle.heap_state.specs.Memory.Table.{word_in}
use Rattle.heap_state.specs.Saving.Frozen.{Frozen}
use Rattle.heap_state.specs.Saving.Said.{SaysCheckpoint}
use Rattle.heap_state.specs.Saving.Savers.{SaveStep}
use Rattle.heap_state.specs.Saving.Words.{IsAtRest, IsInProgress}
use Rattle.page_saves.specs.declared.save_round_stage.SaveRoundStage.TheVariants.{ExchangesDone}
use Rattle.page_saves.specs.SaveRound.{SavingRound}
use Rattle.gc_worker.specs.declared.stage.after.After.TheVariants.{Snaps}
use Rattle.gc_worker.specs.declared.stage.goal.Goal.{Goal}
use Rattle.gc_worker.specs.declared.stage.Stage.{Stage}
use Rattle.gc_worker.specs.declared.stage.Stage.TheVariants.{Passes, Flips, Accesses, Places, Checkpoints}
use Rattle.gc_worker.specs.Laws.Claims.{epoch_of_heap}
use Rattle.gc_worker.specs.Laws.Copied.{IsTraced}
use Rattle.gc_worker.specs.Laws.Step.{Heap, WorkersStand, held_at, layout_of, saves_in}
use Rattle.record_access.specs.Access as access
use Rattle.gc_worker.specs.Workers.Saves.{guarded_in, save_in, settled_before, settled_in}

-- The words of a heap are just those of its layout, for as many pages as a space may have, and say what the plain heap has kept at its
-- last `snap`.
pub record TellsKept (h : Heap) (p : Plain) : Type 0 where
  pub counted : IsPageCount h.pages
  pub whole : length h.words ≡ whole_length (layout_of h)
  pub says : SaysCheckpoint h.pages h.words p.heap.snaps p.heap.snapped

-- ---- a checkpoint in progress

-- DONE is below SNAP
abbrev pub IsUnfinished : Heap → Type 0
IsUnfinished h = (saves_in h).done < (saves_in h).snap

-- the page's SAVE is saved or new of the last checkpoint
abbrev pub IsSavedOrNew : Heap → (page : ℕ) → Type 0
IsSavedOrNew h page = ((saves_in h).save page ≡ Saved (saves_in h).snap) ⊎ ((saves_in h).save page ≡ New (saves_in h).snap)

-- the page is open in the gate's epoch
abbrev pub IsOpenNow : Heap → (page : ℕ) → Type 0
IsOpenNow h page = decode_page (word_in h.pages h.words (Page page)) ≡ Some (Open (epoch_of_heap h))

-- ---- its workers

-- who has requested a flip, or is about to
abbrev pub flips_next : Stage → Bool
flips_next (Flips f) = true
flips_next (Passes g Snaps) = false
flips_next (Passes g after) = settled_before g.passage
flips_next stage = false

-- the open page on which a worker writes a word next
abbrev pub writes_next : Stage → Option ℕ
writes_next (Accesses a) = access.writes_on a.spaces a.stage
writes_next (Places p) = place.writes_on p p.stage
writes_next stage = None

-- Worker k saves the page for checkpoint c, and the words that it has copied are in IMAGE as they are in the heap, where they are as
-- they were when the checkpoint began.
pub record HasCopied (h : Heap) (z : Frozen) (page c k : ℕ) : Type 0 where
  pub worker : k < length h.workers
  pub step : SaveStep
  pub is : save_in (held_at h k).stage ≡ Some step
  pub page_is : step.page ≡ page
  pub number_is : step.number ≡ c
  pub in_image : (i : ℕ) → i < step.copied → (saves_in h).image (first_word page + i) ≡ word_in h.pages h.words (HeapWord (first_word page + i))
  pub in_heap : (i : ℕ) → i < step.copied → word_in h.pages h.words (HeapWord (first_word page + i)) ≡ z.heap (first_word page + i)

-- A worker on its way to a request, or with one, has found DONE equal to SNAP: so it still is, with SNAP as the worker has read it, in
-- a traced epoch.
pub record FindsAtRest (h : Heap) (k : ℕ) : Type 0 where
  pub rests : IsAtRest (saves_in h)
  pub snap : (held_at h k).snap ≡ (saves_in h).snap
  pub traced : IsTraced h

-- ---- the law

-- With one heap, as it was when the last checkpoint began, and by which the words say it: while it is unfinished the epoch is traced,
-- nobody flips, its pages are open and not new, and who writes on an open page next does so on one that is saved or new. Who has
-- found this of a page, or that DONE is SNAP, still finds it so. Whoever saves a page has copied its words as they were. And who is to
-- exchange DONE, while it is one below, has all pages of the checkpoint saved.
pub record CheckpointIsSafe (h : Heap) (p : Plain) : Type 0 where
  pub says : SaysCheckpoint h.pages h.words p.heap.snaps p.heap.snapped
  pub traced : IsUnfinished h → IsTraced h
  pub no_flip : IsUnfinished h → (k : ℕ) → k < length h.workers → flips_next (held_at h k).stage ≡ false
  pub copied : (page c k : ℕ) → (saves_in h).save page ≡ Saving c k → HasCopied h says.frozen page c k
  pub settled : (k : ℕ) → k < length h.workers → settled_in (held_at h k).stage ≡ true → FindsAtRest h k
  pub guarded : (k page : ℕ) → k < length h.workers → guarded_in (held_at h k).running (held_at h k).stage ≡ Some page → IsSavedOrNew h page
  pub written : IsUnfinished h → (k page : ℕ) → k < length h.workers → writes_next (held_at h k).stage ≡ Some page → IsSavedOrNew h page
  pub opened : IsUnfinished h → (page : ℕ) → says.frozen.held page ≡ true → IsOpenNow h page × ((saves_in h).save page ≢ New (saves_in h).snap)
  pub finishing : (k : ℕ) (r : SavingRound) (goal : Goal) → k < length h.workers → (held_at h k).stage ≡ Checkpoints r goal → r.stage ≡ ExchangesDone
      → (saves_in h).done + 1 ≡ r.number → IsInProgress (saves_in h) r.number × ((page : ℕ) → says.frozen.held page ≡ true → (saves_in h).save page ≡ Saved r.number)

-- the last checkpoint of a heap that stands, in which checkpoints can be begun, is safe
abbrev pub CheckpointsAreSafe : Type 0
CheckpointsAreSafe = (h : Heap) (p o : Plain) → WorkersStand h p o → h.checkpoints ≡ true → CheckpointIsSafe h p
