-- Which pages are claimed in a run.
use Rattle.std.specs.Prelude.{◌≡◌, ℕ, ◌+◌, ◌⊎◌, List, [], ◌++◌, Option, Some, None, slice_get, if◌then◌else◌, zero, suc}
use Rattle.std.specs.Option.{option_to_list}
use Rattle.plain_heap.specs.Order.{Story}
use Rattle.atom_store.specs.declared.step.Step.{Step}
use Rattle.atom_store.specs.Step.{reply_of}
use Rattle.space_map.specs.Spaces.{board_page}
use Rattle.gc_worker.specs.Laws.Claims.{CopiedPagesAreOpen, IsCopiedPage, IsOfEpoch, epoch_of_heap}
use Rattle.gc_worker.specs.Laws.Copied.{IsTraced}
use Rattle.gc_worker.specs.Laws.Step.{Heap, WorkersStand}
use Rattle.gc_worker.specs.Steps.Turned.{PageWon, won}
use Rattle.gc_worker.specs.Steps.Wanted.{wanted}
use Rattle.gc_core.specs.Core.{CoreState}
use Rattle.gc_core.specs.Event.{ready, core_after}
use Rattle.gc_core.specs.Law.{IsSteady}
use Rattle.gc_core.specs.Run.{all_ended}

abbrev pub page_won_by : CoreState → ℕ → Option Step → Option PageWon
page_won_by s w None = None
page_won_by s w (Some q) = won (ready s w) (reply_of q s.heap.words)

-- the page that the event of worker w wins, and in which epoch
abbrev pub won_of : CoreState → ℕ → Option PageWon
won_of s w = page_won_by s w (wanted (ready s w))

-- the pages that are won in the run from a position of the schedule on
unfoldable pub wins_from : (ℕ → ℕ) → ℕ → ℕ → CoreState → List PageWon
wins_from schedule at zero s = []
wins_from schedule at (suc n) s =
    if all_ended s then [] else option_to_list (won_of s (schedule at)) ++ wins_from schedule (at + 1) n (core_after s (schedule at))

-- no two of them are one page in one epoch
abbrev pub AreApart : List PageWon → Type 0
AreApart wins = (i j : ℕ) (w : PageWon) → slice_get wins i ≡ Some w → slice_get wins j ≡ Some w → i ≡ j

-- in a run no page is won twice in an epoch
abbrev pub PagesAreWonOnce : Type 0
PagesAreWonOnce = (schedule : ℕ → ℕ) (at n : ℕ) (s : CoreState) (story : Story) → IsSteady s → WorkersStand s.heap story.now story.flip
    → AreApart (wins_from schedule at n s)

-- ---- the pages of an epoch

-- the page was won in the epoch of the heap's gate, exactly once
pub record IsWonOnce (wins : List PageWon) (h : Heap) (page : ℕ) : Type 0 where
  pub at : ℕ
  pub won : slice_get wins at ≡ Some (record { page = page; epoch = epoch_of_heap h })
  pub once : (i : ℕ) → slice_get wins i ≡ Some (record { page = page; epoch = epoch_of_heap h }) → i ≡ at

-- Each page for copies that is open in that epoch, or being scanned, was won so. Once the epoch is traced the board and all pages into
-- which records were copied are open in it, and were won so.
pub record PagesAreWon (wins : List PageWon) (h : Heap) : Type 0 where
  pub of_epoch : (page : ℕ) → IsOfEpoch h.pages h.words page → IsWonOnce wins h page
  pub opened : IsTraced h → CopiedPagesAreOpen h
  pub copied : IsTraced h → (page : ℕ) → (page ≡ board_page h.pages) ⊎ IsCopiedPage h page → IsWonOnce wins h page
