-- What the order of a run says of a full heap, and what heap a program needs.
use Rattle.std.specs.Prelude.{◌≡◌, ℕ, ◌+◌, ◌*◌, ◌<◌, ◌≤◌, ◌-◌, ◌^◌, List, ◌∷◌, ◌++◌, length}
use Rattle.plain_state.specs.declared.end.End.TheVariants as ends
use Rattle.plain_state.specs.declared.sizes.TheConstants.{PAGE_WORDS}
use Rattle.mutator_asm.specs.declared.instr.Instr.{Instr}
use Rattle.plain_heap.specs.declared.mark.Mark.{Mark}
use Rattle.plain_heap.specs.declared.mark.Mark.TheVariants.{Full}
use Rattle.plain_heap.specs.Order.{story}
use Rattle.gc_worker.specs.declared.config.Config.{Config}
use Rattle.gc_worker.specs.declared.steps.stepped.Stepped.TheVariants.{Ended}
use Rattle.gc_worker.specs.History.Needs.{EachFullIs, EndsWithFlip, HasNoFull, IsEnoughForOne, IsLargeEnough, being_made, flips_in, made_since, first_story}
use Rattle.gc_worker.specs.History.Tally.{aside_in}
use Rattle.gc_core.specs.Core.{size_in}
use Rattle.gc_core.specs.Cycles.{FillsTheSpace, HasGrown, story_of, claims_of}
use Rattle.gc_core.specs.Event.{event_of}
use Rattle.gc_core.specs.Run.{InEveryRun, run_of}

-- where the heap is full, what was claimed since the last flip is no more than the pages of records made since then and of those that the
-- others make next
abbrev pub ClaimsAreForRecords : Type 0
ClaimsAreForRecords = InEveryRun (λ code turns config schedule n. (w m asked room live : ℕ)
    → (event_of (run_of code turns config schedule n).last w).told ≡ Ended m (ends.HeapFull asked room live)
    → claims_of code turns config schedule n
    ≤ PAGE_WORDS * (made_since code turns (run_of code turns config schedule n).order + being_made code turns (story_of code turns config schedule n).now m))

-- the words claimed since the last flip are no more than those of the pages of records made since then and those set aside for records
-- that workers make
abbrev pub ClaimsAreMadeOrSetAside : Type 0
ClaimsAreMadeOrSetAside = InEveryRun (λ code turns config schedule n.
    claims_of code turns config schedule n ≤ PAGE_WORDS * made_since code turns (run_of code turns config schedule n).order + aside_in (run_of code turns config schedule n).last.heap)

-- In a run of n steps, behind these marks of its order, mutator m tells the heap to be full: by the event that follows so many steps. The
-- words that the run has claimed by then, since the last flip, fill the pages in use with what was live at that flip and the room that is
-- left. They are no more than those of the pages of records made since then and those set aside for records that workers make. All pages
-- that a space may have are in use, or the epoch is the last.
pub record IsFilledByClaims (code : List (List Instr)) (turns : ℕ) (config : Config) (schedule : ℕ → ℕ) (n : ℕ) (front : List Mark) (m asked room live : ℕ) : Type 0 where
  pub steps : ℕ
  pub within : steps < n
  pub reached : (run_of code turns config schedule steps).order ≡ front
  pub told : (event_of (run_of code turns config schedule steps).last (schedule steps)).told ≡ Ended m (ends.HeapFull asked room live)
  pub grown : HasGrown config.limit (run_of code turns config schedule steps).last
  pub fills : FillsTheSpace (size_in (run_of code turns config schedule steps).last) (story code turns front).flip (claims_of code turns config schedule steps) asked room live
  pub for_records : claims_of code turns config schedule steps ≤ PAGE_WORDS * made_since code turns front + aside_in (run_of code turns config schedule steps).last.heap

-- so is each full heap of the order
abbrev pub AreFilledByClaims : List (List Instr) → (turns : ℕ) → Config → (ℕ → ℕ) → (n : ℕ) → List Mark → Type 0
AreFilledByClaims code turns config schedule n order = (front rest : List Mark) (m asked room live : ℕ) → order ≡ front ++ Full m asked room live ∷ rest
    → IsFilledByClaims code turns config schedule n front m asked room live

abbrev pub OrdersAreFilledByClaims : Type 0
OrdersAreFilledByClaims = InEveryRun (λ code turns config schedule n. AreFilledByClaims code turns config schedule n (run_of code turns config schedule n).order)

-- at a full heap of an order, which is of the largest space or comes in the last epoch, what was live at the last flip and the room leave
-- no more of the pages in use than those of records made since and of those that the others make next
abbrev pub OrdersFillTheSpace : Type 0
OrdersFillTheSpace = InEveryRun (λ code turns config schedule n.
    EachFullIs config.limit config.pages code turns (first_story code) 0 0 (run_of code turns config schedule n).order)

-- a heap that is as large as the run's order needs is never full
abbrev pub LargeHeapsAreNeverFull : Type 0
LargeHeapsAreNeverFull = InEveryRun (λ code turns config schedule n.
    IsLargeEnough config.limit config.pages code turns (run_of code turns config schedule n).order → HasNoFull (run_of code turns config schedule n).order)

-- where there is one mutator its heap is full right after a flip, but for the end of tracing, so that no record was made between the two; or the
-- epoch is the last
abbrev pub LoneFullsFollowTheirFlips : Type 0
LoneFullsFollowTheirFlips = InEveryRun (λ code turns config schedule n. length code ≡ 1 → (front rest : List Mark) (m asked room live : ℕ)
    → (run_of code turns config schedule n).order ≡ front ++ Full m asked room live ∷ rest → flips_in 0 front < 2 ^ 32 - 1 → EndsWithFlip front)

-- the heap of a single mutator is never full where there is room beside what is live in the largest space, in fewer epochs than there can be
abbrev pub LoneHeapsAreNeverFull : Type 0
LoneHeapsAreNeverFull = InEveryRun (λ code turns config schedule n. length code ≡ 1 → flips_in 0 (run_of code turns config schedule n).order < 2 ^ 32 - 1
    → IsEnoughForOne config.limit code turns (run_of code turns config schedule n).order → HasNoFull (run_of code turns config schedule n).order)
