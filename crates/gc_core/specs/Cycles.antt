-- What a cycle keeps, over whole runs: what was copied was live at the last flip, how many pages are in use, and a heap that is full has no
-- word to waste.
use Rattle.std.specs.Prelude.{◌≡◌, ℕ, ◌+◌, ◌*◌, ◌-◌, ◌^◌, ◌<◌, ◌≤◌, ◌==◌, ◌&&◌, ◌⊎◌, Bool, List, Option, Some, None, if◌then◌else◌, zero, suc}
use Rattle.plain_state.specs.declared.end.End.TheVariants as ends
use Rattle.plain_state.specs.declared.sizes.TheConstants.{PAGE_WORDS}
use Rattle.plain_state.specs.Reachable.{IsLive}
use Rattle.plain_state.specs.State.{Plain}
use Rattle.mutator_asm.specs.declared.instr.Instr.{Instr}
use Rattle.plain_heap.specs.Order.{Story, story}
use Rattle.atom_store.specs.declared.step.Step.{Step}
use Rattle.atom_store.specs.Step.{reply_of}
use Rattle.heap_state.specs.Cycles.Copies.{CopiedIsLive}
use Rattle.gc_worker.specs.Laws.Copied.{IsTraced}
use Rattle.gc_worker.specs.Laws.Lost.{AreEmptyIfLost}
use Rattle.gc_worker.specs.Laws.Claims.{epoch_of_heap}
use Rattle.gc_worker.specs.Laws.Cycles.{size_at, size_next, words_claimed}
use Rattle.gc_worker.specs.Laws.Step.{read}
use Rattle.gc_worker.specs.Steps.Wanted.{wanted}
use Rattle.gc_worker.specs.declared.config.Config.{Config}
use Rattle.gc_worker.specs.declared.steps.stepped.Stepped.{Stepped}
use Rattle.gc_worker.specs.declared.steps.stepped.Stepped.TheVariants.{Idle, Moved, Effect, Flipped, Traced, Ended}
use Rattle.gc_core.specs.Core.{CoreState, opening_core, size_in}
use Rattle.gc_core.specs.Event.{core_after, event_of, ready}
use Rattle.gc_core.specs.Law.{IsLawful}
use Rattle.gc_core.specs.Readers.{live_of}
use Rattle.gc_core.specs.Run.{InEveryRun, all_ended, run_of}

-- ---- runs from an opening

-- the plain state at the last flip of its order, and that after all of it
abbrev pub story_of : List (List Instr) → (turns : ℕ) → Config → (ℕ → ℕ) → ℕ → Story
story_of code turns config schedule n = story code turns (run_of code turns config schedule n).order

-- What is counted along a run from a position of the schedule on: by the core before each event, and its worker.
unfoldable pub count_from : (next : CoreState → ℕ → ℕ → ℕ) → (ℕ → ℕ) → ℕ → ℕ → (count : ℕ) → CoreState → ℕ
count_from next schedule at zero count s = count
count_from next schedule at (suc n) count s =
    if all_ended s then count else count_from next schedule (at + 1) n (next s (schedule at) count) (core_after s (schedule at))

abbrev pub count_of : (next : CoreState → ℕ → ℕ → ℕ) → List (List Instr) → (turns : ℕ) → Config → (ℕ → ℕ) → ℕ → ℕ
count_of next code turns config schedule n = count_from next schedule 0 n 0 (opening_core code turns config)

-- ---- what a cycle copied

-- Once the epoch is traced, what was copied in it is what was reachable at the last flip, and that many words are told as live; before
-- that no number is told.
pub record KeepsWhatIsLive (s : CoreState) (flip : Plain) : Type 0 where
  pub copied : IsTraced s.heap → CopiedIsLive (read s.heap) flip
  pub live : IsTraced s.heap → (words : ℕ) × (live_of s ≡ Some words) × IsLive flip words
  pub untraced : ¬ (IsTraced s.heap) → live_of s ≡ None

abbrev pub CyclesKeepWhatIsLive : Type 0
CyclesKeepWhatIsLive = InEveryRun (λ code turns config schedule n. KeepsWhatIsLive (run_of code turns config schedule n).last (story_of code turns config schedule n).flip)

-- and exactly those cells of its space are empty that lost their targets by the last flip, or were empty then
abbrev pub CyclesEmptyLostCells : Type 0
CyclesEmptyLostCells = InEveryRun (λ code turns config schedule n. AreEmptyIfLost (run_of code turns config schedule n).last.heap (story_of code turns config schedule n).now (story_of code turns config schedule n).flip)

-- ---- the pages in use

-- An event of worker w that is told as a flip leaves twice as many, as far as the space has them, if the worker has seen a flip since it began
-- its instruction, or if more than half of the words of the pages in use were copied; else it leaves as many, as any other event does.
abbrev pub SizeIsAfter : CoreState → ℕ → (next : ℕ) → Stepped → Type 0
SizeIsAfter s w next Idle = next ≡ size_in s
SizeIsAfter s w next Moved = next ≡ size_in s
SizeIsAfter s w next Traced = next ≡ size_in s
SizeIsAfter s w next (Effect m) = next ≡ size_in s
SizeIsAfter s w next (Ended m why) = next ≡ size_in s
SizeIsAfter s w next (Flipped asked) = next ≡ size_next s.heap.pages s.heap.words (ready s w)

abbrev pub SizesGrowAtFlips : Type 0
SizesGrowAtFlips = (s : CoreState) (w : ℕ) → IsLawful s → SizeIsAfter s w (size_in (core_after s w)) (event_of s w).told

-- so they never become fewer
abbrev pub SizesNeverFall : Type 0
SizesNeverFall = (s : CoreState) (w : ℕ) → IsLawful s → size_in s ≤ size_in (core_after s w)

-- so many pages of each space are in use, the one that isn't copied into too
abbrev pub HasSizesWithin : (least limit : ℕ) → CoreState → Type 0
HasSizesWithin least limit s = (space : ℕ) → space < 2 → (least ≤ size_at s.heap.pages s.heap.words space) × (size_at s.heap.pages s.heap.words space ≤ limit)

-- in a run there are those in use at first, and no more than a space may have
abbrev pub SizesAreBetween : Type 0
SizesAreBetween = InEveryRun (λ code turns config schedule n. (config.pages ≤ size_in (run_of code turns config schedule n).last) × (size_in (run_of code turns config schedule n).last ≤ config.limit)
    × HasSizesWithin config.pages config.limit (run_of code turns config schedule n).last)

-- ---- the words claimed for records

abbrev pub claimed_if : CoreState → ℕ → Option Step → ℕ
claimed_if s w None = 0
claimed_if s w (Some q) = words_claimed (ready s w) (reply_of q s.heap.words)

-- the words of the pages that the event of worker w claims for a record
abbrev pub claimed_by : CoreState → ℕ → ℕ
claimed_by s w = claimed_if s w (wanted (ready s w))

-- the words claimed since the last flip, after an event that claims so many
abbrev pub claims_after : (claims more : ℕ) → Stepped → ℕ
claims_after claims more Idle = claims + more
claims_after claims more Moved = claims + more
claims_after claims more Traced = claims + more
claims_after claims more (Effect m) = claims + more
claims_after claims more (Ended m why) = claims + more
claims_after claims more (Flipped asked) = 0

abbrev pub claims_next : CoreState → ℕ → (claims : ℕ) → ℕ
claims_next s w claims = claims_after claims (claimed_by s w) (event_of s w).told

-- the words claimed since the last flip of a run, in the opening's epoch since the opening
abbrev pub claims_of : List (List Instr) → (turns : ℕ) → Config → (ℕ → ℕ) → ℕ → ℕ
claims_of code turns config schedule n = count_of claims_next code turns config schedule n

-- ---- a full heap

-- all pages that a space may have are in use, or the epoch is the last
abbrev pub HasGrown : (limit : ℕ) → CoreState → Type 0
HasGrown limit s = (size_in s ≡ limit) ⊎ (epoch_of_heap s.heap ≡ 2 ^ 32 - 1)

-- What is told as live was live at the last flip. With the room that is left and the words claimed since then it fills the pages in use;
-- so the pages that were asked for don't fit beside it.
pub record FillsTheSpace (size : ℕ) (flip : Plain) (claims asked room live : ℕ) : Type 0 where
  pub live_is : IsLive flip live
  pub filled : room + live + claims ≡ PAGE_WORDS * size
  pub short : PAGE_WORDS * size < live + claims + PAGE_WORDS * asked

abbrev pub FullHeapsAreFilled : Type 0
FullHeapsAreFilled = InEveryRun (λ code turns config schedule n. (w m asked room live : ℕ)
    → (event_of (run_of code turns config schedule n).last w).told ≡ Ended m (ends.HeapFull asked room live)
    → HasGrown config.limit (run_of code turns config schedule n).last
    × FillsTheSpace (size_in (run_of code turns config schedule n).last) (story_of code turns config schedule n).flip (claims_of code turns config schedule n) asked room live)

-- ---- flips

-- how often mutator m flipped since its last answer with all pages of the space in use, once this is told of an event of worker w, before
-- which they were or weren't
abbrev pub flips_after : (m flips : ℕ) → (all_in_use : Bool) → (w : ℕ) → Stepped → ℕ
flips_after m flips all_in_use w Idle = flips
flips_after m flips all_in_use w Moved = flips
flips_after m flips all_in_use w Traced = flips
flips_after m flips all_in_use w (Effect j) = if j == m then 0 else flips
flips_after m flips all_in_use w (Ended j why) = if j == m then 0 else flips
flips_after m flips all_in_use w (Flipped asked) = if w == m && all_in_use then flips + 1 else flips

abbrev pub flips_next : (m : ℕ) → CoreState → ℕ → (flips : ℕ) → ℕ
flips_next m s w flips = flips_after m flips (size_in s == s.heap.pages) w (event_of s w).told

-- with all pages in use a mutator flips at most once for an instruction
abbrev pub InstructionsFlipOnce : Type 0
InstructionsFlipOnce = InEveryRun (λ code turns config schedule n. (m : ℕ) → count_of (flips_next m) code turns config schedule n ≤ 1)
