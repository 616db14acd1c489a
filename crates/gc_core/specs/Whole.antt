-- What holds of a whole run: the plain machine, executing its order, is what the core represents in the end, and each mark of the
-- order acts.
use Rattle.std.specs.Prelude.{◌≡◌, true, false, ℕ, ◌≤◌, ◌<◌}
use Rattle.plain_state.specs.declared.end.End.TheVariants as ends
use Rattle.plain_state.specs.Cells.{CellsFollow}
use Rattle.plain_state.specs.State.{Plain}
use Rattle.plain_heap.specs.Order.{Story, first_story, story_after}
use Rattle.plain_heap.specs.Print.{plain_seen}
use Rattle.dump_text.specs.Said.{dump_said}
use Rattle.heap_state.specs.Meaning.Represents.{DumpRepresents, Represents}
use Rattle.gc_worker.specs.Laws.Checkpoints.{TellsKept}
use Rattle.gc_worker.specs.Laws.Copied.{IsTraced}
use Rattle.gc_worker.specs.Plain.Full.{FindsNoRoom}
use Rattle.gc_worker.specs.Laws.Represented.{HasKept}
use Rattle.gc_worker.specs.Laws.Step.{read}
use Rattle.gc_worker.specs.Plain.Marks.{EachActs}
use Rattle.gc_worker.specs.declared.steps.stepped.Stepped.TheVariants.{Idle, Flipped, Ended}
use Rattle.gc_core.specs.Core.{CoreState, opening_core, workers_of}
use Rattle.gc_core.specs.Dumped.{dumped}
use Rattle.gc_core.specs.Event.{core_after, event_of, ready}
use Rattle.gc_core.specs.Claims.{AreApart, PagesAreWon, wins_from}
use Rattle.gc_worker.specs.History.Needs.{EachMayCome}
use Rattle.gc_worker.specs.Laws.Claims.{epoch_of_heap}
use Rattle.gc_core.specs.Law.{IsLawful, StandsFor, story_in}
use Rattle.gc_core.specs.Readers.{seen_of}
use Rattle.gc_core.specs.Run.{InEveryRun, run_from, run_of, EachEvent}

-- ---- heap full

-- where the event of a worker is its end for want of room, its epoch is traced and has no room for the record, and no flip can help
abbrev pub IsFull : CoreState → ℕ → Type 0
IsFull s w = (asked room live : ℕ) → (event_of s w).told ≡ Ended w (ends.HeapFull asked room live) → FindsNoRoom s.heap.pages s.heap.words (ready s w) asked room live

-- ---- a run

-- So many events by a schedule, from a core that stands for a story: the last core is lawful, and represents the plain machine that executed
-- the run's order from there on, which has kept the same checkpoint; if checkpoints can be begun, its words say it. So does what a dump tells
-- of it; what is seen of it is what is seen of that machine, each mark of the order acts, and heap full is told only where there is no room.
pub record IsPlainRun (schedule : ℕ → ℕ) (at n : ℕ) (s : CoreState) (story : Story) : Type 0 where
  pub lawful : IsLawful (run_from schedule at n s).last
  pub flip : lawful.flip ≡ (story_after s.code s.turns story (run_from schedule at n s).order).flip
  pub represents : Represents (read (run_from schedule at n s).last.heap) (story_after s.code s.turns story (run_from schedule at n s).order).now
  pub kept : HasKept (run_from schedule at n s).last.heap.checkpoints lawful.plain (story_after s.code s.turns story (run_from schedule at n s).order).now
  pub tells : (run_from schedule at n s).last.heap.checkpoints ≡ true → TellsKept (run_from schedule at n s).last.heap (story_after s.code s.turns story (run_from schedule at n s).order).now
  pub dump : DumpRepresents (dump_said (dumped (run_from schedule at n s).last)) (story_after s.code s.turns story (run_from schedule at n s).order).now
  pub seen : seen_of (run_from schedule at n s).last ≡ plain_seen (story_after s.code s.turns story (run_from schedule at n s).order).now
  pub acts : EachActs s.code s.turns story (run_from schedule at n s).order
  pub full : EachEvent IsFull schedule at n s

-- the cells of a plain state have what they have in the core's epoch, by the state at its flip
abbrev pub HasCells : CoreState → (flip now : Plain) → Type 0
HasCells s flip now = CellsFollow (IsTraced s.heap) flip now

-- From any lawful core and each plain state that it represents, by any schedule, from any place in it on and for any number of steps. The
-- cells of the state have to be as in the core's epoch, as they are again at the end: once a walk has emptied a cell, the core represents
-- states with any lost record in it, but a story's mark of tracing empties the cells that had lost records at the flip, and no others.
abbrev pub RunsArePlainRuns : Type 0
RunsArePlainRuns = (schedule : ℕ → ℕ) (at n : ℕ) (s : CoreState) (p : Plain) (lawful : IsLawful s) → StandsFor s lawful p → HasCells s lawful.flip p
    → IsPlainRun schedule at n s (story_in s lawful p)
    × HasCells (run_from schedule at n s).last (story_after s.code s.turns (story_in s lawful p) (run_from schedule at n s).order).flip (story_after s.code s.turns (story_in s lawful p) (run_from schedule at n s).order).now

-- and so of each program, from its opening
abbrev pub RunsFollow : Type 0
RunsFollow = InEveryRun (λ code turns config schedule n. IsPlainRun schedule 0 n (opening_core code turns config) (first_story code))

-- a worker that isn't there is idle, and its step changes nothing
abbrev pub MissingWorkersAreIdle : Type 0
MissingWorkersAreIdle = (s : CoreState) (worker : ℕ) → workers_of s ≤ worker → (Idle ≡ (event_of s worker).told) × (s ≡ core_after s worker)

-- ---- laws of runs

-- in the order of every run of every program, a mutator finds the heap full only where a flip came since its last step, or as many came
-- as there can be
abbrev pub FullsFollowFlips : Type 0
FullsFollowFlips = InEveryRun (λ code turns config schedule n. EachMayCome (λ m. false) 0 (run_of code turns config schedule n).order)

-- in every run no page is won twice in an epoch
abbrev pub NoPageIsWonTwice : Type 0
NoPageIsWonTwice = (schedule : ℕ → ℕ) (at n : ℕ) (s : CoreState) → IsLawful s → AreApart (wins_from schedule at n s)

-- in every run of every program, in each epoch but the first, which copies nothing, the pages that are open for copies were won,
-- each exactly once; once the epoch is traced the board and all pages into which records were copied are among them
abbrev pub CopiedPagesAreWonOnce : Type 0
CopiedPagesAreWonOnce = InEveryRun (λ code turns config schedule n. 0 < epoch_of_heap (run_of code turns config schedule n).last.heap
    → PagesAreWon (wins_from schedule 0 n (opening_core code turns config)) (run_of code turns config schedule n).last.heap)

-- and no event flips out of an epoch that isn't traced
abbrev pub FlipsAreOfTracedCores : Type 0
FlipsAreOfTracedCores = (s : CoreState) (w asked : ℕ) → IsLawful s → (event_of s w).told ≡ Flipped asked → IsTraced s.heap
