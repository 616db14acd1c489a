-- What a worker keeps of itself, from one stage to the next.
use Rattle.std.proofs.Common.{◌≡◌, ℕ, ◌+◌, ◌<◌, ◌≤◌, ◌^◌, Bool, true, false, List, [], length, replicate, Option, None, is_some, nat_lt, refl, sym, subst, arith}
use Rattle.std.specs.Prelude.{◌&&◌}
use Rattle.std.proofs.lemmas.Bool.{ltb-true}
use Rattle.plain_state.specs.declared.sizes.TheConstants.{REGISTERS, MOST_PRINTED}
use Rattle.space_map.specs.declared.spaces.TheConstants.{LAST_WORKER}
use Rattle.space_map.specs.Spaces.{Layout, IsPageCount}
use Rattle.alloc_end.specs.declared.run.Run.{Run}
use Rattle.gate_core.specs.declared.passage.Passage.{Passage}
use Rattle.gate_core.specs.Snap as snap
use Rattle.gc_worker.specs.declared.stage.after.After.{After}
use Rattle.gc_worker.specs.declared.stage.Stage.{Stage}
use Rattle.gc_worker.specs.declared.stage.Stage.TheVariants.{BeginsCheckpoint}
use Rattle.gc_worker.specs.Workers.Fits.{IsWorkerOf, AreValues, Fits, FitsRun, FitsStage, FitsEnd, FitsTask, FitsTaskBefore, IsOnSide, IsOwnPassage, IsEndBefore, IsSnapping}
use Rattle.gc_worker.specs.Workers.Held.{Held, at_stage, may_snap}
use Rattle.gc_worker.specs.Steps.Turned.{passes, in_epoch}

-- The parts of a worker are spelled here alone: of a new one, and of one of which some are others now.
pub new_worker : (layout : Layout) (mutators k : ℕ) → IsPageCount layout.pages → k ≤ LAST_WORKER → AreValues (replicate REGISTERS 0)
    → IsWorkerOf layout.pages mutators k k layout mutators 0 0 0 (replicate REGISTERS 0) [] None
new_worker layout mutators k size few values = record {
  number = refl;
  few = few;
  pages = refl;
  counted = size;
  beside = refl;
  epoch = omega arith;
  numbers = record { snap_fits = omega arith; running_fits = omega arith; none = λ _. (refl, refl) };
  eight = refl;
  registers = values;
  few_printed = omega arith;
  run = tt;
}

-- with another epoch, registers, printed numbers or run
pub with_parts : {n mutators k own others now snap running : ℕ} {layout : Layout} {words printed : List ℕ} {own_run : Option Run}
    → IsWorkerOf n mutators k own layout others now snap running words printed own_run
    → {epoch : ℕ} {registers numbers : List ℕ} {run : Option Run} → epoch < 2 ^ 32 → length registers ≡ REGISTERS → AreValues registers → length numbers ≤ MOST_PRINTED → FitsRun n run
    → IsWorkerOf n mutators k own layout others epoch snap running registers numbers run
with_parts w short eight values few run = record {
  number = w.number;
  few = w.few;
  pages = w.pages;
  counted = w.counted;
  beside = w.beside;
  epoch = short;
  numbers = w.numbers;
  eight = eight;
  registers = values;
  few_printed = few;
  run = run;
}

-- there is a number for one more checkpoint
pub next_number : (room : Bool) (last : ℕ) → room && nat_lt (last + 1) (2 ^ 32) ≡ true → last + 1 < 2 ^ 32
next_number true last is = ltb-true (last + 1) (2 ^ 32) is
next_number false last is = absurd (cc)

-- and room for it
pub has_room : (room : Bool) (last : ℕ) → room && nat_lt (last + 1) (2 ^ 32) ≡ true → room ≡ true
has_room true last is = refl
has_room false last is = absurd (cc)

module _ (n mutators k : ℕ) (x : Held) (f : Fits n mutators k x) where
  -- a worker at another stage
  pub refit : (stage : Stage) → FitsEnd stage (is_some x.account.end) → IsOnSide stage (nat_lt x.number x.mutators) (is_some x.account.end)
      → FitsTask (at_stage x stage) stage → FitsStage (at_stage x stage) stage → Fits n mutators k (at_stage x stage)
  refit stage end side task fits = record {
    worker = f.worker;
    end = end;
    side = side;
    task = task;
    stage = fits;
  }

  -- one that comes into another epoch
  pub come : (epoch : ℕ) → epoch < 2 ^ 32 → (stage : Stage) → FitsEnd stage (is_some x.account.end) → IsOnSide stage (nat_lt x.number x.mutators) (is_some x.account.end)
      → FitsTask (at_stage (in_epoch x epoch) stage) stage → FitsStage (at_stage (in_epoch x epoch) stage) stage → Fits n mutators k (at_stage (in_epoch x epoch) stage)
  come epoch short stage end side task fits = record {
    worker = with_parts f.worker short f.eight f.registers f.few_printed tt;
    end = end;
    side = side;
    task = task;
    stage = fits;
  }

  pub page_count : IsPageCount x.layout.pages
  page_count = subst IsPageCount (sym f.pages) f.counted

  -- before a passage
  pub before_passage : (passage : Passage) (after : After) → IsEndBefore passage (is_some x.account.end) → nat_lt x.number x.mutators ≡ true
      → FitsTaskBefore x passage after → IsOwnPassage x after passage → Fits n mutators k (at_stage x (passes x passage after))
  before_passage passage after end side task own =
      refit (passes x passage after) end side task
      (record { layout = refl; passage = own; going = tt; sound = record { pages = page_count; stage = tt } })

  -- before a checkpoint is begun
  pub before_snap : is_some x.account.end ≡ false → nat_lt x.number x.mutators ≡ true → IsSnapping x.account x.registers x.task → may_snap x ≡ true
      → Fits n mutators k (at_stage x (BeginsCheckpoint (snap.begun x.layout x.snap)))
  before_snap end side task may =
      refit (BeginsCheckpoint (snap.begun x.layout x.snap)) end side task
      (record { layout = refl; number = refl; may = may; going = tt; sound = record { pages = page_count; number = next_number x.layout.checkpoints x.snap may; stage = tt } })
