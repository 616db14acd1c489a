-- Workers that begin, that are given a task, or that took a reply are sound.
use Rattle.std.proofs.Common.{◌≡◌, ℕ, ◌<◌, ◌≤◌, Bool, List, Option, Some, None, sym, subst, arith, lt-ltb}
use Rattle.std.proofs.lemmas.Bool.{le-ltb}
use Rattle.space_map.specs.declared.spaces.TheConstants.{LAST_WORKER, MOST_MUTATORS}
use Rattle.space_map.specs.Spaces.{Layout, IsPageCount}
use Rattle.atom_store.specs.declared.step.Step.{Step}
use Rattle.gc_worker.specs.declared.task.Task.{Task}
use Rattle.gc_worker.specs.Laws.Between.{IsIdle, fresh_mutator, fresh_scanner, with_task}
use Rattle.gc_worker.specs.Workers.Fits.{MayBegin}
use Rattle.gc_worker.specs.Workers.Held.{Held}
use Rattle.gc_worker.specs.Steps.Made.{AllowsStep, MayMake, step_made, step_made_by}
use Rattle.gc_worker.specs.Steps.Stepped.{IsSound, uncounted}
use Rattle.gc_worker.specs.Steps.Wanted.{wanted}
use Rattle.gc_worker.proofs.Between.Beginning.{tasks_may_begin}
use Rattle.gc_worker.proofs.Between.OpenedHeap.{mutator_fits, scanner_fits}
use Rattle.gc_worker.proofs.Workers.ApartFromCount.{counted_fit}

pub mutators_are_sound : (prints : Bool) (s : Layout) (mutators k : ℕ) (y : Held) → y ≡ fresh_mutator prints s mutators k → IsPageCount s.pages → k < mutators → mutators ≤ MOST_MUTATORS → IsSound y
mutators_are_sound prints s mutators k y is size below few =
    subst IsSound (sym is) (mutator_fits prints s mutators k size (omega arith) (lt-ltb k mutators below))

pub scanners_are_sound : (prints : Bool) (s : Layout) (mutators k : ℕ) (y : Held) → y ≡ fresh_scanner prints s mutators k → IsPageCount s.pages → mutators ≤ k → k ≤ LAST_WORKER → IsSound y
scanners_are_sound prints s mutators k y is size past few = subst IsSound (sym is) (scanner_fits prints s mutators k size few (le-ltb k mutators past))

pub begun_are_sound : (x y : Held) (task : Task) → y ≡ with_task x task → IsSound x → IsIdle x → MayBegin x.account x.registers (Some task) → IsSound y
begun_are_sound x y task is sound idle may =
    subst IsSound (sym is) ((tasks_may_begin x.layout.pages x.mutators x.number x task sound idle may).fits sound)

pub uncounted_are_sound : (x y : Held) → y ≡ uncounted x → IsSound x → IsSound y
uncounted_are_sound x y is sound = subst IsSound (sym is) ((counted_fit x.layout.pages x.mutators x.number 0 x).1 sound)

pub made_are_sound : (x y : Held) (words : List ℕ) → y ≡ uncounted (step_made x words).held → IsSound x → MayMake x words → IsSound y
made_are_sound x y words is sound may = uncounted_are_sound (step_made x words).held y is (by_step (wanted x) may)
  where
    by_step : (step : Option Step) → AllowsStep x words step → IsSound (step_made_by x words step).held
    by_step None may = sound
    by_step (Some q) may = may.fits
