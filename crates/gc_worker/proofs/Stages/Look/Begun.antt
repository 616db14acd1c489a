-- A mutator that looks at the gate and keeps the epoch in which its instruction begins.
use Rattle.std.proofs.Common.{ℕ}
use Rattle.gc_worker.specs.declared.stage.Stage.TheVariants.{Looks}
use Rattle.gc_worker.specs.Workers.Fits.{Fits}
use Rattle.gc_worker.specs.Workers.Held.{Held, at_stage}
use Rattle.gc_worker.specs.Steps.Turned.{begins}

pub begun_fits : (n mutators k : ℕ) (y : Held) → Fits n mutators k (at_stage y Looks) → Fits n mutators k (begins (at_stage y Looks))
begun_fits n mutators k y f = record {
  worker = f.worker;
  end = f.end;
  side = f.side;
  task = f.task;
  stage = f.stage;
}
