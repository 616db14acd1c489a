-- Where a worker stands between two calls, or between two rounds of its duty.
use Rattle.std.specs.Prelude.{Bool, true, false, Option, None}
use Rattle.fault_duty.specs.Duty as duty
use Rattle.gc_worker.specs.declared.stage.Stage.{Stage}
use Rattle.gc_worker.specs.declared.stage.Stage.TheVariants.{Looks, Serves, Gone}
use Rattle.gc_worker.specs.declared.stage.back.Back.TheVariants.{ToScanner}
use Rattle.gc_worker.specs.declared.task.Task.{Task}
use Rattle.gc_worker.specs.Workers.Held.{Held}

-- a mutator that looks at the gate and has no task; a scanner that begins a round; or a worker that is gone
abbrev pub is_at_rest_by : Stage → Option Task → Bool
is_at_rest_by Looks None = true
is_at_rest_by (Serves d ToScanner) task = duty.is_first d.stage
is_at_rest_by Gone task = true
is_at_rest_by stage task = false

abbrev pub is_at_rest : Held → Bool
is_at_rest x = is_at_rest_by x.stage x.task
