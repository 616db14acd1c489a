-- The look at the gate by which a mutator began an instruction, and a flip since then.
use Rattle.std.specs.Prelude.{◌≡◌, ℕ, ◌^◌, ◌-◌, ◌⊎◌, List, ◌∷◌, ◌++◌, Some, slice_index_or}
use mathlib.Core.List.{IsPrefix}
use Rattle.atom_store.specs.declared.step.Step.{Step}
use Rattle.atom_store.specs.Step.{reply_of}
use Rattle.gc_worker.specs.declared.calls.call.Call.{Call}
use Rattle.gc_worker.specs.declared.calls.entry.Entry.{Entry}
use Rattle.gc_worker.specs.declared.calls.entry.Entry.TheVariants.{Exchanged, Made}
use Rattle.plain_state.specs.declared.end.End.TheVariants.{HeapFull}
use Rattle.gc_worker.specs.declared.calls.did.Did.TheVariants.{Trap}
use Rattle.gc_worker.specs.declared.stage.Stage.TheVariants.{Looks}
use Rattle.gc_worker.specs.declared.task.Task.{Task}
use Rattle.gc_worker.specs.Laws.Cycles.{IsInCall}
use Rattle.gc_worker.specs.Workers.Held.{Held}
use Rattle.gc_worker.specs.Laws.Step.{nobody}
use Rattle.gc_worker.specs.Steps.Turned.{turned}
use Rattle.gc_worker.specs.Steps.Wanted.{wanted}
use Rattle.ael_threads.specs.declared.view.Plan.{Plan}
use Rattle.gc_worker.specs.History.Legal.{calls_of, worker_call}
use Rattle.gc_worker.specs.History.Tally.{tally}
use Rattle.ael_threads.specs.Histories.{opening_tally}
use Rattle.ael_threads.specs.Workers.{StandsAfter}

-- how many flips a history has
abbrev pub flips_of : Plan → List Entry → ℕ
flips_of plan log = (tally (opening_tally plan) log).flips

-- a flip is among the entries that the later history has more
pub record HasFlipped (early late : List Entry) : Type 0 where
  pub between : List Entry
  pub by : ℕ
  pub asked : ℕ
  pub rest : List Entry
  pub is : late ≡ early ++ (between ++ Exchanged by asked ∷ rest)

-- Where the history is this, mutator m looks at the gate and begins the task: with the words there and with what all workers hold, of
-- which m looks, they stand for the plain state after the history, whose number of flips is m's epoch, and by what it finds there m is
-- in the call.
pub record BeginsAt (plan : Plan) (m : ℕ) (task : Task) (log : List Entry) : Type 0 where
  pub there : StandsAfter plan m log
  pub open there use *
  pub task_is : held.task ≡ Some task
  pub looks : held.stage ≡ Looks
  pub epoch : flips_of plan log ≡ held.epoch
  pub step : Step
  pub wants : wanted held ≡ Some step
  pub begins : IsInCall (turned held (reply_of step words)).stage

-- Mutator m began this task in this epoch: by a look at which the history was a beginning of this one, with just these calls of m, and as
-- many flips as the epoch says.
pub record BegunWithin (plan : Plan) (m : ℕ) (task : Task) (begun : ℕ) (own : List Call) (log : List Entry) : Type 0 where
  pub began : List Entry
  pub look : BeginsAt plan m task began
  pub begins : IsPrefix began log
  pub calls : calls_of m began ≡ own
  pub flips : flips_of plan began ≡ begun

-- Mutator m, whose call of this task comes right after this history, began the task in this epoch by a look at a beginning of the history,
-- with all calls of m that it has; and since that look a flip came, or as many came as there can be.
pub record FlippedSinceBegun (plan : Plan) (m : ℕ) (task : Task) (begun : ℕ) (log : List Entry) : Type 0 where
  pub within : BegunWithin plan m task begun (calls_of m log) log
  pub open within use *
  pub flipped : HasFlipped began log ⊎ (flips_of plan log ≡ 2 ^ 32 - 1)

-- ---- a history

-- Worker m, which holds x and is in a call, began it by a look at a beginning of the history, with all calls of m that it has, in the
-- epoch that x keeps.
pub record HasLooked (plan : Plan) (m : ℕ) (x : Held) (log : List Entry) : Type 0 where
  pub task : Task
  pub task_is : x.task ≡ Some task
  pub within : BegunWithin plan m task x.begun (calls_of m log) log
  pub open within use *

-- the epochs in which workers began their last tasks, by their numbers
abbrev pub begun_held : List Held → ℕ → ℕ
begun_held workers j = (slice_index_or workers j nobody).begun

-- Wherever the history tells that mutator m finds the heap full, m began that task by a look in this epoch, and since then a flip came, or
-- none can.
abbrev pub FlippedIfFull : Plan → (m begun : ℕ) → List Entry → Type 0
FlippedIfFull plan m begun log = (front rest : List Entry) (task : Task) (asked room live : ℕ) → front ++ Made (worker_call m task (Trap (HeapFull asked room live))) ∷ rest ≡ log
    → FlippedSinceBegun plan m task begun front
