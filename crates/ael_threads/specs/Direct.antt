-- Direct calls of a caller: its worker's code stays at the look, while the caller of the proofs goes on act by act.
use Rattle.std.specs.Prelude.{Bool, true, false}
use Rattle.plain_state.specs.declared.end.End.{End}
use Rattle.gc_worker.specs.declared.calls.did.Did.TheVariants.{Done, Trap}
use Rattle.gc_worker.specs.declared.steps.answered.Answered.{Answered}
use Rattle.gc_worker.specs.declared.steps.answered.Answered.TheVariants.{Open, Executed, Ended}
use Rattle.gc_worker.specs.declared.task.Task.{Task}
use Rattle.ael_threads.specs.Calls.{Called, IsUnderWay}
use Rattle.ael_threads.specs.Seats.{FitsTable, HasHeardAllSeen, Heads, IsMine, Seated, ShowsSeen}

-- as a caller is between any two acts
pub record IsReady (b : Seated) : Type 0 where
  pub heads : Heads b.knows.plan b.worker b.knows.hands
  pub live : FitsTable b.table b.knows
  pub mine : IsMine b.knows
  pub shows : ShowsSeen b.worker b.knows
  pub heard : HasHeardAllSeen b.knows

-- how far a caller came with a call that it began
abbrev pub BeginsCall : Seated → Task → Answered → Seated → Type 0
BeginsCall a task Open b = IsUnderWay a task b
BeginsCall a task Executed b = Called a task Done b
BeginsCall a task Ended b = (end : End) × Called a task (Trap end) b

-- THE CLAUSE OF A DIRECT CALL: the call was executed, or the mutator came to its end by it
abbrev pub CalledSo : Seated → Task → (executed : Bool) → Seated → Type 0
CalledSo a task true b = Called a task Done b
CalledSo a task false b = (end : End) × Called a task (Trap end) b
