-- Calls that are made by acts: what holds from `begin` on, and what they come to.
use Rattle.std.specs.Prelude.{◌≡◌, ℕ, ⊤}
use Rattle.plain_state.specs.declared.end.End.{End}
use Rattle.gc_worker.specs.Laws.Between.{with_task}
use Rattle.gc_worker.specs.Laws.Cycles.{IsInCall}
use Rattle.gc_worker.specs.declared.calls.did.Did.TheVariants.{Done, Trap}
use Rattle.gc_worker.specs.declared.steps.stepped.Stepped.{Stepped}
use Rattle.gc_worker.specs.declared.steps.stepped.Stepped.TheVariants.{Effect, Ended}
use Rattle.gc_worker.specs.declared.task.Task.{Task}
use Rattle.ael_threads.specs.Calls.{Called, IsUnderWay}
use Rattle.ael_threads.specs.Seats.{Acts, Seated}

-- an act that answers no task: neither an effect nor an end
abbrev pub AnswersNothing : Stepped → Type 0
AnswersNothing (Effect m) = ⊥
AnswersNothing (Ended m end) = ⊥
AnswersNothing s = ⊤

-- A task that was begun is under way: `begun`, `same` and `looks_first` of `begin` and `begin_end` are what is asked here.
abbrev pub BegunCallsAreUnderWay : Type 0
BegunCallsAreUnderWay = (a b : Seated) (task : Task) → b.worker ≡ with_task a.worker task → b.knows ≡ a.knows → (IsInCall b.worker.stage → ⊥) → IsUnderWay a task b

-- It stays under way by an act that answers nothing.
abbrev pub UnansweredCallsGoOn : Type 0
UnansweredCallsGoOn = (a b c : Seated) (task : Task) (s : Stepped) → IsUnderWay a task b → Acts b s c → AnswersNothing s → IsUnderWay a task c

-- An act that tells the effect makes it a call, which was executed.
abbrev pub EffectsCompleteCalls : Type 0
EffectsCompleteCalls = (a b c : Seated) (task : Task) (m : ℕ) → IsUnderWay a task b → Acts b (Effect m) c → Called a task Done c

-- An act that tells the end makes it a call, which came to that end; if it is heap full, a flip came since that task was begun.
abbrev pub EndsCompleteCalls : Type 0
EndsCompleteCalls = (a b c : Seated) (task : Task) (m : ℕ) (end : End) → IsUnderWay a task b → Acts b (Ended m end) c → Called a task (Trap end) c
