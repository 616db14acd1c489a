-- A clerk that has taken in all others: nobody else makes calls.
use Rattle.std.specs.Prelude.{◌≡◌, ◌⊎◌, ℕ, ◌<◌, false, List, [], ◌∷◌, length}
use Rattle.gc_worker.specs.declared.calls.did.Did.{Did}
use Rattle.gc_worker.specs.declared.task.Task.{Task}
use Rattle.gc_worker.specs.History.Legal.{IsLegal, after_call}
use Rattle.gc_worker.specs.Plain.Answer.{ComesTo}
use Rattle.ael_threads.specs.declared.view.Hand.{Hand}
use Rattle.ael_threads.specs.Calls.{Called, KnowsWorker, call_by}
use Rattle.ael_threads.specs.Histories.{HasOwnCalls, first_plain}
use Rattle.ael_threads.specs.Seats.{Seated, first_number, plain_after_seen}
use Rattle.concordance.specs.NoCells.{HasNoCells, task_makes_cell}

-- the mutator with this number is among these
abbrev pub HasNumber : ℕ → List Hand → Type 0
HasNumber j [] = ⊥
HasNumber j (h ∷ hs) = (j ≡ h.number) ⊎ HasNumber j hs

-- It has taken in each mutator of the heap, and has seen a legal history with just the calls that they made, by which nobody has made a cell.
pub record IsWhole (s : Seated) : Type 0 where
  pub knows : KnowsWorker s
  pub all : (j : ℕ) → j < length (first_plain s.knows.plan).mutators → HasNumber j s.knows.hands
  pub own : HasOwnCalls s.knows.seen s.knows.hands
  pub legal : IsLegal (first_plain s.knows.plan) s.knows.seen
  pub none : HasNoCells (plain_after_seen s.knows)

-- The call comes to what it comes to on the plain state after all that the clerk has seen, and leads on from there.
pub record CallsWhole (a : Seated) (task : Task) (did : Did) (b : Seated) : Type 0 where
  pub whole : IsWhole b
  pub comes : ComesTo (plain_after_seen a.knows) (first_number a.knows.hands) task did
  pub after : plain_after_seen b.knows ≡ after_call (plain_after_seen a.knows) (call_by a task did)

-- so is each call of such a clerk that makes no cell
abbrev pub WholeCalls : Type 0
WholeCalls = (a b : Seated) (task : Task) (did : Did) → IsWhole a → task_makes_cell task ≡ false → Called a task did b → CallsWhole a task did b
