-- The calls of a mutator that leaves the board alone, and the same calls made alone.
use Rattle.std.specs.Prelude.{◌≡◌, ℕ, ⊤, Bool, true, false, cond, List, [], ◌∷◌, map, Result, Ok, Err, slice_get, slice_index_or, IsTrue}
use Rattle.plain_state.specs.declared.end.End.{End}
use Rattle.plain_state.specs.State.{Heap, Mutator, Plain, made_by}
use Rattle.plain_heap.specs.Alone.{is_heap_full, leaves_board}
use Rattle.plain_heap.specs.Call as instruction
use Rattle.plain_heap.specs.Order.{fresh}
use Rattle.heap_laws.specs.Opening.{opening_plain}
use Rattle.gc_worker.specs.declared.task.Task.{Task}
use Rattle.gc_worker.specs.declared.task.Task.TheVariants.{Calls, Stops}
use Rattle.gc_worker.specs.declared.calls.call.Call.{Call}
use Rattle.gc_worker.specs.declared.calls.did.Did.{Did}
use Rattle.gc_worker.specs.declared.calls.did.Did.TheVariants.{Done, Trap}
use Rattle.gc_worker.specs.declared.calls.entry.Entry.{Entry}
use Rattle.gc_worker.specs.declared.calls.entry.Entry.TheVariants.{Made}
use Rattle.gc_worker.specs.History.Legal.{IsLegal, after_all, after_call, calls_of}
use Rattle.ael_threads.specs.Histories.{Each}

-- ---- calls

-- the task names no word of the board and makes no cell; an end that is given in an instruction's place does neither
abbrev pub task_leaves_board : Task → Bool
task_leaves_board (Calls instr) = leaves_board instr
task_leaves_board (Stops end) = true

-- so does the task of a call
abbrev pub LeavesBoard : Call → Type 0
LeavesBoard c = IsTrue (task_leaves_board c.task)

-- what came of a call is that the heap is full
abbrev pub is_full_did : Did → Bool
is_full_did Done = false
is_full_did (Trap end) = is_heap_full end

-- the calls before the first that found the heap full
abbrev pub before_full : List Call → List Call
before_full [] = []
before_full (c ∷ cs) = cond (is_full_did c.did) [] (c ∷ before_full cs)

-- a call by which its mutator has an end is the last
abbrev pub EndIsLast : List Call → Type 0
EndIsLast [] = ⊤
EndIsLast (c ∷ cs) = ((end : End) → c.did ≡ Trap end → cs ≡ []) × EndIsLast cs

-- what calls were made of
abbrev pub tasks_of : List Call → List Task
tasks_of calls = map (λ c. c.task) calls

-- what came of each call
abbrev pub replies_of : List Call → List Did
replies_of calls = map (λ c. c.did) calls

-- ---- alone

-- the history that has these calls and nothing else
abbrev pub alone_history : List Call → List Entry
alone_history calls = map (λ c. Made c) calls

-- what comes of an instruction on the plain heap, which is never full
abbrev pub did_by : Result instruction.After End → Did
did_by (Ok after) = Done
did_by (Err end) = Trap end

-- what comes there of a task of mutator m, which is k
abbrev pub reply_by : (m : ℕ) → Heap → Mutator → Task → Did
reply_by m heap k (Calls instr) = did_by (instruction.call m heap k instr)
reply_by m heap k (Stops end) = Trap end

-- the task as a call of mutator m, with that reply
abbrev pub replied : Plain → (m : ℕ) → Task → Call
replied p m task = record { by = m; task = task; did = reply_by m p.heap (slice_index_or p.mutators m fresh) task }

-- the replies to tasks of mutator m, one after another, where nobody else makes a call
abbrev pub replies_alone : Plain → (m : ℕ) → List Task → List Did
replies_alone p m [] = []
replies_alone p m (task ∷ tasks) = (replied p m task).did ∷ replies_alone (after_call p (replied p m task)) m tasks

-- ---- the law

-- Calls of mutator m, made alone from a plain state on. They are legal there, with the replies that they have. Up to the first that
-- the heap is full these are just the replies that the plain machine makes to the tasks, and where it is, no call follows. After
-- the calls mutator m is as it is in another state, with the same records.
pub record ComesToTheSame (from other : Plain) (m : ℕ) (calls : List Call) : Type 0 where
  pub legal : IsLegal from (alone_history calls)
  pub replies : replies_alone from m (tasks_of (before_full calls)) ≡ replies_of (before_full calls)
  pub last : EndIsLast calls
  pub mutator : slice_get (after_all from (alone_history calls)).mutators m ≡ slice_get other.mutators m
  pub records : made_by (after_all from (alone_history calls)).heap m ≡ made_by other.heap m

-- In a history, the calls of a mutator that names no word of the board and makes no cell come to what they come to alone on an empty plain
-- heap, which has no records, whatever the others do: they may use the board, make cells, and share among themselves.
abbrev pub LoneCallsComeToTheSame : Type 0
LoneCallsComeToTheSame = (mutators : ℕ) (log : List Entry) (m : ℕ) → IsLegal (opening_plain mutators) log → Each LeavesBoard (calls_of m log)
    → ComesToTheSame (opening_plain mutators) (after_all (opening_plain mutators) log) m (calls_of m log)
