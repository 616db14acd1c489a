-- A program that is run: what each mutator and scanner comes to on its thread, and what is told in the end.
use Rattle.std.specs.Prelude.{◌≡◌, ⊤, ℕ, ◌+◌, List, [], ◌∷◌, ◌++◌, Some, None}
use mathlib.Core.List.{IsPrefix}
use Rattle.atomic_table.specs.Seated.{TableId}
use Rattle.plain_state.specs.declared.end.End.{End}
use Rattle.plain_state.specs.declared.end.End.TheVariants.{HeapFull}
use Rattle.plain_state.specs.Reachable.{IsLive}
use Rattle.mutator_asm.specs.declared.instr.Instr.{Instr}
use Rattle.gc_worker.specs.declared.stage.Stage.TheVariants.{Gone}
use Rattle.gc_worker.specs.Plain.Full.{FindsNoRoom}
use Rattle.gc_worker.specs.declared.calls.did.Did.TheVariants.{Trap}
use Rattle.gc_worker.specs.declared.task.Task.{Task}
use Rattle.gc_worker.specs.declared.calls.call.Call.{Call}
use Rattle.gc_worker.specs.declared.calls.entry.Entry.{Entry}
use Rattle.gc_worker.specs.declared.calls.entry.Entry.TheVariants.{Made}
use Rattle.ael_threads.specs.declared.view.Plan.{Plan}
use Rattle.gc_worker.specs.History.Legal.{IsLegal, worker_call, last_flip}
use Rattle.ael_threads.specs.Began.{FlippedSinceBegun}
use Rattle.ael_threads.specs.Histories.{first_plain, hand}
use Rattle.ael_threads.specs.Runs.Programs.{HasExecuted}
use Rattle.ael_threads.specs.Readers.{SeatedScanner}
use Rattle.ael_threads.specs.Seats.{IsMine, Seated, ShowsSeen}
use Rattle.ael_threads.specs.Workers.{StandsAfter}

-- ---- a full heap

-- The heap was full for mutator m at its call with which the history ends: by words with which these workers stood for the history before
-- the call; and what is told as live was live at the last flip, which came since the look that began the call's task, in the epoch that m
-- keeps among these workers, if it is not the last that there can be.
pub record FoundFull (plan : Plan) (m : ℕ) (log : List Entry) (asked room live : ℕ) : Type 0 where
  pub before : List Entry
  pub task : Task
  pub is : log ≡ before ++ Made (worker_call m task (Trap (HeapFull asked room live))) ∷ []
  pub there : StandsAfter plan m before
  pub open there use *
  pub no_room : FindsNoRoom plan.spaces.pages words held asked room live
  pub was_live : IsLive (last_flip (first_plain plan) log) live
  pub flipped : FlippedSinceBegun plan m task held.begun before

-- at a call of this history
abbrev pub EndFoundFull : Plan → (m : ℕ) → List Entry → End → Type 0
EndFoundFull plan m log (HeapFull asked room live) = FoundFull plan m log asked room live
EndFoundFull plan m log end = ⊤

-- Mutator m found the heap full, where this is its end, at a call with which a beginning of the history ends.
pub record FullIn (plan : Plan) (m : ℕ) (log : List Entry) (end : End) : Type 0 where
  pub upto : List Entry
  pub begins : IsPrefix upto log
  pub full : EndFoundFull plan m upto end

-- ---- what the threads of a run share

-- a program, the most instructions that a mutator may execute of it, the table of the heap and its plan
pub record Work : Type 0 where
  pub code : List (List Instr)
  pub turns : ℕ
  pub table : TableId
  pub plan : Plan

-- ---- a mutator

-- Mutator m has executed so many instructions of the program, and is at the next one: its seat has it alone, each of its calls was of
-- what it fetched there, and the history that was seen has them all.
pub record Executing (w : Work) (m count : ℕ) (s : Seated) : Type 0 where
  pub table : s.table ≡ w.table
  pub plan : s.knows.plan ≡ w.plan
  pub own : List Call
  pub hands : s.knows.hands ≡ hand m s.worker own ∷ []
  pub mine : IsMine s.knows
  pub task : s.worker.task ≡ None
  pub going : s.worker.account.end ≡ None
  pub legal : IsLegal (first_plain w.plan) s.knows.seen
  pub executed : HasExecuted w.code w.turns count s

-- It has executed the program to its end.
pub record Executed (w : Work) (m : ℕ) (s : Seated) : Type 0 where
  pub table : s.table ≡ w.table
  pub plan : s.knows.plan ≡ w.plan
  pub own : List Call
  pub hands : s.knows.hands ≡ hand m s.worker own ∷ []
  pub mine : IsMine s.knows
  pub task : s.worker.task ≡ None
  pub end : End
  pub ended : s.worker.account.end ≡ Some end
  pub shows : ShowsSeen s.worker s.knows
  pub legal : IsLegal (first_plain w.plan) s.knows.seen
  pub count : ℕ
  pub executed : HasExecuted w.code w.turns count s
  pub full : EndFoundFull w.plan m s.knows.seen end

-- and has left
pub record HasRun (w : Work) (m : ℕ) (s : Seated) : Type 0 where
  pub executed : Executed w m s
  pub gone : s.worker.stage ≡ Gone

-- ---- a scanner

-- worker k, which its seat has alone, makes no calls
pub record RunsAsScanner (w : Work) (k : ℕ) (s : Seated) : Type 0 where
  pub table : s.table ≡ w.table
  pub plan : s.knows.plan ≡ w.plan
  pub hands : s.knows.hands ≡ hand k s.worker [] ∷ []
  pub task : s.worker.task ≡ None

-- and is gone, as a scanner is only after it has found that all mutators have left (`saw` of `Moves`)
pub record ScannerIsGone (w : Work) (k : ℕ) (s : Seated) : Type 0 where
  pub scanning : RunsAsScanner w k s
  pub gone : s.worker.stage ≡ Gone

-- ---- all workers

-- a fact of each element and its number, counted from this one
abbrev pub EachFrom : {A : Type 0} → (ℕ → A → Type 0) → ℕ → List A → Type 0
EachFrom P n [] = ⊤
EachFrom P n (x ∷ xs) = P n x × EachFrom P (n + 1) xs

-- mutators, numbered from this one on, that are about to execute the program
abbrev pub AreReady : Work → (from : ℕ) → List Seated → Type 0
AreReady w from mutators = EachFrom (λ m s. Executing w m 0 s) from mutators

-- and that have executed it
abbrev pub HaveRun : Work → (from : ℕ) → List Seated → Type 0
HaveRun w from mutators = EachFrom (HasRun w) from mutators

-- scanners, numbered from this one on
abbrev pub AreScanning : Work → (from : ℕ) → List SeatedScanner → Type 0
AreScanning w from scanners = EachFrom (λ k (s : SeatedScanner). RunsAsScanner w k s.seated) from scanners

-- and after their last act
abbrev pub HaveScanned : Work → (from : ℕ) → List SeatedScanner → Type 0
HaveScanned w from scanners = EachFrom (λ k (s : SeatedScanner). ScannerIsGone w k s.seated) from scanners
