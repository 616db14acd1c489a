-- Histories in which mutators execute a program.
use Rattle.std.specs.Prelude.{◌≡◌, ℕ, ◌+◌, ◌<◌, ◌≤◌, nat_le, List, length, Some, Result, Err, slice_get, if◌then◌else◌}
use Rattle.std.specs.Option.{ok_or}
use Rattle.plain_state.specs.declared.end.End.{End}
use Rattle.plain_state.specs.declared.end.End.TheVariants.{JumpOut, TurnsOut}
use Rattle.plain_state.specs.State.{Mutator, Plain, serial_of}
use Rattle.mutator_asm.specs.declared.instr.Instr.{Instr}
use Rattle.mutator_asm.specs.Program.{instr_at}
use Rattle.gc_worker.specs.declared.calls.did.Did.{Did}
use Rattle.gc_worker.specs.declared.calls.did.Did.TheVariants.{Done, Trap}
use Rattle.gc_worker.specs.declared.calls.entry.Entry.{Entry}
use Rattle.gc_worker.specs.History.Legal.{after_all}
use Rattle.gc_worker.specs.History.Order.{AreFetched, AreShort}
use Rattle.ael_threads.specs.Histories.{first_plain}
use Rattle.ael_threads.specs.Seats.{Seated, first_number}

-- ---- what a mutator's thread keeps

-- how many instructions a mutator has executed after this call
abbrev pub count_after_call : Did → ℕ → ℕ
count_after_call Done count = count + 1
count_after_call (Trap end) count = count

-- Mutator m, for which records are kept, has executed so many instructions and has made no more records than that.
pub record HasCount (p : Plain) (m count : ℕ) : Type 0 where
  pub executed : (q : Mutator) → slice_get p.mutators m ≡ Some q → q.executed ≡ count
  pub serial : serial_of p.heap m ≤ count
  pub kept : m < length p.heap.records

-- The calls of mutator m in this history, which begins with p, are those of its program, and it has executed so many instructions.
pub record Executes (code : List (List Instr)) (turns : ℕ) (p : Plain) (m count : ℕ) (log : List Entry) : Type 0 where
  pub fetched : AreFetched code turns m p log
  pub short : AreShort m log
  pub counts : HasCount (after_all p log) m count

-- so it is in what a seat has seen of its own mutator
abbrev pub HasExecuted : List (List Instr) → (turns count : ℕ) → Seated → Type 0
HasExecuted code turns count s = Executes code turns (first_plain s.knows.plan) (first_number s.knows.hands) count s.knows.seen

-- what mutator m fetches at a counter when it has executed so many instructions
abbrev pub fetched_at : List (List Instr) → (turns m counter count : ℕ) → Result Instr End
fetched_at code turns m counter count = if nat_le turns count then Err TurnsOut else ok_or (instr_at code m counter) JumpOut
