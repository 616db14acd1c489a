-- What a step that answers a task is to the plain machine.
use Rattle.std.specs.Prelude.{◌≡◌, ℕ, ⊤, List, Option, Some, None, Err, IsOk, fold, slice_get}
use Rattle.std.specs.Option.{option_map}
use Rattle.plain_state.specs.declared.end.End.{End}
use Rattle.plain_state.specs.declared.end.End.TheVariants.{HeapFull}
use Rattle.plain_state.specs.declared.value.Identity.{Identity}
use Rattle.plain_state.specs.State.{Heap, Mutator, Plain}
use Rattle.plain_state.specs.Writing.{with_heap}
use Rattle.plain_heap.specs.Emptied.{emptied_cell}
use Rattle.plain_heap.specs.Call.{call}
use Rattle.plain_heap.specs.Step.{settled, ended, new_record, pages_of}
use Rattle.mutator_asm.specs.declared.instr.Instr.{Instr}
use Rattle.gc_worker.specs.declared.task.Task.{Task}
use Rattle.gc_worker.specs.declared.task.Task.TheVariants.{Calls, Stops}
use Rattle.gc_worker.specs.declared.calls.did.Did.{Did}
use Rattle.gc_worker.specs.declared.calls.did.Did.TheVariants.{Done, Trap}
use Rattle.gc_worker.specs.Steps.Turned.{Told, Silent, Empties, Answers, Marks}

-- ---- what it may be

-- the instruction's own end; or that the heap is full, of one that makes a record, for which so many pages are asked
abbrev pub MayEnd : (k : ℕ) → Heap → Mutator → Instr → End → Type 0
MayEnd k heap q instr (HeapFull asked room live) = option_map pages_of (new_record q instr) ≡ Some asked
MayEnd k heap q instr end = call k heap q instr ≡ Err end

-- a call of mutator k, which is q, may come to this
abbrev pub MayCome : (k : ℕ) → Heap → Mutator → Task → Did → Type 0
MayCome k heap q (Calls instr) Done = IsOk (call k heap q instr)
MayCome k heap q (Calls instr) (Trap end) = MayEnd k heap q instr end
MayCome k heap q (Stops end) Done = ⊥
MayCome k heap q (Stops end) (Trap other) = other ≡ end

-- mutator k has no end, and its task may come to this
pub record ComesTo (p : Plain) (k : ℕ) (task : Task) (outcome : Did) : Type 0 where
  pub mutator : Mutator
  pub is : slice_get p.mutators k ≡ Some mutator
  pub no_end : mutator.end ≡ None
  pub may : MayCome k p.heap mutator task outcome

abbrev pub IsAnswered : Plain → (k : ℕ) → Told → Type 0
IsAnswered p k Silent = ⊤
IsAnswered p k Empties = ⊤
IsAnswered p k (Answers task outcome) = ComesTo p k task outcome
IsAnswered p k (Marks asked) = ⊤

-- ---- the plain state after it

-- the plain state in which these cells have the number 0
abbrev pub with_emptied : Plain → List Identity → Plain
with_emptied p cells = with_heap p (fold emptied_cell p.heap cells)

abbrev pub after_outcome : Plain → (k : ℕ) → Mutator → Task → Did → Plain
after_outcome p k q (Calls instr) Done = settled p k q (call k p.heap q instr)
after_outcome p k q (Stops end) Done = p
after_outcome p k q task (Trap end) = ended p k q end

abbrev pub after_answer : Plain → (k : ℕ) → Task → Did → Option Mutator → Plain
after_answer p k task outcome (Some q) = after_outcome p k q task outcome
after_answer p k task outcome None = p

-- where it tells that the epoch is traced, these cells are empty
abbrev pub after_told : (empty : List Identity) → Plain → (k : ℕ) → Told → Plain
after_told empty p k Silent = p
after_told empty p k Empties = with_emptied p empty
after_told empty p k (Answers task outcome) = after_answer p k task outcome (slice_get p.mutators k)
after_told empty p k (Marks asked) = p
