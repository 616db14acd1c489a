-- Where a step of the plain machine takes memory.
use Rattle.std.specs.Prelude.{◌≡◌, ℕ, Bool, true, false, List, Some, None, Result, Ok, IsOk, IsTrue, slice_get}
use Rattle.plain_state.specs.declared.end.End.{End}
use Rattle.plain_state.specs.State.{Heap, Mutator, Plain}
use Rattle.mutator_asm.specs.declared.instr.Instr.{Instr}
use Rattle.plain_heap.specs.declared.action.Action.{Action}
use Rattle.plain_heap.specs.declared.action.Action.TheVariants.{Prints, Makes, Snaps}
use Rattle.plain_heap.specs.Action.{action}
use Rattle.plain_heap.specs.Call.{call}
use Rattle.plain_heap.specs.Step.{fetch}

-- to make a record, to print a number or to begin a checkpoint takes memory
abbrev pub takes_memory : Result Action End → Bool
takes_memory (Ok (Makes kind d n v)) = true
takes_memory (Ok (Prints n)) = true
takes_memory (Ok Snaps) = true
takes_memory _ = false

-- the next instruction of mutator m, which is k, takes memory, and is no end
pub record TurnTakesMemory (code : List (List Instr)) (turns m : ℕ) (heap : Heap) (k : Mutator) : Type 0 where
  pub instr : Instr
  pub fetched : fetch code turns m k ≡ Ok instr
  pub takes : IsTrue (takes_memory (action k instr))
  pub executed : IsOk (call m heap k instr)

-- mutator m has no end, and its next step executes an instruction that takes memory
pub record StepTakesMemory (code : List (List Instr)) (turns : ℕ) (s : Plain) (m : ℕ) : Type 0 where
  pub mutator : Mutator
  pub is_there : slice_get s.mutators m ≡ Some mutator
  pub no_end : mutator.end ≡ None
  pub turn : TurnTakesMemory code turns m s.heap mutator
