-- The sign on the board that an actor has stopped.
use Rattle.std.specs.Prelude.{◌≡◌, [], ◌∷◌, None}
use Rattle.plain_state.specs.declared.value.Value.TheVariants.{Number}
use Rattle.plain_state.specs.Writing.{with_board}
use Rattle.mutator_asm.specs.declared.instr.Instr.TheVariants.{Get}
use Rattle.mutator_asm.specs.declared.operand.Operand.TheVariants as operands
use Rattle.plain_heap.specs.Call.{board_word}
use Rattle.ael_threads.specs.Calls.{Halts}
use Rattle.ael_threads.specs.Seats.{Seated}
use Rattle.ael_runtime.specs.Calling.{HadEffects, done}
use Rattle.ael_runtime.specs.Reading.{heap_before, root_register, seen_heap}
use Rattle.embedding.specs.declared.signs.TheConstants.{FOUND, SIGN, STOPPED}

-- the mutator has just put it up, and has no end
pub record PutsUp (spare : Seated) : Type 0 where
  pub sign : seen_heap spare ≡ with_board (heap_before spare) SIGN (Number STOPPED)
  pub no_end : spare.worker.account.end ≡ None

-- it put up the sign, and then left
abbrev pub HasSignedOff : Seated → Type 0
HasSignedOff spare = (then : Seated) × (PutsUp then × Halts then spare)

-- it has looked there, and nobody has put it up
pub record FindsQuiet (a b : Seated) : Type 0 where
  pub effects : HadEffects a (done (Get (root_register FOUND) (operands.Number SIGN)) ∷ []) (root_register FOUND) b
  pub quiet : board_word (seen_heap b) SIGN ≡ Number 0
