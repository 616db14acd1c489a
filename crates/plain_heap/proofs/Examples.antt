-- Examples, which nothing cites: the definitions on a small program, of two mutators that each print one number.
use Rattle.std.proofs.Common.{◌≡◌, ℕ, true, false, List, [], ◌∷◌, Option, Some, slice_get, refl}
use Rattle.std.specs.Option.{option_map}
use Rattle.plain_state.specs.declared.end.End.{End}
use Rattle.plain_state.specs.declared.end.End.TheVariants.{Halt, TurnsOut}
use Rattle.plain_state.specs.declared.value.Value.{Value}
use Rattle.plain_state.specs.declared.value.Value.TheVariants.{Number, Reference}
use Rattle.plain_state.specs.Cells.{cell_of}
use Rattle.mutator_asm.specs.declared.instr.Instr.{Instr}
use Rattle.mutator_asm.specs.declared.instr.Instr.TheVariants as instrs
use Rattle.mutator_asm.specs.declared.operand.Operand.TheVariants as operands
use Rattle.plain_heap.specs.declared.mark.Mark.{Mark}
use Rattle.plain_heap.specs.declared.mark.Mark.TheVariants.{Step, Flip, Traced}
use Rattle.plain_heap.specs.Action.{action}
use Rattle.plain_heap.specs.Call.{call}
use Rattle.plain_heap.specs.Step.{stepped}
use Rattle.plain_heap.specs.Emptied.{emptied}
use Rattle.plain_heap.specs.Order.{plain}
use Rattle.plain_heap.specs.Reaching.{reaches}
use Rattle.plain_heap.specs.Alone.{shares_nothing, run_alone}

abbrev code : List (List Instr)
code = (instrs.Li 1 7 ∷ instrs.Out 1 ∷ instrs.Halt ∷ []) ∷ (instrs.Li 1 8 ∷ instrs.Out 1 ∷ instrs.Jmp 1 ∷ []) ∷ []

example-shares_nothing : shares_nothing code ≡ true
example-shares_nothing = refl

-- the board is shared
example-shares_board : shares_nothing ((instrs.Get 0 (operands.Number 0) ∷ []) ∷ code) ≡ false
example-shares_board = refl

-- numbers and end of a mutator that is run alone, where it has five turns
shown : ℕ → Option (List ℕ × Option End)
shown m = option_map {U = List ℕ × Option End} (λ k. (k.printed, k.end)) (slice_get (run_alone code 5 m).mutators m)

example-first_halts : shown 0 ≡ Some ((7 ∷ []), Some Halt)
unfolding shown stepped call action
example-first_halts = refl

example-second_turns_out : shown 1 ≡ Some ((8 ∷ 8 ∷ []), Some TurnsOut)
unfolding shown stepped call action
example-second_turns_out = refl

-- ---- cells

-- its mutator makes a record, a cell that refers to it, and then drops the record
abbrev dropping : List (List Instr)
dropping = (instrs.New 0 (operands.Number 1) ∷ instrs.Weak 1 0 ∷ instrs.Li 0 0 ∷ instrs.Halt ∷ []) ∷ []

-- what the cell has after an order
cell_after : List Mark → Option Value
cell_after order = cell_of (plain dropping 9 order).heap (record { mutator = 0; serial = 2 })

abbrev to_record : Option Value
to_record = Some (Reference (record { mutator = 0; serial = 1 }))

abbrev step : Mark
step = Step 0

-- the record wasn't reachable at the flip
example-emptied : cell_after (step ∷ step ∷ step ∷ Flip 2 ∷ Traced ∷ []) ≡ Some (Number 0)
unfolding cell_after emptied reaches stepped call action
example-emptied = refl

-- it was, but is no more
example-reachable : cell_after (step ∷ step ∷ Flip 2 ∷ step ∷ Traced ∷ []) ≡ to_record
unfolding cell_after emptied reaches stepped call action
example-reachable = refl

-- the cell was made since the flip
example-made_since : cell_after (step ∷ Flip 2 ∷ step ∷ step ∷ Traced ∷ []) ≡ to_record
unfolding cell_after emptied reaches stepped call action
example-made_since = refl

-- no flip came, or tracing didn't end
example-no_flip : cell_after (step ∷ step ∷ step ∷ Traced ∷ []) ≡ to_record
unfolding cell_after emptied reaches stepped call action
example-no_flip = refl

example-untraced : cell_after (step ∷ step ∷ step ∷ Flip 2 ∷ []) ≡ to_record
unfolding cell_after emptied reaches stepped call action
example-untraced = refl
