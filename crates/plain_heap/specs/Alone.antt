-- A program whose mutators share nothing, and each of them run alone.
use Rattle.std.specs.Prelude.{◌≡◌, ℕ, ◌+◌, Bool, true, false, List, Some, slice_get, replicate, is_some, IsTrue}
use Rattle.std.specs.List.{list_all}
use Rattle.std.specs.Io.{StartsWith}
use Rattle.plain_state.specs.declared.end.End.{End}
use Rattle.plain_state.specs.declared.end.End.TheVariants.{HeapFull}
use Rattle.plain_state.specs.State.{Mutator, Plain}
use Rattle.mutator_asm.specs.declared.instr.Instr.{Instr}
use Rattle.mutator_asm.specs.declared.instr.Instr.TheVariants as instrs
use Rattle.plain_heap.specs.declared.mark.Mark.{Mark}
use Rattle.plain_heap.specs.declared.mark.Mark.TheVariants.{Step}
use Rattle.plain_heap.specs.Order.{plain}

-- the instruction leaves the board alone, and makes no cell, whose target depends on the order
abbrev pub leaves_board : Instr → Bool
leaves_board (instrs.Get d x) = false
leaves_board (instrs.Put x a) = false
leaves_board (instrs.Swap d x) = false
leaves_board (instrs.Weak d a) = false
leaves_board _ = true

-- no instruction of the program names the board, by which alone mutators see each other, or makes a cell
abbrev pub shares_nothing : List (List Instr) → Bool
shares_nothing code = list_all (list_all leaves_board) code

-- The plain run of mutator m alone to its end: each step executes an instruction or is the end, and
-- after so many turns the end is that the turns are out.
abbrev pub run_alone : List (List Instr) → ℕ → ℕ → Plain
run_alone code turns m = plain code turns (replicate (turns + 1) (Step m))

-- a mutator that is run alone has its end
abbrev pub EndsAlone : Type 0
EndsAlone = (code : List (List Instr)) (turns m : ℕ) (alone : Mutator) → slice_get (run_alone code turns m).mutators m ≡ Some alone → IsTrue (is_some alone.end)

-- the end is that the heap is full
abbrev pub is_heap_full : End → Bool
is_heap_full (HeapFull asked room live) = true
is_heap_full _ = false

-- What a run leaves of mutator m, beside what m run alone comes to: its numbers are the first of
-- those; and where it has an end, and that isn't that the heap is full, the two are the same.
pub record IsAsAlone (code : List (List Instr)) (turns m : ℕ) (k : Mutator) : Type 0 where
  pub alone : Mutator
  pub reached : slice_get (run_alone code turns m).mutators m ≡ Some alone
  pub numbers : StartsWith alone.printed k.printed
  pub whole : (why : End) → k.end ≡ Some why → is_heap_full why ≡ false → k ≡ alone

-- in a program whose mutators share nothing, whatever the order, each of them is as far as it came alone
abbrev pub AlwaysTheSame : Type 0
AlwaysTheSame = (code : List (List Instr)) (turns : ℕ) (order : List Mark) (m : ℕ) (k : Mutator) → IsTrue (shares_nothing code)
    → slice_get (plain code turns order).mutators m ≡ Some k → IsAsAlone code turns m k
