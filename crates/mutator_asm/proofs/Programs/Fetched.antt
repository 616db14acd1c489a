-- An instruction of a well-formed program.
use Rattle.std.proofs.Common.{◌≡◌, ℕ, ◌<◌, ◌≤◌, zero, suc, true, List, [], ◌∷◌, length, get_or, Some, arith}
use Rattle.std.specs.Prelude.{sum_by}
use Rattle.std.proofs.lemmas.List.Sums.{sum_by-cons}
use Rattle.std.proofs.lemmas.Option.{slice_get_within}
use Rattle.plain_state.specs.declared.sizes.TheConstants.{MOST_INSTRS}
use Rattle.mutator_asm.specs.declared.instr.Instr.{Instr}
use Rattle.mutator_asm.specs.declared.item.Item.{Item}
use Rattle.mutator_asm.specs.Program.{IsWellFormed, instr_at, is_valid}
use Rattle.mutator_asm.proofs.Programs.Instructions.{valid_at}

length_or : (code : List (List Instr)) (k : ℕ) → length (get_or code k []) ≤ sum_by length code
length_or [] k = omega arith
length_or (section ∷ code) zero = omega (arith, sum_by-cons length section code)
length_or (section ∷ code) (suc k) = omega (arith, sum_by-cons length section code, length_or code k)

pub fetches_instrs : (code : List (List Instr)) (schedule : List Item) (mutator counter : ℕ) (instr : Instr) → IsWellFormed code schedule → instr_at code mutator counter ≡ Some instr → is_valid instr ≡ true
fetches_instrs code schedule mutator counter instr h e = rw e at (valid_at code mutator counter h.instrs)

pub fetches_early : (code : List (List Instr)) (schedule : List Item) (mutator counter : ℕ) (instr : Instr) → IsWellFormed code schedule → instr_at code mutator counter ≡ Some instr → counter < MOST_INSTRS
fetches_early code schedule mutator counter instr h e =
    let within = slice_get_within (get_or code mutator []) counter instr e in
    let few = h.few_instrs in
    omega (arith, length_or code mutator)
