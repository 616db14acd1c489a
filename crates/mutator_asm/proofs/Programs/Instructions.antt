-- What every instruction of a program is like.
use Rattle.std.proofs.Common.{◌≡◌, ℕ, zero, suc, true, List, [], ◌∷◌, IfSome, IsTrue, slice_get}
use Rattle.std.specs.List.{list_all}
use Rattle.std.proofs.lemmas.Bool.{and_parts}
use Rattle.mutator_asm.specs.declared.instr.Instr.{Instr}
use Rattle.mutator_asm.specs.Program.{is_valid, instr_at}

in_section : (instrs : List Instr) (k : ℕ) → list_all is_valid instrs ≡ true → IfSome (slice_get instrs k) (λ i. IsTrue (is_valid i))
in_section [] k h = tt
in_section (i ∷ is) zero h = (and_parts _ _ h).0
in_section (i ∷ is) (suc k) h = in_section is k (and_parts _ _ h).1

pub valid_at : (code : List (List Instr)) (m k : ℕ) → list_all (list_all is_valid) code ≡ true → IfSome (instr_at code m k) (λ i. IsTrue (is_valid i))
valid_at [] m k h = tt
valid_at (c ∷ cs) zero k h = in_section c k (and_parts _ _ h).0
valid_at (c ∷ cs) (suc m) k h = valid_at cs m k (and_parts _ _ h).1
