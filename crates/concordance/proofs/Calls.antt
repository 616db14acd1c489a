-- Calls of other instructions than `snap`.
use Rattle.std.proofs.Common.{◌≢◌, subst}
use Rattle.mutator_asm.specs.declared.instr.Instr.{Instr}
use Rattle.mutator_asm.specs.declared.instr.Instr.TheVariants as instrs
use Rattle.concordance.specs.Desk.{CanDo, CanMake, Desk}
use Rattle.concordance.specs.Gathering.{CanGet, WholeDesk}

-- ---- a clerk executes no `snap`

pub does_not_snap : (desk : Desk) (i : Instr) → CanDo desk i → i ≢ instrs.Snap
does_not_snap desk i can = λ e. subst (CanDo desk) e can

pub makes_not_snap : (desk : Desk) (i : Instr) → CanMake desk i → i ≢ instrs.Snap
makes_not_snap desk i can = λ e. subst (CanMake desk) e can

pub gets_not_snap : (desk : WholeDesk) (i : Instr) → CanGet desk i → i ≢ instrs.Snap
gets_not_snap desk i can = λ e. subst (CanGet desk) e can
