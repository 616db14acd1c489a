use Rattle.std.proofs.Common.{subst, sym}
use Rattle.mutator_asm.specs.declared.instr.Instr.{Instr}
use Rattle.ael_runtime.specs.KnownLengths.{SparesRegister}
use Rattle.ael_runtime.proofs.KnownLengths.{spares_set, spares_st}
use Rattle.ael_runtime.proofs.measured.spares.Goals as goal

pub returns-in-St : goal.returns-in-St
returns-in-St c told = subst (λ (i : Instr). SparesRegister i c.args.register) (sym c.in-St.is) (spares_st c.in-St.field-0 c.in-St.field-1 c.in-St.field-2 c.args.register)

pub returns-in-Li : goal.returns-in-Li
returns-in-Li c told = spares_set c.args.instr c.in-Li.to c.args.register c.in-Li.is told
