use Rattle.mutator_asm.proofs.Programs.Instructions.{valid_at}
use Rattle.mutator_asm.proofs.program.Program.instr.Goals as goal

pub returns-clause-valid : goal.returns-clause-valid
returns-clause-valid c = rw c.instr.ensures (valid_at c.args.self.now.code c.args.mutator c.args.counter c.args.self.now.well_formed.instrs)
