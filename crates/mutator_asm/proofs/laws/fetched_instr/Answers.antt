use Rattle.mutator_asm.proofs.Programs.Fetched.{fetches_instrs, fetches_early}
use Rattle.mutator_asm.proofs.laws.fetched_instr.Goals as goal

pub returns : goal.returns
returns c = record { sound = fetches_instrs; early = fetches_early }
