use Rattle.mutator_asm.proofs.Listings.TextOfProgram.{one_text}
use Rattle.mutator_asm.proofs.laws.one_program.Goals as goal

pub returns : goal.returns
returns c = one_text
