use Rattle.mutator_asm.proofs.Listings.TextOfProgram.{listing_is_text}
use Rattle.mutator_asm.proofs.program.Program.new.Goals as goal

pub invariant_of-result-clause-listed : goal.invariant_of-result-clause-listed
invariant_of-result-clause-listed c = listing_is_text _ _ c.requires
