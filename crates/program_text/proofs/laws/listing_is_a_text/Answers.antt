use Rattle.program_text.proofs.Programs.WellFormed.{text_well_formed}
use Rattle.mutator_asm.proofs.Listings.TextOfProgram.{listing_is_text, listing_has_no_fault, listing_reads_back}
use Rattle.program_text.proofs.laws.listing_is_a_text.Goals as goal

pub returns : goal.returns
returns c = record { well_formed = text_well_formed; text = listing_is_text; reads_back = listing_reads_back; no_fault = listing_has_no_fault }
