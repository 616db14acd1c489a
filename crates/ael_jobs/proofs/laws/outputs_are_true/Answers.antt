use Rattle.ael_jobs.proofs.TrueOutputs.{outputs_are_true}
use Rattle.ael_jobs.proofs.laws.outputs_are_true.Goals as goal

pub returns : goal.returns
returns c = outputs_are_true c.listing_is_a_text.ensures.well_formed c.reached_states_are_consistent.ensures.runs c.tracing_empties_cells.ensures.no_cells
