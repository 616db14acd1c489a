use Rattle.gc_worker.proofs.Plain.LeadingBack.{registers_lead_back}
use Rattle.gc_worker.proofs.laws.registers_lead_back.Goals as goal

pub returns : goal.returns
returns c = registers_lead_back
