use Rattle.ael_jobs.proofs.Audits.{missing_part}
use Rattle.ael_jobs.proofs.laws.missing_parts_are_wrong_in_line_one.Goals as goal

pub returns : goal.returns
returns c = missing_part
