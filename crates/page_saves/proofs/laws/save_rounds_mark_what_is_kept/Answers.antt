use Rattle.page_saves.proofs.Finding.{rounds_mark_what_is_kept}
use Rattle.page_saves.proofs.SaveRoundReads.{rounds_read_first}
use Rattle.page_saves.proofs.laws.save_rounds_mark_what_is_kept.Goals as goal

pub returns : goal.returns
returns c = record { reads_first = rounds_read_first; all_kept = rounds_mark_what_is_kept }
