use Rattle.gc_worker.proofs.Between.Pages.Copied.{copied_was_live, full_tells_live}
use Rattle.gc_worker.proofs.laws.what_was_copied_was_live.Goals as goal

pub returns : goal.returns
returns c = record { copied = copied_was_live; full = full_tells_live }
