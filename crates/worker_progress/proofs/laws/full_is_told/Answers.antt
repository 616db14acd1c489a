use Rattle.worker_progress.proofs.Epochs.FullTold.{full_is_told, full_is_told_in_heaps, sizes_read_are_so}
use Rattle.worker_progress.proofs.laws.full_is_told.Goals as goal

pub returns : goal.returns
returns c = record { told = full_is_told; read = sizes_read_are_so; in_heaps = full_is_told_in_heaps }
