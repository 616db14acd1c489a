use Rattle.gc_worker.proofs.Between.Pages.Claims.{traced_pages_are_open, flips_are_of_traced}
use Rattle.gc_worker.proofs.laws.traced_pages_are_open.Goals as goal

pub returns : goal.returns
returns c = record { opened = traced_pages_are_open; flips = flips_are_of_traced }
