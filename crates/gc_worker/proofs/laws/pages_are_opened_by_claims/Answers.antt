use Rattle.gc_worker.proofs.Between.Pages.ByClaims.{pages_are_opened_by_claims, low_rises_at_flips}
use Rattle.gc_worker.proofs.Between.Pages.Claims.{copied_pages_are_below_low}
use Rattle.gc_worker.proofs.laws.pages_are_opened_by_claims.Goals as goal

pub returns : goal.returns
returns c = record { opened = pages_are_opened_by_claims; low = low_rises_at_flips; copied = copied_pages_are_below_low }
