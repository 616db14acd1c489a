-- Who walks over the chain of copied cells.
use Rattle.std.proofs.Common.{ℕ, ◌<◌, sym}
use Rattle.heap_state.specs.Cells.{Ranks, Passing}
use Rattle.heap_state.specs.Memory.Era.{Era, Memory}
use Rattle.heap_state.specs.Invariant.Ghost.{Ghost}
use Rattle.heap_state.specs.Invariant.Inductive.{Invariant}
use Rattle.heap_state.specs.Invariant.Parts.Pages.{Quiet, IsLastOpen}
use Rattle.heap_state.specs.Known.{Team, Pass}

-- TRACED is as it was at the walker's second look, so all is still quiet
pub quiet_in_walk : {E : Era} {m : Memory} {team : Team} {g : Ghost} {turn : ℕ} {r : Ranks} {q : Pass} (k : ℕ) → Invariant E m team g → k < team.count → Passing E m turn g r (team.worker k) q
    → Quiet E m.gate.behind m.front m.page × IsLastOpen E m.front m.page
quiet_in_walk k inv below p = ((inv.workers k below).pages.last_look p.look.0 p.look.1).now p.now.0 (sym p.look.2)
