-- Who has looked twice at the end of the area.
use Rattle.std.proofs.Common.{◌≡◌, ℕ, Some}
use Rattle.heap_state.specs.Memory.Era.{Era, Memory}
use Rattle.heap_state.specs.Invariant.Ghost.{Ghost}
use Rattle.heap_state.specs.Invariant.Parts.Scanning.{LastLooks}
use Rattle.heap_state.specs.Known.{Team, LastLook}
use Rattle.heap_laws.specs.Steps.{Ready}

-- what its second look tells it of the words as they are
pub looked_twice : {E : Era} {m : Memory} {team : Team} {g : Ghost} {k : ℕ} {l : LastLook} → Ready E m team g k → (team.worker k).last_look ≡ Some l
    → LastLooks E m.traced m.gate.behind m.front m.page (team.worker k).epoch l
looked_twice {k = k} {l = l} ready looks = (ready.invariant.workers k ready.member).pages.last_look l looks
