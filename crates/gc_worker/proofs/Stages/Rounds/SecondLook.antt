-- The second look of a round at the end of the area.
use Rattle.std.proofs.Common.{◌≡◌, ℕ, Some, ap, ◌∙◌}
use Rattle.heap_state.specs.Configuration.{Configuration, team}
use Rattle.heap_state.specs.Known.{Known, LastLook}
use Rattle.gc_worker.specs.Steps.Goes.{Is}
use Rattle.gc_worker.specs.Workers.Held.{Held}
use Rattle.gc_worker.specs.Workers.Knows.{last_look_in}

-- who is at such a stage has had it
pub looked_in : {c : Configuration} {k : ℕ} {x : Held} {l : LastLook} → Is c k x → last_look_in x.stage ≡ Some l → ((team c).worker k).last_look ≡ Some l
looked_in is at = ap (λ (w : Known). w.last_look) is.as_known ∙ at
