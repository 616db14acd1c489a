use Rattle.heap_state.proofs.Holds.Keeping.{holds}
use Rattle.heap_state.proofs.Represents.Representing.{represents}
use Rattle.heap_state.proofs.laws.what_stands_is_sound.Goals as goal

pub returns : goal.returns
returns c = λ c p stands. record { holds = holds c stands.ghost stands.formed stands.invariant; represents = represents c stands.ghost stands.formed stands.invariant p stands.shown }
