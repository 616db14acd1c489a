use Rattle.std.proofs.Common.{ap, length, ◌∙◌}
use Rattle.plain_state.specs.State.{Heap}
use Rattle.plain_machine.proofs.Found.FoundCells.{emptied_makers}
use Rattle.plain_machine.proofs.state.PlainState.empty.Goals as goal

pub invariant_of-self : goal.invariant_of-self
invariant_of-self c = ap (λ (h : Heap). length h.records) c.empty_all.ensures ∙ emptied_makers c.args.cells.now c.self.inside.heap ∙ c.self.invariant
