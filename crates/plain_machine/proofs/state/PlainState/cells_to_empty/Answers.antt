use Rattle.std.proofs.Common.{sym, ◌∙◌}
use Rattle.plain_state.specs.State.{Plain}
use Rattle.plain_machine.proofs.Found.FoundCells.{lost_listed, none_listed}
use Rattle.plain_machine.proofs.state.PlainState.cells_to_empty.Goals as goal

pub returns-then-not-has_cells : goal.returns-then-not-has_cells
returns-then-not-has_cells c =
    let p : Plain = record { heap = c.self.inside.heap; mutators = c.self.inside.mutators.items } in
    rw (c.new.ensures.items, ← c.self.view_is) (sym (none_listed p (sym c.has_cells.ensures ∙ c.if-not-has_cells.true)))

pub returns : goal.returns
returns c =
    let p : Plain = record { heap = c.self.inside.heap; mutators = c.self.inside.mutators.items } in
    rw (← c.self.view_is, ← lost_listed p (rw (← c.self.view_is) at c.requires.consistent) c.in_ok-marks.marks (rw c.as_slice.ensures.value at c.in_ok-marks.ensures)) c.lost_cells.ensures
