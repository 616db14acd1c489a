use Rattle.std.proofs.Common.{◌++◌, List, map, sym, ◌∙◌, subst}
use Rattle.std.specs.Mem.Slots.{slots_counts}
use Rattle.atomic_table.specs.Seated.{TableId}
use Rattle.ael_threads.specs.Readers.{seated}
use Rattle.ael_threads.specs.Seats.{FitsTable, Gathers, Seated}
use Rattle.ael_threads.proofs.WorkerSeats.AllInOne.{closes}
use Rattle.ael_threads.proofs.shared.Shared.close.Goals as goal

pub returns-clause-closes : goal.returns-clause-closes
returns-clause-closes c =
    let t = c.args.self.table.shared.table_id in
    let all : List Seated = map seated c.args.seats.scanners.items ++ c.args.seats.mutators.items in
    let g = subst (Gathers t all) (sym c.one.view_is) (c.gather_scanners-one.ensures c.args.seats.mutators.items c.gather_mutators-one.ensures) in
    let fits = subst (λ (u : TableId). FitsTable u c.one.inside.seat.me.0) g.table c.one.invariant.2 in
    let many = sym (slots_counts c.close_with.result.words).0 ∙ c.close_with.ensures.counts.0 in
    closes c.args.self.table.shared.key c.one.inside.seat.id t all _ _ _ g fits many c.close_with.ensures.values.2
