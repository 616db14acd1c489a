use Rattle.std.proofs.Common.{◌≡◌, [], ◌∷◌, ◌∙◌, ap, sym, subst}
use Rattle.ael_threads.specs.Seats.{Gathers, Seated}
use Rattle.ael_threads.proofs.WorkerSeats.AllInOne.{gathers_more, gathers_one, next_has, shifts}
use Rattle.ael_threads.proofs.shared.Shared.gather_mutators.Goals as goal

pub loop-other-init : goal.loop-other-init
loop-other-init c =
    let t = c.args.self.now.table.shared.table_id in
    let table = next_has (λ (m : Seated). m.table ≡ t) _ _ [] c.in-Some.first c.in-Some.ensures.items c.requires.table in
    (c.in-Some.first ∷ [], c.in-Some.ensures.items, subst (Gathers t (c.in-Some.first ∷ [])) (sym c.first.view_is) (gathers_one t c.in-Some.first table))

pub absorb-requires-clause-other : goal.absorb-requires-clause-other
absorb-requires-clause-other c =
    let i = c.loop-other.invariant in
    ap (λ (m : Seated). m.table) c.other.view_is
    ∙ next_has (λ (m : Seated). m.table ≡ c.args.self.now.table.shared.table_id) _ _ i.0 c.in-Some-pop.other (shifts _ _ _ i.0 c.in-Some-pop.other i.1 c.in-Some-pop.ensures.items) c.requires.table

pub loop-other-preserved : goal.loop-other-preserved
loop-other-preserved c =
    let i = c.loop-other.invariant in
    let t = c.args.self.now.table.shared.table_id in (
      c.in-Some-pop.other ∷ i.0,
      shifts _ _ _ i.0 c.in-Some-pop.other i.1 c.in-Some-pop.ensures.items,
      subst (λ (m : Seated). Gathers t (m ∷ i.0) c.absorb.new.self) c.other.view_is (gathers_more t i.0 c.loop-other.one c.other.inside.caller c.absorb.new.self i.2 c.absorb.ensures.same.0 c.absorb.ensures.both),
    )
