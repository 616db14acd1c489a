use Rattle.std.proofs.Common.{◌≡◌, ◌∷◌, ◌++◌, map, ◌∙◌, ap, subst}
use Rattle.ael_threads.specs.Readers.{SeatedScanner, seated}
use Rattle.ael_threads.specs.Seats.{Gathers}
use Rattle.ael_threads.proofs.WorkerSeats.AllInOne.{gathers_more, next_has, shifts}
use Rattle.ael_threads.proofs.shared.Shared.gather_scanners.Goals as goal

pub absorb-requires-clause-mine : goal.absorb-requires-clause-mine
absorb-requires-clause-mine c = c.loop-other.invariant.2

pub absorb-requires-clause-other : goal.absorb-requires-clause-other
absorb-requires-clause-other c =
    let i = c.loop-other.invariant in
    ap (λ (s : SeatedScanner). s.seated.table) c.other.view_is
    ∙ next_has (λ (s : SeatedScanner). s.seated.table ≡ c.args.self.now.table.shared.table_id) _ _ i.0 c.in-Some.other (shifts _ _ _ i.0 c.in-Some.other i.1 c.in-Some.ensures.items) c.requires.table

pub loop-other-preserved : goal.loop-other-preserved
loop-other-preserved c =
    let i = c.loop-other.invariant in
    let t = c.args.self.now.table.shared.table_id in (
      c.in-Some.other ∷ i.0,
      shifts _ _ _ i.0 c.in-Some.other i.1 c.in-Some.ensures.items,
      c.absorb.ensures.same.0 ∙ i.2,
      λ all g. subst (λ (s : SeatedScanner). Gathers t (seated s ∷ (map seated i.0 ++ all)) c.absorb.new.self) c.other.view_is
          (gathers_more t (map seated i.0 ++ all) c.loop-other.one c.other.inside.caller c.absorb.new.self (i.3 all g) c.absorb.ensures.same.0 c.absorb.ensures.both),
    )
