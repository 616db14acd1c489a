use Rattle.std.proofs.Common.{◌≡◌, ℕ, ◌+◌, List, Some, length, rules, sym, ap, ◌∙◌}
use Rattle.std.specs.Arc.{arc_value}
use Rattle.std.proofs.lemmas.Result.{on_ok_weaker}
use Rattle.ael_c.specs.declared.handle.Handle.{Handle}
use Rattle.ael_c.specs.declared.seat.Seat.{Seat}
use Rattle.ael_c.specs.declared.seat.Seat.TheVariants.{Scanner}
use Rattle.ael_c.specs.Handles.{are_null, behind, first_scanners, scanner_seats}
use Rattle.ael_c.proofs.Openings.{scanner_seat, null_last, scanners_dealt}
use Rattle.ael_c.proofs.opening.+deal_scanners.Goals as goal

pub put-requires : goal.put-requires
put-requires t c =
    (null_last c.in-Some.rest.now c.in-Some.last.now (ap (λ (hs : List Handle). are_null (behind hs)) (sym c.in-Some.ensures.cases.0) ∙ c.requires.null)).1

pub deal_scanners-requires : goal.deal_scanners-requires
deal_scanners-requires t c =
    let h = arc_value c.args.heap.now in
    let n = length c.in-Some.rest.now in
    let taken = c.take_scanner.ensures.new h.table.shared.table_id h.table.shared.key (h.table.shared.key.mutators) n (c.requires.new ∙ ap (first_scanners h) (sym c.in-Some.ensures.cases.1)) in
    let null = null_last c.in-Some.rest.now c.in-Some.last.now (ap (λ (hs : List Handle). are_null (behind hs)) (sym c.in-Some.ensures.cases.0) ∙ c.requires.null) in
    (search rules, (null.0, taken.1))

pub returns-clause-dealt : goal.returns-clause-dealt
returns-clause-dealt t c =
    let h = arc_value c.args.heap.now in
    let n = length c.in-Some.rest.now in
    let count : n + 1 ≡ length c.args.handles.now = c.in-Some.ensures.cases.1 in
    let taken = c.in-Some-take_scanner.ensures.new h.table.shared.table_id h.table.shared.key (h.table.shared.key.mutators) n (c.requires.new ∙ ap (first_scanners h) (sym count)) in
    let is = c.put.ensures ∙ ap (λ (x : Seat). Some x) (c.in_ok-new.ensures.ok ∙ ap Scanner c.new-seat.ensures) ∙ ap scanner_seat taken.0 in
    on_ok_weaker c.deal_scanners.result
    (λ before. scanners_dealt h n c.deal_scanners.new.handles c.put.new.self before is ∙ ap (λ (k : ℕ). scanner_seats (first_scanners h k)) count)
    c.deal_scanners.ensures.dealt
