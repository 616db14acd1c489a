use Rattle.std.proofs.Common.{sym, ap, ◌∙◌, arith}
use Rattle.plain_state.specs.declared.value.Value.TheVariants.{Number}
use Rattle.concordance.proofs.Desks.NotedLine.{can_load_line, can_load_number, line_is_noted, noted_again, one_more, records_c, takes_before, takes_line}
use Rattle.concordance.proofs.Desks.Seats.{seat_then}
use Rattle.concordance.proofs.FoundFull.{full_still, passed_on}
use Rattle.concordance.proofs.clerk.Clerk.note_line.Goals as goal

pub does-requires-clause-can : goal.does-requires-clause-can
does-requires-clause-can g c = let n = c.requires.note in can_load_line c.args.self.now n.notes n.noted n.word n.holds n.is

pub does-requires-2-clause-can : goal.does-requires-2-clause-can
does-requires-2-clause-can g c = let n = c.requires.note in can_load_number c.args.self.now n.notes n.noted n.word n.holds n.is c.does.new.self c.does.ensures.desk

pub returns-then-holds-clause-noted : goal.returns-then-holds-clause-noted
returns-then-holds-clause-noted g c notes noted word holds none_later at =
    noted_again c.args.self.now notes noted word holds at c.does.new.self c.does.ensures.desk c.does-2.new.self c.does-2.ensures.desk c.args.line (c.holds.ensures.0 c.if-holds.true ∙ ap Number c.from.ensures)

pub does-requires-3-clause-can : goal.does-requires-3-clause-can
does-requires-3-clause-can g c =
    let n = c.requires.note in
    let made = c.in_ok-make_line.ensures in
    takes_before c.args.self.now n.notes n.noted n.word n.holds n.is c.does.new.self c.does.ensures.desk c.does-2.new.self c.does-2.ensures.desk c.args.line c.make_line.new.self made.records made.line made.others

pub does-requires-4-clause-can : goal.does-requires-4-clause-can
does-requires-4-clause-can g c =
    let n = c.requires.note in
    let made = c.in_ok-make_line.ensures in
    takes_line c.args.self.now n.notes n.noted n.word n.holds n.is c.does.new.self c.does.ensures.desk c.does-2.new.self c.does-2.ensures.desk c.args.line c.make_line.new.self made.records made.line made.others c.does-3.new.self c.does-3.ensures.desk

pub returns-clause-noted : goal.returns-clause-noted
returns-clause-noted g c notes noted word holds none_later at =
    let made = c.in_ok-make_line.ensures in
    let no = c.if-holds.false in
    line_is_noted c.args.self.now notes noted word holds at c.does.new.self c.does.ensures.desk c.does-2.new.self c.does-2.ensures.desk c.args.line c.make_line.new.self made.records made.line made.others c.does-3.new.self c.does-3.ensures.desk c.does-4.new.self
    c.does-4.ensures.desk (λ same. let yes = c.holds.ensures.1 (same ∙ ap Number (sym c.from.ensures)) in cc) none_later

pub returns-clause-made : goal.returns-clause-made
returns-clause-made g c =
    let n = c.requires.note in
    let made = c.in_ok-make_line.ensures in
    let more = one_more c.args.self.now n.notes n.noted n.word n.holds n.is c.does.new.self c.does.ensures.desk c.does-2.new.self c.does-2.ensures.desk c.args.line c.make_line.new.self made.records made.line made.others c.does-3.new.self c.does-3.ensures.desk c.does-4.new.self
    c.does-4.ensures.desk in
    omega (arith, more)

pub returns-in_err-make_line-clause-full : goal.returns-in_err-make_line-clause-full
returns-in_err-make_line-clause-full g c =
    let n = c.requires.note in
    passed_on _ _ _ c.from_residual.ensures.1
    (full_still c.args.self.now c.does-2.new.self 0 0 _ _ (seat_then c.args.self.now c.does.new.self c.does-2.new.self c.does.ensures.same c.does-2.ensures.same) (records_c c.args.self.now n.notes n.noted n.word n.holds n.is c.does.new.self c.does.ensures.desk c.does-2.new.self c.does-2.ensures.desk) c.in_err-make_line.ensures.full)
