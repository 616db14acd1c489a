use Rattle.std.proofs.Common.{◌∙◌, sym, ap, subst}
use Rattle.ael_threads.specs.Calls.{Departs}
use Rattle.ael_threads.specs.Seats.{Seated}
use Rattle.ael_threads.proofs.WholeCalls.FromActs.{departs_halted, departs_more, departs_with, halt_may_begin, no_end_by, quiet_first}
use Rattle.ael_threads.proofs.mutator.Mutator.leave.Goals as goal
use Rattle.ael_threads.proofs.mutator.Mutator.leave.Goals.{then-is_none, else-is_none}

pub exec-requires-clause-may_begin : goal.exec-requires-clause-may_begin
exec-requires-clause-may_begin g c = halt_may_begin c.args.self.now.worker.account c.args.self.now.worker.registers

pub exec-requires-clause-table : goal.exec-requires-clause-table
exec-requires-clause-table g c = c.requires.table

pub exec-requires-clause-no_end : goal.exec-requires-clause-no_end
exec-requires-clause-no_end g c = sym c.ended.ensures.ended ∙ no_end_by c.ended.result c.is_none.result c.is_none.ensures c.if-is_none.true

pub exec-requires-clause-no_task : goal.exec-requires-clause-no_task
exec-requires-clause-no_task g c = c.requires.no_task (sym c.ended.ensures.ended ∙ no_end_by c.ended.result c.is_none.result c.is_none.ensures c.if-is_none.true)

pub loop-init : goal.loop-init
loop-init g c =
    let a : Seated = c.args.self.now in
    let ended = c.ended.ensures in
    let tested = c.is_none.ensures in
    elim c.if-is_none.branch [
      | then-is_none w ↦ (
        ap (λ (z : Seated). z.table) w.self-is ∙ w.exec.ensures.table,
        subst (Departs a) (sym w.self-is)
            (departs_halted a w.exec.new.self w.exec.result (sym ended.ended ∙ no_end_by c.ended.result c.is_none.result tested w.if-is_none.true) w.exec.ensures.called),
      )
      | else-is_none w ↦ (
        ap (λ (z : Seated). z.table) w.self-is,
        subst (Departs a) (sym w.self-is) (departs_with a c.ended.result c.is_none.result tested w.if-is_none.false ended.ended ended.no_task),
      )
    ]

pub departs-requires : goal.departs-requires
departs-requires g c = record { table = c.loop.invariant.0 ∙ c.requires.table }

pub loop-preserved : goal.loop-preserved
loop-preserved g c = let d = c.loop.invariant.1 in (
  c.departs.ensures.table ∙ c.loop.invariant.0,
  departs_more c.args.self.now c.loop.self c.departs.new.self d (c.departs.ensures.quiet c.loop.self (quiet_first c.loop.self d.none)),
)

pub returns-then-departs-clause-halts : goal.returns-then-departs-clause-halts
returns-then-departs-clause-halts g c =
    let d = c.loop.invariant.1 in
    (departs_more c.args.self.now c.loop.self c.departs.new.self d (c.departs.ensures.quiet c.loop.self (quiet_first c.loop.self d.none))).halts

pub returns-then-departs-clause-table : goal.returns-then-departs-clause-table
returns-then-departs-clause-table g c = c.departs.ensures.table ∙ c.loop.invariant.0

pub returns-then-departs-clause-left : goal.returns-then-departs-clause-left
returns-then-departs-clause-left g c = c.departs.ensures.left c.if-departs.true

pub returns-then-departs-clause-ended : goal.returns-then-departs-clause-ended
returns-then-departs-clause-ended g c =
    let d = c.loop.invariant.1 in
    (departs_more c.args.self.now c.loop.self c.departs.new.self d (c.departs.ensures.quiet c.loop.self (quiet_first c.loop.self d.none))).ended
