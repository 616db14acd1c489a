use Rattle.std.proofs.Common.{[], ◌∷◌, ◌∙◌, arith, refl, sym}
use Rattle.ael_threads.specs.ActsInRow.{is_rest}
use Rattle.ael_threads.specs.Seats.{Acts}
use Rattle.ael_threads.proofs.ActsInRow.{series_more, some_made, some_stopped}
use Rattle.ael_threads.proofs.WholeCalls.AtRest.{stands_looking}
use Rattle.ael_threads.proofs.WholeCalls.FromActs.{quiet_more}
use Rattle.ael_threads.proofs.mutator.Mutator.comes_to_rest.Goals as goal

pub loop-init : goal.loop-init
loop-init c = record { table = refl; quiet = λ a q. q; before = []; series = refl; count = refl }

pub loop-preserved : goal.loop-preserved
loop-preserved c =
    let i = c.loop.invariant in
    let count = i.count in record {
      table = c.act.ensures.table ∙ i.table;
      quiet = λ a q. quiet_more a c.loop.self c.act.new.self c.act.result (i.quiet a q) c.act.ensures.act;
      before = c.loop.self ∷ i.before;
      series = series_more Acts is_rest c.args.self.now i.before c.loop.self c.act.result c.act.new.self i.series c.act.ensures.act (sym c.rests.ensures.rests ∙ c.if-rests.false);
      count = omega (arith, count);
    }

pub returns-then-rests-clause-quiet : goal.returns-then-rests-clause-quiet
returns-then-rests-clause-quiet c a q = quiet_more a c.loop.self c.act.new.self c.act.result (c.loop.invariant.quiet a q) c.act.ensures.act

pub returns-then-rests-clause-stand : goal.returns-then-rests-clause-stand
returns-then-rests-clause-stand c is none = stands_looking c.loop.self c.act.new.self c.act.result c.act.ensures.act none (c.rests.ensures.looks c.if-rests.true none)

pub returns-then-rests-clause-acts : goal.returns-then-rests-clause-acts
returns-then-rests-clause-acts c =
    let i = c.loop.invariant in
    some_stopped Acts is_rest c.args.self.now i.before c.loop.self c.act.result c.act.new.self c.loop.counter i.series i.count c.loop-test.true c.act.ensures.act (sym c.rests.ensures.rests ∙ c.if-rests.true)

pub returns-clause-acts : goal.returns-clause-acts
returns-clause-acts c =
    let i = c.loop.invariant in
    let test = c.loop-test.false in
    let end = c.loop.auto.counter-end in
    let count = i.count in some_made Acts is_rest c.args.self.now i.before c.loop.self i.series (omega (arith, test, end, count))
