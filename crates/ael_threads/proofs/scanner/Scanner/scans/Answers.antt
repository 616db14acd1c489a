use Rattle.std.proofs.Common.{◌≡◌, [], ◌∷◌, ◌∙◌, refl}
use denote.Param.Always.{mut_next}
use Rattle.ael_threads.specs.declared.rounds.Round.TheVariants as rounds
use Rattle.ael_threads.proofs.ActsInRow.{not_nothing, not_worked, rounds_gone, rounds_more, rounds_stopped}
use Rattle.ael_threads.proofs.scanner.Scanner.scans.Goals as goal
use Rattle.ael_threads.proofs.scanner.Scanner.scans.Goals.{in-Nothing, in-Worked}

pub loop-init : goal.loop-init
loop-init g c = record { may_ask = c.requires.may_ask; table = refl; quiet = λ a q. q; before = []; series = refl }

pub loop-preserved : goal.loop-preserved
loop-preserved g c =
    let i = c.loop.invariant in
    let lives : c.round-round.result ≡ rounds.Gone → ⊥ = elim c.match-round.branch [ in-Worked w ↦ not_worked c.round-round.result w.in-Worked.is | in-Nothing w ↦ not_nothing c.round-round.result w.in-Nothing.is ] in record {
      may_ask = mut_next g.F.FnMut _ _ _ _ _ c.stop.ensures refl i.may_ask;
      table = c.round-round.ensures.table ∙ i.table;
      quiet = λ a q. c.round-round.ensures.quiet a (i.quiet a q);
      before = (c.loop.self, c.loop.stop) ∷ i.before;
      series = rounds_more (λ f told h. goal.F-step g f told h) c.args.self.now c.args.stop i.before c.loop.self c.loop.stop c.round-round.result c.round-round.new.self c.stop.result c.stop.new.self i.series c.round-round.ensures.acts lives c.stop.ensures c.if-stop.false;
    }

pub returns-in-Gone-clause-rounds : goal.returns-in-Gone-clause-rounds
returns-in-Gone-clause-rounds g c =
    let i = c.loop.invariant in
    rounds_gone (λ f told h. goal.F-step g f told h) c.args.self.now c.args.stop i.before c.loop.self c.loop.stop c.round-round.result c.round-round.new.self i.series c.round-round.ensures.acts c.in-Gone.is

pub returns-then-stop-clause-rounds : goal.returns-then-stop-clause-rounds
returns-then-stop-clause-rounds g c =
    let i = c.loop.invariant in
    let lives : c.round-round.result ≡ rounds.Gone → ⊥ = elim c.match-round.branch [ in-Worked w ↦ not_worked c.round-round.result w.in-Worked.is | in-Nothing w ↦ not_nothing c.round-round.result w.in-Nothing.is ] in
    rounds_stopped (λ f told h. goal.F-step g f told h) c.args.self.now c.args.stop i.before c.loop.self c.loop.stop c.round-round.result c.round-round.new.self c.stop.result c.stop.new.self i.series c.round-round.ensures.acts lives c.stop.ensures c.if-stop.true
