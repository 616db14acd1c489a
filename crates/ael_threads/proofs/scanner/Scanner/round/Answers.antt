use Rattle.std.proofs.Common.{[], ◌∙◌, Option, refl, subst}
use Rattle.ael_threads.specs.ActsInRow.{GoesRound, MakesRound}
use Rattle.ael_threads.specs.declared.rounds.Round.{Round}
use Rattle.ael_threads.proofs.ActsInRow.{round_claims, round_ends, round_goes_on, round_gone, round_rests, round_silent}
use Rattle.ael_threads.proofs.scanner.Scanner.round.Goals as goal

pub loop-init : goal.loop-init
loop-init g c = record { table = refl; before = []; series = refl; written = refl }

pub loop-preserved : goal.loop-preserved
loop-preserved g c =
    let i = c.loop.invariant in
    let more = round_goes_on c.args.self.now i.before c.loop.self c.loop.has_written c.goes_round.new.has_written c.goes_round.new.self i.series i.written
    (subst (λ (o : Option Round). GoesRound c.loop.has_written c.goes_round.new.has_written o c.loop.self c.goes_round.new.self) c.in_default.is c.goes_round.ensures.acts) in
    record { table = c.goes_round.ensures.table ∙ i.table; before = more.0; series = more.1; written = more.2 }

pub returns-in-Some-goes_round : goal.returns-in-Some-goes_round
returns-in-Some-goes_round g c =
    let i = c.loop.invariant in
    let made : MakesRound c.in-Some-goes_round.round c.args.self.now c.goes_round.new.self =
    round_ends c.args.self.now i.before c.loop.self c.loop.has_written c.goes_round.new.has_written c.in-Some-goes_round.round c.goes_round.new.self i.series i.written c.in-Some-goes_round.ensures.acts in record {
      table = c.goes_round.ensures.table ∙ i.table;
      acts = made;
      rests = round_rests c.in-Some-goes_round.round c.args.self.now c.goes_round.new.self made;
      gone = λ is. round_gone c.in-Some-goes_round.round c.args.self.now c.goes_round.new.self made is;
      nothing = λ is. round_claims c.in-Some-goes_round.round c.args.self.now c.goes_round.new.self made is;
      quiet = λ a q. round_silent c.in-Some-goes_round.round c.args.self.now c.goes_round.new.self a made q;
    }
