use Rattle.std.proofs.Common.{[], ◌∷◌, ◌∙◌, arith, refl, sym}
use Rattle.ael_threads.specs.ActsInRow.{ScannerActs, ends_round, has_written}
use Rattle.gc_worker.specs.Steps.Wanted.{wanted}
use Rattle.ael_threads.specs.Rounds.{is_write}
use Rattle.ael_threads.proofs.ActsInRow.{ends_by, goes_on_by, series_more, written_more}
use Rattle.ael_threads.proofs.scanner.Scanner.goes_round.Goals as goal

pub loop-init : goal.loop-init
loop-init c = record { table = refl; before = []; series = refl; count = refl; written = refl }

pub loop-preserved : goal.loop-preserved
loop-preserved c = let i = c.loop.invariant in let count = i.count in record {
  table = c.act-stepped.ensures.table ∙ i.table;
  before = c.loop.self ∷ i.before;
  series = series_more ScannerActs ends_round c.args.self.now i.before c.loop.self c.act-stepped.result c.act-stepped.new.self i.series (record { act = c.act-stepped.ensures.act; steps = c.act-stepped.ensures.steps }) (sym c.rests.ensures ∙ c.if-rests.false);
  count = omega (arith, count);
  written = c.writes.ensures ∙ written_more (is_write (wanted c.loop.self.seated.worker)) (has_written i.before) c.loop.has_written c.args.has_written.now i.written;
}

pub returns-then-rests-clause-acts : goal.returns-then-rests-clause-acts
returns-then-rests-clause-acts c =
    let i = c.loop.invariant in
    ends_by c.args.self.now i.before c.loop.self c.args.has_written.now c.writes.result c.act-stepped.result c.act-stepped.new.self c.loop.counter c.round_by.result i.series i.count c.loop-test.true
    (record { act = c.act-stepped.ensures.act; steps = c.act-stepped.ensures.steps }) (sym c.rests.ensures ∙ c.if-rests.true)
    (c.writes.ensures ∙ written_more (is_write (wanted c.loop.self.seated.worker)) (has_written i.before) c.loop.has_written c.args.has_written.now i.written) c.round_by.ensures

pub returns-clause-acts : goal.returns-clause-acts
returns-clause-acts c =
    let i = c.loop.invariant in
    let test = c.loop-test.false in
    let end = c.loop.auto.counter-end in
    let count = i.count in goes_on_by c.args.self.now i.before c.loop.self c.args.has_written.now c.loop.has_written i.series (omega (arith, test, end, count)) i.written
