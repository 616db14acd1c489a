use Rattle.ael_jobs.specs.Calls.Call.{Call, call_with}
use Rattle.ael_jobs.specs.Streams.Ends.{filled}
use Rattle.ael_jobs.specs.Calls.Headline.{CallIsAnswered}
use Rattle.ael_jobs.proofs.Calls.Plainly.{holds}
use Rattle.ael_jobs.proofs.still_call.finish.Goals as goal

pub returns-clause-holds : goal.returns-clause-holds
returns-clause-holds g c = λ words source is.
    let call : Call = call_with words source (filled g.O.Sink c.args.out.now c.emit.new.out) (filled g.E.Sink c.args.err.now c.emit.new.err) c.code.result in
    let answered : CallIsAnswered call = record {
      output = c.args.answer.now.output.items;
      status = c.args.answer.now.status;
      answer = is;
      emitted = record { final = c.emit.result; emitted = c.emit.ensures; code_is = c.code.ensures };
    } in
    holds c.one_program.ensures c.never_both.ensures c.listing_is_a_text.ensures.well_formed c.listing_is_a_text.ensures.text c.alone_mutators_are_independent.ensures.same c.one_concordance.ensures.rows call answered
