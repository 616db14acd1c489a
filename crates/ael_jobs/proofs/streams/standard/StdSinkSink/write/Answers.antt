use Rattle.std.proofs.Common.{arith, rules}
use Rattle.ael_jobs.proofs.Inputs.KnownBytes.{stays, write_failed, write_none, write_took}
use Rattle.ael_jobs.proofs.streams.standard.StdSinkSink.write.Goals as goal

pub loop-preserved : goal.loop-preserved
loop-preserved g c =
    let kept = rw (← c.self.view_is) at c.loop.invariant.kept in
    record {
      steady = search rules;
      kept = stays _ _ _ kept c.in-Err.ensures.bytes;
    }

pub returns-in-Ok-eq0-clause-adds_to_what_the_writer_holds : goal.returns-in-Ok-eq0-clause-adds_to_what_the_writer_holds
returns-in-Ok-eq0-clause-adds_to_what_the_writer_holds g c =
    let kept = rw (← c.self.view_is) at c.loop.invariant.kept in
    rw (c.failed_write.ensures.answer, c.failed_write.ensures.writer)
    (write_none _ _ _ c.write.result c.in-Ok-eq0.field-0 c.args.piece.now kept c.write.ensures.bytes c.in-Ok-eq0.is c.in-Ok-eq0.field-0-test)

pub returns-in-Ok-clause-adds_to_what_the_writer_holds : goal.returns-in-Ok-clause-adds_to_what_the_writer_holds
returns-in-Ok-clause-adds_to_what_the_writer_holds g c =
    let kept = rw (← c.self.view_is) at c.loop.invariant.kept in
    write_took _ _ _ _ _ (search (rules, arith)) c.in-Ok.ensures.bound kept c.in-Ok.ensures.bytes

pub returns-in-Err-2-clause-adds_to_what_the_writer_holds : goal.returns-in-Err-2-clause-adds_to_what_the_writer_holds
returns-in-Err-2-clause-adds_to_what_the_writer_holds g c =
    let kept = rw (← c.self.view_is) at c.loop.invariant.kept in
    rw (c.failed_write-in-Err-2.ensures.answer, c.failed_write-in-Err-2.ensures.writer) (write_failed _ _ c.args.piece.now (stays _ _ _ kept c.in-Err-2.ensures.bytes))

pub returns-clause-adds_to_what_the_writer_holds : goal.returns-clause-adds_to_what_the_writer_holds
returns-clause-adds_to_what_the_writer_holds g c =
    rw (c.failed_write-2.ensures.answer, c.failed_write-2.ensures.writer) (write_failed _ _ c.args.piece.now c.loop.invariant.kept)
