use Rattle.std.proofs.Common.{arith, rules}
use Rattle.ael_jobs.proofs.Inputs.KnownBytes.{read_bytes, read_end, stays}
use Rattle.ael_jobs.proofs.streams.standard.StdSourceSource.read.Goals as goal

pub loop-preserved : goal.loop-preserved
loop-preserved g c =
    let kept = rw (← c.self.view_is) at c.loop.invariant.kept in
    record {
      steady = search rules;
      kept = stays _ _ _ kept c.in-Err.ensures.bytes;
    }

pub returns-in-Ok-eq0-clause-gives_what_the_reader_had_left : goal.returns-in-Ok-eq0-clause-gives_what_the_reader_had_left
returns-in-Ok-eq0-clause-gives_what_the_reader_had_left g c =
    let kept = rw (← c.self.view_is) at c.loop.invariant.kept in
    read_end _ _ _ c.read.result c.in-Ok-eq0.field-0 _ kept c.read.ensures.bytes c.in-Ok-eq0.is c.in-Ok-eq0.field-0-test (search (rules, arith))

pub returns-in-Ok-clause-gives_what_the_reader_had_left : goal.returns-in-Ok-clause-gives_what_the_reader_had_left
returns-in-Ok-clause-gives_what_the_reader_had_left g c =
    let kept = rw (← c.self.view_is) at c.loop.invariant.kept in
    read_bytes _ _ _ _ _ (search (rules, arith)) c.in-Ok.ensures.bound.0 kept c.in-Ok.ensures.bytes.0
