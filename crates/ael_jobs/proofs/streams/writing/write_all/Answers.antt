use Rattle.std.proofs.Common.{refl, ◌∙◌}
use Rattle.ael_jobs.proofs.Inputs.Growing.{wrote_more, wrote_some}
use Rattle.ael_jobs.proofs.streams.writing.write_all.Goals as goal

pub returns-in-Failed-clause-err : goal.returns-in-Failed-clause-err
returns-in-Failed-clause-err g c = record {
  part = rw c.in-Failed.ensures.bytes (wrote_some _ _ _ _ c.loop-rest.invariant.wrote);
  rose = rw c.loop-rest.invariant.steady at (c.in-Failed.ensures.fails_only_if_the_count_rose refl);
}

pub loop-rest-preserved : goal.loop-rest-preserved
loop-rest-preserved g c = record {
  wrote = rw c.split_at.ensures.back (wrote_more _ _ _ _ _ c.in-Took.count c.loop-rest.invariant.wrote c.in-Took.ensures.bytes.2);
  steady = c.in-Took.ensures.counts_failures_alone (λ e. cc) ∙ c.loop-rest.invariant.steady;
}
