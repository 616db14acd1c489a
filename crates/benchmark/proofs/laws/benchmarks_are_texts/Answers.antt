use Rattle.benchmark.proofs.Faultless.{bench_means}
use Rattle.benchmark.proofs.laws.benchmarks_are_texts.Goals as goal

pub returns : goal.returns
returns c = bench_means
