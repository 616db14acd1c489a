use Rattle.std.proofs.Common.{◌≡◌, ◌*◌}
use Rattle.std.specs.Fn.{iterate}
use Rattle.std.specs.Prelude.{string_bytes}
use Rattle.rand_xoshiro.specs.SplitMix64.{next_state}
use Rattle.benchmark.specs.Text.{sections_text}
use Rattle.benchmark.proofs.text.bench_text.Given as goal

abbrev pub invariant-loop : goal.invariant-loop
invariant-loop l = record {
  words : l.words ≡ iterate next_state (2 * l.counter) l.seed;
  text : string_bytes l.out ≡ sections_text l.count l.seed l.counter;
}
