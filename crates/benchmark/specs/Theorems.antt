-- What is proved of the text.
use Rattle.std.specs.Prelude.{ℕ, ◌≤◌}
use Rattle.mutator_asm.specs.Theorems.{Means}
use Rattle.benchmark.specs.Text.{bench_text}

-- the text of each benchmark means a program
abbrev pub BenchmarksAreTexts : Type 0
BenchmarksAreTexts = (depth seed : ℕ) → 1 ≤ depth → depth ≤ 9 → Means (bench_text depth seed)
