-- Sources and sinks over std's readers and writers, as contracts see them.
use Rattle.std.specs.Prelude.{ℕ}

-- a reader, and how often it failed
pub record Reading (R : Type 0) : Type 0 where
  pub reader : R
  pub faults : ℕ

-- a writer, and how often it failed
pub record Writing (W : Type 0) : Type 0 where
  pub writer : W
  pub faults : ℕ
