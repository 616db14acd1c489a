-- The first lines of a text, and the first line by which bytes differ from every dump.
use Rattle.std.specs.Prelude.{ℕ, zero, suc, ◌-◌, ◌≡◌, ◌==◌, List, [], ◌∷◌, if◌then◌else◌}
use Rattle.dump_text.specs.declared.dump_error.DumpError.{DumpError}
use Rattle.dump_text.specs.declared.dump_error.DumpError.TheVariants as errors
use Rattle.dump_text.specs.Text.{Dumped, IsDump, dump_text}

-- so many lines from the front, each with its end, or all where there are fewer
abbrev pub first_lines : ℕ → List ℕ → List ℕ
first_lines zero bytes = []
first_lines (suc n) [] = []
first_lines (suc n) (b ∷ bytes) = b ∷ (if b == 10 then first_lines n bytes else first_lines (suc n) bytes)

-- before this line, counted from 1, the bytes are those of some dump; with this line they are those of none
pub record IsFirstWrong (bytes : List ℕ) (line : ℕ) : Type 0 where
  pub begun : Dumped
  pub begun_dump : IsDump begun
  pub before : first_lines (line - 1) bytes ≡ first_lines (line - 1) (dump_text begun)
  pub wrong : (d : Dumped) → IsDump d → first_lines line bytes ≡ first_lines line (dump_text d) → ⊥

-- an error that is no want of memory names that line
abbrev pub NamesFirstWrong : List ℕ → DumpError → Type 0
NamesFirstWrong bytes errors.NoMemory = Unit {0}
NamesFirstWrong bytes (errors.Bad line) = IsFirstWrong bytes line
