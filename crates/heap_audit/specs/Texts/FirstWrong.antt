-- The first line by which bytes differ from all that fits.
use Rattle.std.specs.Prelude.{ℕ, suc, ◌+◌, ◌-◌, ◌≡◌, List, ◌++◌}
use Rattle.dump_text.specs.Lines.{first_lines}
use Rattle.dump_text.specs.declared.dump_error.DumpError.{DumpError}
use Rattle.dump_text.specs.declared.dump_error.DumpError.TheVariants as dump_errors
use Rattle.heap_audit.specs.declared.reading.reading_error.ReadingError.{ReadingError}
use Rattle.heap_audit.specs.declared.reading.reading_error.ReadingError.TheVariants as errors

-- ---- bytes that should begin with a text that fits

-- the bytes go wrong behind so many lines: these are the first of some text that fits, whatever stands behind it; with the next
-- one they are those of none
pub record GoWrongBehind {A : Type 0} (text : A → List ℕ) (Fits : A → Type 0) (bytes : List ℕ) (lines : ℕ) : Type 0 where
  pub begun : A
  pub fits : Fits begun
  pub before : (more : List ℕ) → first_lines lines bytes ≡ first_lines lines (text begun ++ more)
  pub wrong : (x : A) (more : List ℕ) → Fits x → first_lines (suc lines) bytes ≡ first_lines (suc lines) (text x ++ more) → ⊥

-- an error that is no want of memory names the line in which they go wrong, so many lines standing before them
abbrev pub NamesWrong : {A : Type 0} → (A → List ℕ) → (A → Type 0) → List ℕ → (before : ℕ) → ReadingError → Type 0
NamesWrong text Fits bytes before errors.NoMemory = Unit {0}
NamesWrong text Fits bytes before (errors.Bad line) = (lines : ℕ) × (line ≡ before + lines + 1) × GoWrongBehind text Fits bytes lines

-- ---- bytes that should be a text that fits

-- before this line, counted from 1, they are those of some text that fits; with this line they are those of none
pub record IsFirstWrongOf {A : Type 0} (text : A → List ℕ) (Fits : A → Type 0) (bytes : List ℕ) (line : ℕ) : Type 0 where
  pub begun : A
  pub fits : Fits begun
  pub before : first_lines (line - 1) bytes ≡ first_lines (line - 1) (text begun)
  pub wrong : (x : A) → Fits x → first_lines line bytes ≡ first_lines line (text x) → ⊥

-- an error that is no want of memory names that line
abbrev pub NamesFirstWrongOf : {A : Type 0} → (A → List ℕ) → (A → Type 0) → List ℕ → ReadingError → Type 0
NamesFirstWrongOf text Fits bytes errors.NoMemory = Unit {0}
NamesFirstWrongOf text Fits bytes (errors.Bad line) = IsFirstWrongOf text Fits bytes line

-- the same of bytes that should be a dump
abbrev pub DumpNamesWrong : {A : Type 0} → (A → List ℕ) → (A → Type 0) → List ℕ → DumpError → Type 0
DumpNamesWrong text Fits bytes dump_errors.NoMemory = Unit {0}
DumpNamesWrong text Fits bytes (dump_errors.Bad line) = IsFirstWrongOf text Fits bytes line

-- why a part was not read whose dump could not be read, behind so many lines
abbrev pub behind : (lines : ℕ) → DumpError → ReadingError
behind lines dump_errors.NoMemory = errors.NoMemory
behind lines (dump_errors.Bad line) = errors.Bad (lines + line)
