-- The lines of a dump, read from the first to the last; the fault is the number of the first wrong line.
use Rattle.std.specs.Prelude.{ℕ, zero, suc, ◌+◌, ◌≡◌, List, [], ◌∷◌, map, Option, Some, None, Result, Ok, Err}
use Rattle.space_map.specs.Table.{table_length}
use Rattle.dump_text.specs.declared.dump.Dump.{Dump}
use Rattle.dump_text.specs.declared.dump_error.DumpError.{DumpError}
use Rattle.dump_text.specs.declared.dump_error.DumpError.TheVariants as errors
use Rattle.dump_text.specs.Text.{Dumped}
use Rattle.dump_text.specs.Pieces.{Piece, cell_at, registers_at, kept_read_at, head_at, kept_view}

-- a reader of lines, the first of which has this number
abbrev pub Reader : Type 0 → Type 0
Reader A = ℕ → List ℕ → Result (A × List ℕ) ℕ

infixl 10 ◌>>=◌
abbrev pub ◌>>=◌ : {A B : Type 0} → Result A ℕ → (A → Result B ℕ) → Result B ℕ
(Ok x) >>= f = f x
(Err line) >>= f = Err line

-- one line, which is wrong where its pieces are
abbrev pub or_line : {X : Type 0} → ℕ → Option X → Result X ℕ
or_line line None = Err line
or_line line (Some x) = Ok x

-- so many lines of one kind
abbrev pub many : {A : Type 0} → Piece A → ℕ → Reader (List A)
many piece zero line bytes = Ok ([], bytes)
many piece (suc n) line bytes = do
  first ← or_line line (piece bytes)
  others ← many piece n (line + 1) first.1
  Ok (first.0 ∷ others.0, others.1)

-- nothing stands behind the last line
abbrev pub nothing_at : ℕ → List ℕ → Result (List ℕ) ℕ
nothing_at line [] = Ok []
nothing_at line (b ∷ bytes) = Err line

-- all lines
unfoldable pub dump_at : List ℕ → Result Dumped ℕ
dump_at bytes = do
  head ← or_line 1 (head_at bytes)
  registers ← many registers_at head.0.mutators 2 head.1
  kept ← many kept_read_at head.0.workers (2 + head.0.mutators) registers.1
  words ← many (cell_at 10) (table_length head.0.pages) (2 + head.0.mutators + head.0.workers) kept.1
  end ← nothing_at (2 + head.0.mutators + head.0.workers + table_length head.0.pages) words.1
  Ok (record { pages = head.0.pages; registers = registers.0; kept = kept.0; words = words.0 })

-- ---- what the code gives

-- an error that is no want of memory is the fault that reading gives
abbrev pub Fails : {Y : Type 0} → DumpError → Result Y ℕ → Type 0
Fails errors.NoMemory read = Unit {0}
Fails (errors.Bad line) read = read ≡ Err line

-- what a function returned is what reading gives, unless memory ran out
abbrev pub GivesReading : {X Y : Type 0} → (X → Y) → Result X DumpError → Result Y ℕ → Type 0
GivesReading view (Ok x) read = read ≡ Ok (view x)
GivesReading view (Err e) read = Fails e read

-- a dump, without where it lies in memory
abbrev pub dump_view : Dump → Dumped
dump_view d = record { pages = d.pages; registers = d.registers.items; kept = map kept_view d.kept.items; words = d.words.items }
