-- The first line that isn't what it should be.
use Rattle.std.specs.Prelude.{ℕ, ◌-◌, ◌≡◌, List, map, Option, Some, None}
use Rattle.dump_text.specs.Lines.{first_lines}
use Rattle.plain_heap.specs.Print.{lines_seen}
use Rattle.heap_audit.specs.Texts.Lines.{seen_by}
use Rattle.heap_audit.specs.declared.reading.lines.MutatorLines.{MutatorLines}

-- the lines of mutators, by what was read of each
abbrev pub lines_told : List MutatorLines → List ℕ
lines_told mutators = lines_seen 0 (map seen_by mutators)

-- the lines before this one, counted from 1, are those that are wanted, and this one isn't, or only one of the texts has it
pub record IsFirstOther (wanted told : List ℕ) (line : ℕ) : Type 0 where
  pub before : first_lines (line - 1) told ≡ first_lines (line - 1) wanted
  pub other : first_lines line told ≡ first_lines line wanted → ⊥

-- no line is told if all are those that are wanted, else the first that isn't
abbrev pub TellsFirstOther : (wanted told : List ℕ) → Option ℕ → Type 0
TellsFirstOther wanted told None = told ≡ wanted
TellsFirstOther wanted told (Some line) = IsFirstOther wanted told line
