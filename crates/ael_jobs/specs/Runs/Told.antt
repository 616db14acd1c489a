-- What is told of a heap and its workers once a run is over, and the lines of it. The text of a dump is that of `dump_text`.
use Rattle.std.specs.Prelude.{◌≡◌, ℕ, Bool, true, false, List, [], ◌++◌, Option, Some, None, codes, decimal, if◌then◌else◌}
use Rattle.std.specs.List.{AllByRecursion}
use Rattle.plain_state.specs.State.{Plain}
use Rattle.plain_heap.specs.Print.{Seen}
use Rattle.heap_state.specs.Meaning.Represents.{DumpRepresents}
use Rattle.gc_core.specs.Core.{CoreState}
use Rattle.gc_core.specs.Dumped.{dumped}
use Rattle.gc_core.specs.Readers.{cycles_of, live_of, seen_of}
use Rattle.checkpoint_text.specs.Text.{AreLinesOf}
use Rattle.dump_text.specs.Said.{dump_said}
use Rattle.dump_text.specs.Text.{AreKept, AreRegisters, Dumped, IsWord, dump_text}
use Rattle.ael_jobs.specs.declared.arguments.options.RunOptions.{RunOptions}

-- what is seen of each mutator; how often the spaces were exchanged, and the words that were copied since, where all are; all words of the
-- table; and what a dump tells
pub record RunReport : Type 0 where
  pub seen : List Seen
  pub cycles : ℕ
  pub live : Option ℕ
  pub words : List ℕ
  pub dump : Dumped

-- of a core
abbrev pub told_of : CoreState → RunReport
told_of s = record { seen = seen_of s; cycles = cycles_of s; live = live_of s; words = s.heap.words; dump = dumped s }

-- what the dump of a core tells, read by itself, represents a plain state
abbrev pub IsTrueDump : CoreState → Plain → Type 0
IsTrueDump s p = DumpRepresents (dump_said (dumped s)) p

-- each number that a dump tells is a word, and each mutator has all its registers
pub record TellsWords (d : Dumped) : Type 0 where
  pub registers : AllByRecursion AreRegisters d.registers
  pub kept : AllByRecursion AreKept d.kept
  pub words : AllByRecursion IsWord d.words

-- ---- the lines

abbrev pub live_text : Option ℕ → List ℕ
live_text None = codes "-"
live_text (Some words) = decimal words

abbrev pub cycles_line : RunReport → List ℕ
cycles_line told = codes "cycles " ++ decimal told.cycles ++ codes " live " ++ live_text told.live ++ codes "\n"

-- the lines of the last checkpoint that the words of a table say, if they are asked for; else there are none
abbrev pub AreLinesIf : (flag : Bool) → (words bytes : List ℕ) → Type 0
AreLinesIf true words bytes = AreLinesOf words bytes
AreLinesIf false words bytes = bytes ≡ []

-- the lines that are asked for of the heap, with those of its last checkpoint
abbrev pub heap_lines : RunOptions → RunReport → (checkpoint : List ℕ) → List ℕ
heap_lines options told checkpoint = (if options.cycles then cycles_line told else []) ++ checkpoint ++ (if options.dump then dump_text told.dump else [])
