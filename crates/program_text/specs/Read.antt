-- What the code keeps of a text, without where it lies in memory.
use Rattle.std.specs.Prelude.{ℕ, List, Option, Some, None, map}
use denote.Ref.{Bor}
use Rattle.program_text.specs.declared.text.line.Line.{Line as Read}
use Rattle.program_text.specs.declared.text.line.Word.{Word as ReadWord}
use Rattle.program_text.specs.declared.text.line.Word.TheVariants as read
use Rattle.mutator_asm.specs.Line.{Line, Word, Nothing, Begins, Schedules, Does, Jumps, Bad}

-- the bytes of tokens or lines
abbrev pub tokens_view : List (Bor (List ℕ)) → List (List ℕ)
tokens_view tokens = map (λ t. t.now) tokens

-- the bytes of a label, where there is one
abbrev pub label_view : Option (Bor (List ℕ)) → Option (List ℕ)
label_view None = None
label_view (Some label) = Some label.now

-- what a line has beside its label
abbrev pub word_view : ReadWord → Word
word_view read.Nothing = Nothing
word_view (read.Begins alone) = Begins alone
word_view (read.Schedules items) = Schedules items.items
word_view (read.Does instr) = Does instr
word_view (read.Jumps jump label) = Jumps jump label.now
word_view (read.Bad mistake) = Bad mistake

-- what a line says
abbrev pub line_view : Read → Line
line_view line = record { label = label_view line.label; word = word_view line.word }

-- what each line says
abbrev pub lines_view : List Read → List Line
lines_view lines = map line_view lines
