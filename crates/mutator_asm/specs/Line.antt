-- What one line says.
use Rattle.std.specs.Prelude.{ℕ, Bool, true, false, not, ◌&&◌, List, [], ◌∷◌, length, map, Option, Some, None, Result, Ok, Err, ◌==◌, if◌then◌else◌, codes}
use Rattle.std.specs.Option.{is_some}
use Rattle.std.specs.List.{slice_split, list_all, filter_map}
use Rattle.std.specs.Str.{bytes_eq}
use Rattle.mutator_asm.specs.declared.instr.Instr.{Instr}
use Rattle.mutator_asm.specs.declared.item.Item.{Item}
use Rattle.mutator_asm.specs.declared.jump.Jump.{Jump}
use Rattle.mutator_asm.specs.declared.jump.Jump.TheVariants.{Always, IfZero, Link}
use Rattle.mutator_asm.specs.declared.mistake.Mistake.{Mistake}
use Rattle.mutator_asm.specs.declared.mistake.Mistake.TheVariants.{BadOperand, BadSchedule}
use Rattle.mutator_asm.specs.Token.{tokens_of, is_name, label_of, register_of}
use Rattle.mutator_asm.specs.Item.{item_of}
use Rattle.mutator_asm.specs.Instr.{instr_of, made}

-- what a line has beside its label: nothing, `.mutator`, which begins a section (alone on its line, or
-- with operands), items of the schedule, an instruction, a jump to a label, or something wrong
pub data Word : Type 0 where
  Nothing : Word
  Begins : (alone : Bool) → Word
  Schedules : (items : List Item) → Word
  Does : (instr : Instr) → Word
  Jumps : (jump : Jump) (label : List ℕ) → Word
  Bad : (mistake : Mistake) → Word

-- a line
pub record Line : Type 0 where
  pub label : Option (List ℕ)
  pub word : Word

-- ---- jumps to a label

-- L
abbrev pub jump_of : Jump → List (List ℕ) → Word
jump_of jump (label ∷ []) = if is_name label then Jumps jump label else Bad BadOperand
jump_of jump _ = Bad BadOperand

-- ra, and then L
abbrev pub register_jump_of : Result Jump Mistake → List (List ℕ) → Word
register_jump_of (Ok jump) labels = jump_of jump labels
register_jump_of (Err mistake) labels = Bad mistake

-- jz ra L
abbrev pub jz_of : List (List ℕ) → Word
jz_of [] = Bad BadOperand
jz_of (a ∷ labels) = register_jump_of (made IfZero (register_of a)) labels

-- jal rd L
abbrev pub jal_of : List (List ℕ) → Word
jal_of [] = Bad BadOperand
jal_of (d ∷ labels) = register_jump_of (made Link (register_of d)) labels

-- ---- what stands behind a label

-- an instruction, or what is wrong with it
abbrev pub does_or : Result Instr Mistake → Word
does_or (Ok instr) = Does instr
does_or (Err mistake) = Bad mistake

-- a name with its operands
unfoldable pub named_of : List ℕ → List (List ℕ) → Word
named_of name operands =
    if bytes_eq name (codes "jmp") then jump_of Always operands
    else (if bytes_eq name (codes "jz") then jz_of operands
    else (if bytes_eq name (codes "jal") then jal_of operands
    else does_or (instr_of name operands)))

-- nothing, or a name with its operands
abbrev pub labelled_of : List (List ℕ) → Word
labelled_of [] = Nothing
labelled_of (name ∷ operands) = named_of name operands

-- ---- directives

-- .mutator begins a section, also where operands follow it, which is an error
abbrev pub begins_of : List (List ℕ) → Word
begins_of [] = Begins true
begins_of _ = Begins false

-- whether a token is an item of a schedule
abbrev pub is_item_token : List ℕ → Bool
is_item_token t = is_some (item_of t)

-- .schedule has items, one or more
unfoldable pub schedules_of : List (List ℕ) → Word
schedules_of operands = if not (length operands == 0) && list_all is_item_token operands then Schedules (filter_map item_of operands) else Bad BadSchedule

-- ---- a line

-- a line without a label
abbrev pub unlabelled : Word → Line
unlabelled word = record { label = None; word = word }

-- a line whose first token is a label, or else a name
abbrev pub line_with : Option (List ℕ) → List ℕ → List (List ℕ) → Line
line_with None first rest = unlabelled (named_of first rest)
line_with (Some label) first rest = record { label = Some label; word = labelled_of rest }

-- what the tokens of a line say
abbrev pub line_from : List (List ℕ) → Line
line_from [] = unlabelled Nothing
line_from (first ∷ rest) =
    if bytes_eq first (codes ".mutator") then unlabelled (begins_of rest)
    else (if bytes_eq first (codes ".schedule") then unlabelled (schedules_of rest)
    else line_with (label_of first) first rest)

-- what a line says
unfoldable pub line_of : List ℕ → Line
line_of line = line_from (tokens_of line)

-- the lines of a text; where LF ends the last, a blank line follows it
unfoldable pub lines_of : List ℕ → List Line
lines_of text = map line_of (slice_split (λ b. b == 10) text)
