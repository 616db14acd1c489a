-- What a text is: the program that it means, or its first error.
use Rattle.std.specs.Prelude.{◌≡◌, ℕ, ◌+◌, ◌<◌, ◌≤◌, ◌⊎◌, Bool, true, false, not, ◌&&◌, ◌||◌, List, [], ◌∷◌, ◌++◌, length, Option, Some, None, nat_lt, nat_le, ◌==◌, if◌then◌else◌, count_by, option_map, drop, map, slice_index_or}
use Rattle.std.specs.Option.{is_some}
use Rattle.std.specs.List.{filter_map, flat_map, list_any, before_first, slice_split}
use Rattle.std.specs.Str.{bytes_eq}
use Rattle.plain_state.specs.declared.sizes.TheConstants.{MOST_INSTRS, MOST_ITEMS, MOST_MUTATORS}
use Rattle.mutator_asm.specs.declared.instr.Instr.{Instr}
use Rattle.mutator_asm.specs.declared.item.Item.{Item}
use Rattle.mutator_asm.specs.declared.mistake.Mistake.{Mistake}
use Rattle.mutator_asm.specs.declared.mistake.Mistake.TheVariants.{UnknownInstr, BadOperand, UnknownLabel, LabelTwice, NoMutator, TooManyMutators, CodeTooLong, BadSchedule, NumberTooBig}
use Rattle.mutator_asm.specs.Mistake.{number_of_mistake}
use Rattle.mutator_asm.specs.Instr.{jump_to}
use Rattle.mutator_asm.specs.Line.{Word, Begins, Schedules, Does, Jumps, Bad, Line, lines_of}

-- ---- what a word is

-- it begins a section
abbrev pub is_begin : Word → Bool
is_begin (Begins alone) = true
is_begin _ = false

-- it is an instruction
abbrev pub has_instr : Word → Bool
has_instr (Does instr) = true
has_instr (Jumps jump label) = true
has_instr _ = false

-- the items of the schedule that it names
abbrev pub items_in : Word → List Item
items_in (Schedules items) = items
items_in _ = []

-- a label, where there is one, has this name
abbrev pub is_label : List ℕ → Option (List ℕ) → Bool
is_label name None = false
is_label name (Some label) = bytes_eq label name

-- ---- what stands on a line

-- a line begins a section
abbrev pub begins_section : Line → Bool
begins_section line = is_begin line.word

-- a line has an instruction
abbrev pub counts : Line → Bool
counts line = has_instr line.word

-- the items of the schedule on a line
abbrev pub items_on : Line → List Item
items_on line = items_in line.word

-- a line has a label of this name
abbrev pub defines : List ℕ → Line → Bool
defines name line = is_label name line.label

-- the items of the schedule on all lines, in order
abbrev pub schedule_of : List Line → List Item
schedule_of lines = flat_map items_on lines

-- ---- sections

-- the lines of each section: what stands between the lines that begin one, but for what stands before the first
abbrev pub sections_in : List Line → List (List Line)
sections_in lines = drop 1 (slice_split begins_section lines)

-- the lines of a section, the first being number 1; no line stands in number 0
abbrev pub section_no : List Line → ℕ → List Line
section_no lines k = slice_index_or ([] ∷ sections_in lines) k []

-- ---- errors

-- it is wrong in this way wherever it stands
abbrev pub is_bad : Mistake → Word → Bool
is_bad mistake (Bad found) = number_of_mistake found == number_of_mistake mistake
is_bad mistake _ = false

-- .mutator with operands
abbrev pub is_begin_with_more : Word → Bool
is_begin_with_more (Begins alone) = not alone
is_begin_with_more _ = false

-- a jump to a label that is not known
abbrev pub is_lost : (List ℕ → Bool) → Word → Bool
is_lost known (Jumps jump label) = not (known label)
is_lost known _ = false

-- a label that was there earlier
abbrev pub is_again : (List ℕ → Bool) → Option (List ℕ) → Bool
is_again earlier None = false
is_again earlier (Some label) = earlier label

-- an instruction, also one whose number is too big
abbrev pub is_instr : Word → Bool
is_instr word = has_instr word || is_bad NumberTooBig word

-- a schedule whose items are too many with those before it
abbrev pub is_overlong : ℕ → Word → Bool
is_overlong before (Schedules items) = nat_lt MOST_ITEMS (before + length items)
is_overlong before _ = false

-- the table of errors, by what is around a line: the labels of its section, those before it there, and how
-- many sections, instructions and items of the schedule come before it. Of several the first counts
abbrev pub error_by : (List ℕ → Bool) → (List ℕ → Bool) → ℕ → ℕ → ℕ → Line → Option Mistake
error_by known earlier sections instrs items line =
    if is_bad UnknownInstr line.word then Some UnknownInstr
    else (if is_bad BadOperand line.word || is_begin_with_more line.word then Some BadOperand
    else (if is_lost known line.word then Some UnknownLabel
    else (if is_again earlier line.label then Some LabelTwice
    else (if (sections == 0) && (is_some line.label || is_instr line.word) then Some NoMutator
    else (if is_begin line.word && nat_le MOST_MUTATORS sections then Some TooManyMutators
    else (if is_instr line.word && nat_le MOST_INSTRS instrs then Some CodeTooLong
    else (if is_bad BadSchedule line.word || is_overlong items line.word then Some BadSchedule
    else (if is_bad NumberTooBig line.word then Some NumberTooBig
    else None))))))))

-- a label of this name stands in the lines
abbrev pub has_label : List Line → List ℕ → Bool
has_label lines name = list_any (defines name) lines

-- the error of a line between those before and after it
unfoldable pub error_of : List Line → Line → List Line → Option Mistake
error_of before line after =
    let section = count_by begins_section before in
    error_by (has_label (section_no (before ++ line ∷ after) section)) (has_label (section_no before section)) section (count_by counts before) (length (schedule_of before)) line

-- none of the first n lines has an error
pub record IsCleanUpTo (n : ℕ) (lines : List Line) : Type 0 where
  pub no_error : (before : List Line) (line : Line) (after : List Line) → lines ≡ before ++ line ∷ after → length before < n → error_of before line after ≡ None

-- ---- the program

-- how many instructions stand before a label of a section; 0 where it has none of the name
abbrev pub target_of : List Line → List ℕ → ℕ
target_of section label = if has_label section label then count_by counts (before_first (defines label) section) else 0

-- an instruction, where a label has its target
abbrev pub instr_by : (List ℕ → ℕ) → Word → Option Instr
instr_by target (Does instr) = Some instr
instr_by target (Jumps jump label) = Some (jump_to jump (target label))
instr_by target _ = None

-- the instructions of a section's lines
unfoldable pub section_of : List Line → List Instr
section_of lines = filter_map (λ line. instr_by (target_of lines) line.word) lines

-- the instructions of each section
unfoldable pub code_of : List Line → List (List Instr)
code_of lines = map section_of (sections_in lines)

-- ---- a text

-- a text means a program: no line has an error, a section begins, its instructions are the code, and its
-- items the schedule
pub record IsText (bytes : List ℕ) (code : List (List Instr)) (schedule : List Item) : Type 0 where
  pub clean : IsCleanUpTo (length (lines_of bytes)) (lines_of bytes)
  pub begun : 1 ≤ count_by begins_section (lines_of bytes)
  pub code_is : code ≡ code_of (lines_of bytes)
  pub schedule_is : schedule ≡ schedule_of (lines_of bytes)

-- the first line with an error has that of this number
pub record IsFirstError (lines : List Line) (number line : ℕ) : Type 0 where
  pub before : List Line
  pub here : Line
  pub after : List Line
  pub cut : lines ≡ before ++ here ∷ after
  pub clean : IsCleanUpTo (length before) lines
  pub error : option_map number_of_mistake (error_of before here after) ≡ Some number
  pub place : line ≡ length before + 1

-- no line has an error and none begins a section, which counts as an error of line 1
pub record IsWithoutSection (lines : List Line) (number line : ℕ) : Type 0 where
  pub clean : IsCleanUpTo (length lines) lines
  pub none_begun : count_by begins_section lines ≡ 0
  pub error : number ≡ number_of_mistake NoMutator
  pub place : line ≡ 1

-- the fault of lines: the number of the first error, and its line, counted from 1
abbrev pub IsFaultIn : List Line → ℕ → ℕ → Type 0
IsFaultIn lines number line = IsFirstError lines number line ⊎ IsWithoutSection lines number line

-- the fault of a text
abbrev pub IsFault : List ℕ → ℕ → ℕ → Type 0
IsFault bytes number line = IsFaultIn (lines_of bytes) number line
