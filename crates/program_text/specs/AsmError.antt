-- What the error of a text says, and its text.
use Rattle.std.specs.Prelude.{ℕ, List, ◌++◌, ◌==◌, if◌then◌else◌, codes, decimal, ⊤}
use Rattle.mutator_asm.specs.Text.{IsFault}
use Rattle.program_text.specs.declared.errors.asm_error.AsmError.{AsmError}
use Rattle.program_text.specs.declared.errors.asm_error.AsmError.TheVariants.{Text, NoMemory}

-- the text of an error's number
abbrev pub text_of_number : ℕ → List ℕ
text_of_number number =
    if number == 1 then codes "unknown instruction"
    else (if number == 2 then codes "bad operand"
    else (if number == 3 then codes "unknown label"
    else (if number == 4 then codes "label twice"
    else (if number == 5 then codes "no mutator"
    else (if number == 6 then codes "too many mutators"
    else (if number == 7 then codes "code too long"
    else (if number == 8 then codes "bad schedule"
    else (if number == 9 then codes "number too big"
    else codes ""))))))))

-- what is printed for an error
abbrev pub text_of_error : AsmError → List ℕ
text_of_error (Text number line) =
    codes "line " ++ decimal line ++ codes ": error " ++ decimal number ++ codes ": " ++ text_of_number number
text_of_error NoMemory = codes "out of memory"

-- an error of the text is its fault; want of memory tells nothing of it
abbrev pub NamesFault : List ℕ → AsmError → Type 0
NamesFault bytes (Text number line) = IsFault bytes number line
NamesFault bytes NoMemory = ⊤
