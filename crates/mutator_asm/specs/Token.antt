-- The tokens of a line, and what one token says.
use Rattle.std.specs.Prelude.{ℕ, ◌-◌, Bool, not, ◌&&◌, ◌||◌, List, length, filter, take, Option, Some, None, Result, Ok, Err, nat_lt, nat_le, ◌==◌, if◌then◌else◌, slice_index}
use Rattle.std.specs.List.{slice_split, before_first, list_all}
use Rattle.std.specs.Char.{is_ascii_digit, is_ascii_alphabetic, is_ascii_alphanumeric}
use Rattle.std.specs.Str.Parse.{digits_value}
use Rattle.mutator_asm.specs.declared.mistake.Mistake.{Mistake}
use Rattle.mutator_asm.specs.declared.mistake.Mistake.TheVariants.{BadOperand, NumberTooBig}
use Rattle.mutator_asm.specs.declared.operand.Operand.{Operand}
use Rattle.mutator_asm.specs.declared.operand.Operand.TheVariants.{Reg, Number}
use Rattle.mutator_asm.specs.Program.{is_number}

-- space, tab and CR stand between tokens
abbrev pub is_blank : ℕ → Bool
is_blank b = (b == 32) || (b == 9) || (b == 13)

-- a semicolon starts a comment
abbrev pub is_semicolon : ℕ → Bool
is_semicolon b = b == 59

-- the tokens of a line: what stands between blanks, before a comment
unfoldable pub tokens_of : List ℕ → List (List ℕ)
tokens_of line = filter (λ t. not (length t == 0)) (slice_split is_blank (before_first is_semicolon line))

-- ---- names

-- a name begins with a letter or _
abbrev pub begins_name : ℕ → Bool
begins_name b = is_ascii_alphabetic b || (b == 95)

-- and goes on with letters, digits and _
abbrev pub is_in_name : ℕ → Bool
is_in_name b = is_ascii_alphanumeric b || (b == 95)

-- a token is a name; an empty one has 0 in its first place
abbrev pub is_name : List ℕ → Bool
is_name t = begins_name (slice_index t 0) && list_all is_in_name t

-- the name before a colon that ends a token
unfoldable pub label_of : List ℕ → Option (List ℕ)
label_of t =
    let name = take (length t - 1) t in
    if nat_lt 0 (length t) && (slice_index t (length t - 1) == 58) && is_name name then Some name else None

-- ---- registers and numbers

-- r and one of the digits 0 to 7
abbrev pub is_register_name : List ℕ → Bool
is_register_name t = (length t == 2) && (slice_index t 0 == 114) && nat_le 48 (slice_index t 1) && nat_le (slice_index t 1) 55

-- the register that a token names
unfoldable pub register_of : List ℕ → Result ℕ Mistake
register_of t = if is_register_name t then Ok (slice_index t 1 - 48) else Err BadOperand

-- one decimal digit or more
abbrev pub is_numeral : List ℕ → Bool
is_numeral t = not (length t == 0) && list_all is_ascii_digit t

-- the number that digits write, where it is below 2^62
abbrev pub number_or : List ℕ → Result ℕ Mistake
number_or digits = if is_number (digits_value 10 digits) then Ok (digits_value 10 digits) else Err NumberTooBig

-- the number that a token writes
unfoldable pub number_of : List ℕ → Result ℕ Mistake
number_of t = if is_numeral t then number_or t else Err BadOperand

-- a register where one was read, else a number
abbrev pub register_or : Result ℕ Mistake → Result ℕ Mistake → Result Operand Mistake
register_or (Ok r) number = Ok (Reg r)
register_or (Err e) (Ok n) = Ok (Number n)
register_or (Err e) (Err mistake) = Err mistake

-- the register or the number that a token is
abbrev pub operand_of : List ℕ → Result Operand Mistake
operand_of t = register_or (register_of t) (number_of t)
