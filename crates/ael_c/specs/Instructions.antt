-- The instructions that C can name, by numbers.
use Rattle.std.specs.Prelude.{ℕ, ◌-◌, List, [], ◌∷◌, Option, nat_lt, slice_get, if◌then◌else◌}
use Rattle.plain_state.specs.declared.sizes.TheConstants.{NUMBERS}
use Rattle.mutator_asm.specs.declared.instr.Instr.{Instr}
use Rattle.mutator_asm.specs.declared.instr.Instr.TheVariants as instrs
use Rattle.mutator_asm.specs.declared.operand.Operand.{Operand}
use Rattle.mutator_asm.specs.declared.operand.Operand.TheVariants.{Number, Reg}

-- the register of this number; no instruction with a register above 7 is made
abbrev pub register : ℕ → ℕ
register n = if nat_lt n 256 then n else 255

-- a number, or from 2^62 on a register
abbrev pub operand : ℕ → Operand
operand n = if nat_lt n NUMBERS then Number n else Reg (register (n - NUMBERS))

-- each at the place of its number, with these operands in the order of the language
abbrev pub instructions : (a b c d e : ℕ) → List Instr
instructions a b c d e =
    instrs.Li (register a) b
    ∷ instrs.Mov (register a) (register b)
    ∷ instrs.Add (register a) (register b) (register c)
    ∷ instrs.Sub (register a) (register b) (register c)
    ∷ instrs.Mul (register a) (register b) (register c)
    ∷ instrs.Div (register a) (register b) (register c)
    ∷ instrs.Rem (register a) (register b) (register c)
    ∷ instrs.Lt (register a) (register b) (register c)
    ∷ instrs.Eq (register a) (register b) (register c)
    ∷ instrs.New (register a) (operand b)
    ∷ instrs.Raw (register a) (operand b)
    ∷ instrs.Mix (register a) (operand b) (operand c)
    ∷ instrs.Weak (register a) (register b)
    ∷ instrs.Ld (register a) (register b) (operand c)
    ∷ instrs.St (register a) (operand b) (register c)
    ∷ instrs.Cas (register a) (register b) (operand c) (register d) (register e)
    ∷ instrs.Len (register a) (register b)
    ∷ instrs.Isp (register a) (register b)
    ∷ instrs.Get (register a) (operand b)
    ∷ instrs.Put (operand a) (register b)
    ∷ instrs.Swap (register a) (operand b)
    ∷ []

-- the one with this number, if there is one
abbrev pub instruction_of : (op a b c d e : ℕ) → Option Instr
instruction_of op a b c d e = slice_get (instructions a b c d e) op
