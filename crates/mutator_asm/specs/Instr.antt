-- The instructions by their names, and what stands behind a name.
use Rattle.std.specs.Prelude.{ℕ, List, [], ◌∷◌, Result, Ok, Err, if◌then◌else◌, codes}
use Rattle.std.specs.Str.{bytes_eq}
use Rattle.mutator_asm.specs.declared.instr.Instr.{Instr}
use Rattle.mutator_asm.specs.declared.instr.Instr.TheVariants.{Li, Mov, Add, Sub, Mul, Div, Rem, Lt, Eq, Jmp, Jz, Jal, Jr, New, Raw, Mix, Weak, Ld, St, Cas, Len, Isp, Get, Put, Swap, Out, Snap, Halt}
use Rattle.mutator_asm.specs.declared.jump.Jump.{Jump}
use Rattle.mutator_asm.specs.declared.jump.Jump.TheVariants.{Always, IfZero, Link}
use Rattle.mutator_asm.specs.declared.mistake.Mistake.{Mistake}
use Rattle.mutator_asm.specs.declared.mistake.Mistake.TheVariants.{UnknownInstr, BadOperand, NumberTooBig}
use Rattle.mutator_asm.specs.declared.operand.Operand.{Operand}
use Rattle.mutator_asm.specs.Token.{register_of, number_of, operand_of}

-- go on with what was read, or keep what is wrong
infixl 10 ◌>>=◌
abbrev pub ◌>>=◌ : {A B : Type 0} → Result A Mistake → (A → Result B Mistake) → Result B Mistake
(Ok x) >>= f = f x
(Err mistake) >>= f = Err mistake

-- make something of what was read, or keep what is wrong
abbrev pub made : {A B : Type 0} → (A → B) → Result A Mistake → Result B Mistake
made f (Ok x) = Ok (f x)
made f (Err mistake) = Err mistake

-- ---- operands, by their kinds; registers are read before the one that may be a number, which may be too big

-- none
abbrev pub nothing : List (List ℕ) → Result (Unit {0}) Mistake
nothing [] = Ok tt
nothing _ = Err BadOperand

-- ra
abbrev pub one_register : List (List ℕ) → Result ℕ Mistake
one_register (a ∷ []) = register_of a
one_register _ = Err BadOperand

-- rd ra
abbrev pub two_registers : List (List ℕ) → Result (ℕ × ℕ) Mistake
two_registers (d ∷ a ∷ []) = do
  d ← register_of d
  a ← register_of a
  Ok (d, a)
two_registers _ = Err BadOperand

-- rd ra rb
abbrev pub three_registers : List (List ℕ) → Result (ℕ × ℕ × ℕ) Mistake
three_registers (d ∷ a ∷ b ∷ []) = do
  d ← register_of d
  a ← register_of a
  b ← register_of b
  Ok (d, a, b)
three_registers _ = Err BadOperand

-- rd k
abbrev pub register_number : List (List ℕ) → Result (ℕ × ℕ) Mistake
register_number (d ∷ k ∷ []) = do
  d ← register_of d
  k ← number_of k
  Ok (d, k)
register_number _ = Err BadOperand

-- rd x
abbrev pub register_operand : List (List ℕ) → Result (ℕ × Operand) Mistake
register_operand (d ∷ x ∷ []) = do
  d ← register_of d
  x ← operand_of x
  Ok (d, x)
register_operand _ = Err BadOperand

-- x ra
abbrev pub operand_register : List (List ℕ) → Result (Operand × ℕ) Mistake
operand_register (x ∷ a ∷ []) = do
  a ← register_of a
  x ← operand_of x
  Ok (x, a)
operand_register _ = Err BadOperand

-- rd ra x
abbrev pub two_registers_operand : List (List ℕ) → Result (ℕ × ℕ × Operand) Mistake
two_registers_operand (d ∷ a ∷ x ∷ []) = do
  d ← register_of d
  a ← register_of a
  x ← operand_of x
  Ok (d, a, x)
two_registers_operand _ = Err BadOperand

-- two operands; one that is none counts before a number that is too big
abbrev pub both : Result Operand Mistake → Result Operand Mistake → Result (Operand × Operand) Mistake
both (Ok x) (Ok y) = Ok (x, y)
both (Ok x) (Err mistake) = Err mistake
both (Err NumberTooBig) (Err mistake) = Err mistake
both (Err mistake) y = Err mistake

-- rd x y
abbrev pub register_two_operands : List (List ℕ) → Result (ℕ × Operand × Operand) Mistake
register_two_operands (d ∷ x ∷ y ∷ []) = do
  d ← register_of d
  two ← both (operand_of x) (operand_of y)
  Ok (d, two.0, two.1)
register_two_operands _ = Err BadOperand

-- ra x rb
abbrev pub register_operand_register : List (List ℕ) → Result (ℕ × Operand × ℕ) Mistake
register_operand_register (a ∷ x ∷ b ∷ []) = do
  a ← register_of a
  b ← register_of b
  x ← operand_of x
  Ok (a, x, b)
register_operand_register _ = Err BadOperand

-- rd ra x rb rc
abbrev pub registers_operand_registers : List (List ℕ) → Result (ℕ × ℕ × Operand × ℕ × ℕ) Mistake
registers_operand_registers (d ∷ a ∷ x ∷ b ∷ c ∷ []) = do
  d ← register_of d
  a ← register_of a
  b ← register_of b
  c ← register_of c
  x ← operand_of x
  Ok (d, a, x, b, c)
registers_operand_registers _ = Err BadOperand

-- ---- instructions

-- a jump to an instruction
abbrev pub jump_to : Jump → ℕ → Instr
jump_to Always target = Jmp target
jump_to (IfZero a) target = Jz a target
jump_to (Link d) target = Jal d target

-- the instruction of a name, with these operands; the jumps to a label are apart
unfoldable pub instr_of : List ℕ → List (List ℕ) → Result Instr Mistake
instr_of name operands =
    if bytes_eq name (codes "li") then made (λ o. Li o.0 o.1) (register_number operands)
    else (if bytes_eq name (codes "mov") then made (λ o. Mov o.0 o.1) (two_registers operands)
    else (if bytes_eq name (codes "add") then made (λ o. Add o.0 o.1 o.2) (three_registers operands)
    else (if bytes_eq name (codes "sub") then made (λ o. Sub o.0 o.1 o.2) (three_registers operands)
    else (if bytes_eq name (codes "mul") then made (λ o. Mul o.0 o.1 o.2) (three_registers operands)
    else (if bytes_eq name (codes "div") then made (λ o. Div o.0 o.1 o.2) (three_registers operands)
    else (if bytes_eq name (codes "rem") then made (λ o. Rem o.0 o.1 o.2) (three_registers operands)
    else (if bytes_eq name (codes "lt") then made (λ o. Lt o.0 o.1 o.2) (three_registers operands)
    else (if bytes_eq name (codes "eq") then made (λ o. Eq o.0 o.1 o.2) (three_registers operands)
    else (if bytes_eq name (codes "jr") then made Jr (one_register operands)
    else (if bytes_eq name (codes "new") then made (λ o. New o.0 o.1) (register_operand operands)
    else (if bytes_eq name (codes "raw") then made (λ o. Raw o.0 o.1) (register_operand operands)
    else (if bytes_eq name (codes "mix") then made (λ o. Mix o.0 o.1 o.2) (register_two_operands operands)
    else (if bytes_eq name (codes "weak") then made (λ o. Weak o.0 o.1) (two_registers operands)
    else (if bytes_eq name (codes "ld") then made (λ o. Ld o.0 o.1 o.2) (two_registers_operand operands)
    else (if bytes_eq name (codes "st") then made (λ o. St o.0 o.1 o.2) (register_operand_register operands)
    else (if bytes_eq name (codes "cas") then made (λ o. Cas o.0 o.1 o.2 o.3 o.4) (registers_operand_registers operands)
    else (if bytes_eq name (codes "len") then made (λ o. Len o.0 o.1) (two_registers operands)
    else (if bytes_eq name (codes "isp") then made (λ o. Isp o.0 o.1) (two_registers operands)
    else (if bytes_eq name (codes "get") then made (λ o. Get o.0 o.1) (register_operand operands)
    else (if bytes_eq name (codes "put") then made (λ o. Put o.0 o.1) (operand_register operands)
    else (if bytes_eq name (codes "swap") then made (λ o. Swap o.0 o.1) (register_operand operands)
    else (if bytes_eq name (codes "out") then made Out (one_register operands)
    else (if bytes_eq name (codes "snap") then made (λ o. Snap) (nothing operands)
    else (if bytes_eq name (codes "halt") then made (λ o. Halt) (nothing operands)
    else Err UnknownInstr))))))))))))))))))))))))
