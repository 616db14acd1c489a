-- What a program is.
use Rattle.std.specs.Prelude.{ℕ, ◌≤◌, Bool, true, ◌&&◌, List, [], length, Option, slice_get, slice_index_or, nat_lt, nat_le, sum_by, IsTrue}
use Rattle.std.specs.List.{list_all}
use Rattle.plain_state.specs.declared.sizes.TheConstants.{LAST_WORKER, MOST_INSTRS, MOST_ITEMS, MOST_MUTATORS, NUMBERS, REGISTERS}
use Rattle.mutator_asm.specs.declared.instr.Instr.{Instr}
use Rattle.mutator_asm.specs.declared.instr.Instr.TheVariants.{Li, Mov, Add, Sub, Mul, Div, Rem, Lt, Eq, Jmp, Jz, Jal, Jr, New, Raw, Mix, Weak, Ld, St, Cas, Len, Isp, Get, Put, Swap, Out, Snap, Halt}
use Rattle.mutator_asm.specs.declared.item.Item.{Item}
use Rattle.mutator_asm.specs.declared.item.TheConstants.{TIMES_MAX}
use Rattle.mutator_asm.specs.declared.operand.Operand.{Operand}
use Rattle.mutator_asm.specs.declared.operand.Operand.TheVariants.{Reg, Number}

-- the instruction at a counter in a mutator's section, both counted from 0
abbrev pub instr_at : List (List Instr) → ℕ → ℕ → Option Instr
instr_at code mutator counter = slice_get (slice_index_or code mutator []) counter

-- the number of a register
abbrev pub is_register : ℕ → Bool
is_register r = nat_lt r REGISTERS

-- a number of the language
abbrev pub is_number : ℕ → Bool
is_number n = nat_lt n NUMBERS

-- an operand is one of the registers or a number
abbrev pub is_operand : Operand → Bool
is_operand (Reg r) = is_register r
is_operand (Number n) = is_number n

-- a jump's target is at most the number of instructions that a text may have
abbrev pub is_target : ℕ → Bool
is_target t = nat_le t MOST_INSTRS

-- each operand of an instruction is one that its place allows
abbrev pub is_valid : Instr → Bool
is_valid (Li d k) = is_register d && is_number k
is_valid (Mov d a) = is_register d && is_register a
is_valid (Add d a b) = is_register d && is_register a && is_register b
is_valid (Sub d a b) = is_register d && is_register a && is_register b
is_valid (Mul d a b) = is_register d && is_register a && is_register b
is_valid (Div d a b) = is_register d && is_register a && is_register b
is_valid (Rem d a b) = is_register d && is_register a && is_register b
is_valid (Lt d a b) = is_register d && is_register a && is_register b
is_valid (Eq d a b) = is_register d && is_register a && is_register b
is_valid (Jmp t) = is_target t
is_valid (Jz a t) = is_register a && is_target t
is_valid (Jal d t) = is_register d && is_target t
is_valid (Jr a) = is_register a
is_valid (New d x) = is_register d && is_operand x
is_valid (Raw d x) = is_register d && is_operand x
is_valid (Mix d f x) = is_register d && is_operand f && is_operand x
is_valid (Weak d a) = is_register d && is_register a
is_valid (Ld d a x) = is_register d && is_register a && is_operand x
is_valid (St a x b) = is_register a && is_operand x && is_register b
is_valid (Cas d a x b c) = is_register d && is_register a && is_operand x && is_register b && is_register c
is_valid (Len d a) = is_register d && is_register a
is_valid (Isp d a) = is_register d && is_register a
is_valid (Get d x) = is_register d && is_operand x
is_valid (Put x a) = is_operand x && is_register a
is_valid (Swap d x) = is_register d && is_operand x
is_valid (Out a) = is_register a
is_valid Snap = true
is_valid Halt = true

-- a jump in a section of n instructions leads to one of them or behind the last; of no other
-- instruction anything is asked
abbrev pub leads_within : ℕ → Instr → Bool
leads_within n (Jmp t) = nat_le t n
leads_within n (Jz a t) = nat_le t n
leads_within n (Jal d t) = nat_le t n
leads_within n _ = true

-- each jump of a section stays in it
abbrev pub is_closed : List Instr → Bool
is_closed section = list_all (leads_within (length section)) section

-- an item of a schedule names a worker that may be named, and 1 to 1,000,000 of its steps
abbrev pub is_item : Item → Bool
is_item i = nat_le i.worker LAST_WORKER && nat_le 1 i.times && nat_le i.times TIMES_MAX

-- what the program of any text is like
pub record IsWellFormed (code : List (List Instr)) (schedule : List Item) : Type 0 where
  pub a_section : 1 ≤ length code
  pub few_sections : length code ≤ MOST_MUTATORS
  pub few_instrs : sum_by length code ≤ MOST_INSTRS
  pub instrs : IsTrue (list_all (list_all is_valid) code)
  pub targets : IsTrue (list_all is_closed code)
  pub few_items : length schedule ≤ MOST_ITEMS
  pub items : IsTrue (list_all is_item schedule)
