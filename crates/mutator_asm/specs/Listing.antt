-- The listing of a program: the one text of it that `list` of `program_text` writes.
use Rattle.std.specs.Prelude.{ℕ, ◌+◌, Bool, false, List, [], ◌∷◌, ◌++◌, length, map, Option, Some, None, ◌==◌, if◌then◌else◌, codes, decimal}
use Rattle.std.specs.Option.{option_map_or}
use Rattle.std.specs.List.{flat_map, join_with_byte, list_any}
use Rattle.mutator_asm.specs.declared.instr.Instr.{Instr}
use Rattle.mutator_asm.specs.declared.instr.Instr.TheVariants.{Li, Mov, Add, Sub, Mul, Div, Rem, Lt, Eq, Jmp, Jz, Jal, Jr, New, Raw, Mix, Weak, Ld, St, Cas, Len, Isp, Get, Put, Swap, Out, Snap, Halt}
use Rattle.mutator_asm.specs.declared.item.Item.{Item}
use Rattle.mutator_asm.specs.declared.operand.Operand.{Operand}
use Rattle.mutator_asm.specs.declared.operand.Operand.TheVariants.{Reg, Number}

-- ---- the targets of jumps

-- the number in its section that a jump to a label leads to; none for other instructions, `jr` too
abbrev pub jump_target : Instr → Option ℕ
jump_target (Jmp t) = Some t
jump_target (Jz a t) = Some t
jump_target (Jal d t) = Some t
jump_target _ = None

-- an instruction is a jump to a label that stands for number k
abbrev pub leads_to : ℕ → Instr → Bool
leads_to k instr = option_map_or (λ t. t == k) (jump_target instr) false

-- a jump to a label of the section leads to number k
abbrev pub is_target_in : List Instr → ℕ → Bool
is_target_in section k = list_any (leads_to k) section

-- ---- tokens, numbers being decimal without leading zeros

-- a register: r and its number
abbrev pub register_token : ℕ → List ℕ
register_token r = codes "r" ++ decimal r

-- an operand that is a register or a number
abbrev pub operand_token : Operand → List ℕ
operand_token (Reg r) = register_token r
operand_token (Number n) = decimal n

-- the label of number k of a section: L and the number
abbrev pub label_name : ℕ → List ℕ
label_name k = codes "L" ++ decimal k

-- an item of the schedule: w where the worker makes one step, else w*k
abbrev pub item_token : Item → List ℕ
item_token item = if item.times == 1 then decimal item.worker else decimal item.worker ++ codes "*" ++ decimal item.times

-- an instruction: its name and its operands
abbrev pub instr_tokens : Instr → List (List ℕ)
instr_tokens (Li d k) = codes "li" ∷ register_token d ∷ decimal k ∷ []
instr_tokens (Mov d a) = codes "mov" ∷ register_token d ∷ register_token a ∷ []
instr_tokens (Add d a b) = codes "add" ∷ register_token d ∷ register_token a ∷ register_token b ∷ []
instr_tokens (Sub d a b) = codes "sub" ∷ register_token d ∷ register_token a ∷ register_token b ∷ []
instr_tokens (Mul d a b) = codes "mul" ∷ register_token d ∷ register_token a ∷ register_token b ∷ []
instr_tokens (Div d a b) = codes "div" ∷ register_token d ∷ register_token a ∷ register_token b ∷ []
instr_tokens (Rem d a b) = codes "rem" ∷ register_token d ∷ register_token a ∷ register_token b ∷ []
instr_tokens (Lt d a b) = codes "lt" ∷ register_token d ∷ register_token a ∷ register_token b ∷ []
instr_tokens (Eq d a b) = codes "eq" ∷ register_token d ∷ register_token a ∷ register_token b ∷ []
instr_tokens (Jmp t) = codes "jmp" ∷ label_name t ∷ []
instr_tokens (Jz a t) = codes "jz" ∷ register_token a ∷ label_name t ∷ []
instr_tokens (Jal d t) = codes "jal" ∷ register_token d ∷ label_name t ∷ []
instr_tokens (Jr a) = codes "jr" ∷ register_token a ∷ []
instr_tokens (New d x) = codes "new" ∷ register_token d ∷ operand_token x ∷ []
instr_tokens (Raw d x) = codes "raw" ∷ register_token d ∷ operand_token x ∷ []
instr_tokens (Mix d f x) = codes "mix" ∷ register_token d ∷ operand_token f ∷ operand_token x ∷ []
instr_tokens (Weak d a) = codes "weak" ∷ register_token d ∷ register_token a ∷ []
instr_tokens (Ld d a x) = codes "ld" ∷ register_token d ∷ register_token a ∷ operand_token x ∷ []
instr_tokens (St a x b) = codes "st" ∷ register_token a ∷ operand_token x ∷ register_token b ∷ []
instr_tokens (Cas d a x b c) = codes "cas" ∷ register_token d ∷ register_token a ∷ operand_token x ∷ register_token b ∷ register_token c ∷ []
instr_tokens (Len d a) = codes "len" ∷ register_token d ∷ register_token a ∷ []
instr_tokens (Isp d a) = codes "isp" ∷ register_token d ∷ register_token a ∷ []
instr_tokens (Get d x) = codes "get" ∷ register_token d ∷ operand_token x ∷ []
instr_tokens (Put x a) = codes "put" ∷ operand_token x ∷ register_token a ∷ []
instr_tokens (Swap d x) = codes "swap" ∷ register_token d ∷ operand_token x ∷ []
instr_tokens (Out a) = codes "out" ∷ register_token a ∷ []
instr_tokens Snap = codes "snap" ∷ []
instr_tokens Halt = codes "halt" ∷ []

-- ---- lines, each by its tokens

-- a label where it stands: its name and a colon
abbrev pub label_token : ℕ → List ℕ
label_token k = label_name k ++ codes ":"

-- the label of number k, where it is wanted
abbrev pub label_if : Bool → ℕ → List (List ℕ)
label_if wanted k = if wanted then label_token k ∷ [] else []

-- the label of number k of a section, where a jump of it leads there
abbrev pub label_at : List Instr → ℕ → List (List ℕ)
label_at section k = label_if (is_target_in section k) k

-- a line with the label of number k alone, where it is wanted
abbrev pub end_if : Bool → ℕ → List (List (List ℕ))
end_if wanted k = if wanted then (label_token k ∷ []) ∷ [] else []

-- a line for each of these instructions, which are those of a section from number k on
abbrev pub instr_lines : List Instr → ℕ → List Instr → List (List (List ℕ))
instr_lines section k [] = []
instr_lines section k (instr ∷ instrs) = (label_at section k ++ instr_tokens instr) ∷ instr_lines section (k + 1) instrs

-- a line with a label alone, where a jump of the section leads behind its last instruction
abbrev pub end_lines : List Instr → List (List (List ℕ))
end_lines section = end_if (is_target_in section (length section)) (length section)

-- the lines of a mutator's section: .mutator, its instructions, and the label behind the last, where
-- one is wanted
abbrev pub section_lines : List Instr → List (List (List ℕ))
section_lines section = (codes ".mutator" ∷ []) ∷ instr_lines section 0 section ++ end_lines section

-- one line with all items of the schedule, or none where there are no items
abbrev pub schedule_lines : List Item → List (List (List ℕ))
schedule_lines [] = []
schedule_lines (item ∷ items) = (codes ".schedule" ∷ map item_token (item ∷ items)) ∷ []

-- ---- the text

-- tokens with one space between each two
abbrev pub spaced : List (List ℕ) → List ℕ
spaced tokens = join_with_byte 32 tokens

-- a line, which ends with LF
abbrev pub line_text : List (List ℕ) → List ℕ
line_text tokens = spaced tokens ++ codes "\n"

-- the listing: the schedule, and then the section of each mutator
unfoldable pub listing : List (List Instr) → List Item → List ℕ
listing code schedule = flat_map line_text (schedule_lines schedule ++ flat_map section_lines code)
