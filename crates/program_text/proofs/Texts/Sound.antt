-- What is read of a line has registers, numbers and operands of the language.
use Rattle.std.proofs.Common.{◌≡◌, ◌⊎◌, inl, inr, ℕ, ◌-◌, Bool, true, false, ◌&&◌, List, [], ◌∷◌, map, Option, Some, None, Result, Ok, Err, get_or, eqb, leb, refl, arith}
use Rattle.std.specs.List.{list_all, list_any, filter_map, cons_option, before_first, after_first, slice_split}
use Rattle.std.specs.Str.{bytes_eq}
use Rattle.std.specs.Str.Parse.{digits_value}
use Rattle.std.specs.Prelude.{codes}
use Rattle.std.proofs.lemmas.Bool.{and_parts, and_from, cond_both, lt-ltb, leb-true}
use Rattle.plain_state.specs.declared.sizes.TheConstants.{LAST_WORKER}
use Rattle.mutator_asm.specs.declared.item.TheConstants.{TIMES_MAX}
use Rattle.mutator_asm.specs.declared.instr.Instr.{Instr}
use Rattle.mutator_asm.specs.declared.instr.Instr.TheVariants.{Li, Mov, Add, Sub, Mul, Div, Rem, Lt, Eq, Jmp, Jz, Jal, Jr, New, Raw, Mix, Weak, Ld, St, Cas, Len, Isp, Get, Put, Swap, Out, Snap, Halt}
use Rattle.mutator_asm.specs.declared.jump.Jump.{Jump}
use Rattle.mutator_asm.specs.declared.jump.Jump.TheVariants.{Always, IfZero, Link}
use Rattle.mutator_asm.specs.declared.item.Item.{Item}
use Rattle.mutator_asm.specs.declared.mistake.Mistake.{Mistake}
use Rattle.mutator_asm.specs.declared.mistake.Mistake.TheVariants.{BadOperand, BadSchedule, NumberTooBig}
use Rattle.mutator_asm.specs.declared.operand.Operand.{Operand}
use Rattle.mutator_asm.specs.Program.{is_register, is_number, is_operand, is_item, is_valid}
use Rattle.mutator_asm.specs.Token.{is_register_name, is_numeral, register_of, number_of, number_or, operand_of, is_name, label_of, tokens_of}
use Rattle.mutator_asm.specs.Instr.{made, nothing, one_register, two_registers, three_registers, register_number, register_operand, operand_register, two_registers_operand, both, register_two_operands, register_operand_register, registers_operand_registers, instr_of}
use Rattle.mutator_asm.specs.Line.{Word, Schedules, Does, Jumps, Bad, Line, unlabelled, jump_of, register_jump_of, jz_of, jal_of, does_or, named_of, labelled_of, begins_of, schedules_of, line_with, line_from, line_of, lines_of}
use Rattle.mutator_asm.specs.Item.{is_star, within, worker_item, times_of, item_from, item_of}
use Rattle.mutator_asm.proofs.Lists.Tests.{if_passes}

-- what was read passes the test
abbrev pub good : {A : Type 0} → (A → Bool) → Result A Mistake → Bool
good p (Ok x) = p x
good p (Err mistake) = true

-- an instruction is no jump to a target
abbrev pub is_plain : Instr → Bool
is_plain (Jmp t) = false
is_plain (Jz a t) = false
is_plain (Jal d t) = false
is_plain _ = true

-- and one that a line can have
abbrev pub is_plain_valid : Instr → Bool
is_plain_valid instr = is_plain instr && is_valid instr

-- the register of a jump is one
abbrev pub is_jump_valid : Jump → Bool
is_jump_valid Always = true
is_jump_valid (IfZero a) = is_register a
is_jump_valid (Link d) = is_register d

-- what a word has is of the language
abbrev pub is_sound : Word → Bool
is_sound (Schedules items) = list_all is_item items
is_sound (Does instr) = is_plain_valid instr
is_sound (Jumps jump label) = is_jump_valid jump
is_sound _ = true

-- so is what a line has
abbrev pub is_sound_line : Line → Bool
is_sound_line line = is_sound line.word

-- ---- tokens

last_register : (x : ℕ) → leb x 55 ≡ true → is_register (x - 48) ≡ true
last_register x h = lt-ltb (x - 48) 8 (omega (arith, leb-true x 55 h))

register_good : (t : List ℕ) → good is_register (register_of t) ≡ true
unfolding register_of
register_good t = cond_both (is_register_name t) (Ok (get_or t 1 0 - 48)) (Err BadOperand) (λ r. good is_register r ≡ true) (λ e. last_register (get_or t 1 0) (and_parts _ _ e).1) (λ e. refl)

number_good : (t : List ℕ) → good is_number (number_of t) ≡ true
unfolding number_of
number_good t =
    let n = digits_value 10 t in
    if_passes (good is_number) (is_numeral t) (number_or t) (Err BadOperand) (cond_both (is_number n) (Ok n) (Err NumberTooBig) (λ r. good is_number r ≡ true) (λ e. e) (λ e. refl)) refl

cases_read : {A : Type 0} (r : Result A Mistake) → ((x : A) × (r ≡ Ok x)) ⊎ ((mistake : Mistake) × (r ≡ Err mistake))
cases_read (Ok x) = inl (x, refl)
cases_read (Err mistake) = inr (mistake, refl)

operand_good : (t : List ℕ) → good is_operand (operand_of t) ≡ true
operand_good t = grind (arith, cases_read, register_good t, number_good t)

-- ---- operands

made_good : {A B : Type 0} (q : B → Bool) (f : A → B) (r : Result A Mistake) → good (λ x. q (f x)) r ≡ true → good q (made f r) ≡ true
made_good q f (Ok x) h = h
made_good q f (Err mistake) h = refl

nothing_good : (operands : List (List ℕ)) → good (λ o. true) (nothing operands) ≡ true
nothing_good [] = refl
nothing_good (more ∷ others) = refl

one_good : (operands : List (List ℕ)) → good is_register (one_register operands) ≡ true
one_good (a ∷ []) = register_good a
one_good _ = refl

two_good : (operands : List (List ℕ)) → good (λ o. is_register o.0 && is_register o.1) (two_registers operands) ≡ true
two_good (d ∷ a ∷ []) = grind (arith, cases_read, register_good d, register_good a)
two_good _ = refl

three_good : (operands : List (List ℕ)) → good (λ o. is_register o.0 && is_register o.1 && is_register o.2) (three_registers operands) ≡ true
three_good (d ∷ a ∷ b ∷ []) = grind (arith, cases_read, register_good d, register_good a, register_good b)
three_good _ = refl

register_number_good : (operands : List (List ℕ)) → good (λ o. is_register o.0 && is_number o.1) (register_number operands) ≡ true
register_number_good (d ∷ k ∷ []) = grind (arith, cases_read, register_good d, number_good k)
register_number_good _ = refl

register_operand_good : (operands : List (List ℕ)) → good (λ o. is_register o.0 && is_operand o.1) (register_operand operands) ≡ true
register_operand_good (d ∷ x ∷ []) = grind (arith, cases_read, register_good d, operand_good x)
register_operand_good _ = refl

operand_register_good : (operands : List (List ℕ)) → good (λ o. is_operand o.0 && is_register o.1) (operand_register operands) ≡ true
operand_register_good (x ∷ a ∷ []) = grind (arith, cases_read, operand_good x, register_good a)
operand_register_good _ = refl

two_registers_operand_good : (operands : List (List ℕ)) → good (λ o. is_register o.0 && is_register o.1 && is_operand o.2) (two_registers_operand operands) ≡ true
two_registers_operand_good (d ∷ a ∷ x ∷ []) = grind (arith, cases_read, register_good d, register_good a, operand_good x)
two_registers_operand_good _ = refl

both_good : (x y : Result Operand Mistake) → good is_operand x ≡ true → good is_operand y ≡ true → good (λ o. is_operand o.0 && is_operand o.1) (both x y) ≡ true
both_good (Ok x) (Ok y) h k = and_from _ _ h k
both_good (Ok x) (Err mistake) h k = refl
both_good (Err NumberTooBig) (Err mistake) h k = refl
both_good (Err mistake) y h k = grind arith

register_two_operands_good : (operands : List (List ℕ)) → good (λ o. is_register o.0 && is_operand o.1 && is_operand o.2) (register_two_operands operands) ≡ true
register_two_operands_good (d ∷ x ∷ y ∷ []) = grind (arith, cases_read, register_good d, both_good (operand_of x) (operand_of y) (operand_good x) (operand_good y))
register_two_operands_good _ = refl

register_operand_register_good : (operands : List (List ℕ)) → good (λ o. is_register o.0 && is_operand o.1 && is_register o.2) (register_operand_register operands) ≡ true
register_operand_register_good (a ∷ x ∷ b ∷ []) = grind (arith, cases_read, register_good a, operand_good x, register_good b)
register_operand_register_good _ = refl

registers_operand_registers_good : (operands : List (List ℕ)) → good (λ o. is_register o.0 && is_register o.1 && is_operand o.2 && is_register o.3 && is_register o.4) (registers_operand_registers operands) ≡ true
registers_operand_registers_good (d ∷ a ∷ x ∷ b ∷ c ∷ []) = grind (arith, cases_read, register_good d, register_good a, operand_good x, register_good b, register_good c)
registers_operand_registers_good _ = refl

-- ---- instructions

instr_good : (name : List ℕ) (operands : List (List ℕ)) → good is_plain_valid (instr_of name operands) ≡ true
unfolding instr_of
instr_good name operands =
    if_passes (good is_plain_valid) (bytes_eq name (codes "li")) _ _ (made_good is_plain_valid (λ (o : ℕ × ℕ). Li o.0 o.1) (register_number operands) (register_number_good operands))
    (if_passes (good is_plain_valid) (bytes_eq name (codes "mov")) _ _ (made_good is_plain_valid (λ (o : ℕ × ℕ). Mov o.0 o.1) (two_registers operands) (two_good operands))
    (if_passes (good is_plain_valid) (bytes_eq name (codes "add")) _ _ (made_good is_plain_valid (λ (o : ℕ × ℕ × ℕ). Add o.0 o.1 o.2) (three_registers operands) (three_good operands))
    (if_passes (good is_plain_valid) (bytes_eq name (codes "sub")) _ _ (made_good is_plain_valid (λ (o : ℕ × ℕ × ℕ). Sub o.0 o.1 o.2) (three_registers operands) (three_good operands))
    (if_passes (good is_plain_valid) (bytes_eq name (codes "mul")) _ _ (made_good is_plain_valid (λ (o : ℕ × ℕ × ℕ). Mul o.0 o.1 o.2) (three_registers operands) (three_good operands))
    (if_passes (good is_plain_valid) (bytes_eq name (codes "div")) _ _ (made_good is_plain_valid (λ (o : ℕ × ℕ × ℕ). Div o.0 o.1 o.2) (three_registers operands) (three_good operands))
    (if_passes (good is_plain_valid) (bytes_eq name (codes "rem")) _ _ (made_good is_plain_valid (λ (o : ℕ × ℕ × ℕ). Rem o.0 o.1 o.2) (three_registers operands) (three_good operands))
    (if_passes (good is_plain_valid) (bytes_eq name (codes "lt")) _ _ (made_good is_plain_valid (λ (o : ℕ × ℕ × ℕ). Lt o.0 o.1 o.2) (three_registers operands) (three_good operands))
    (if_passes (good is_plain_valid) (bytes_eq name (codes "eq")) _ _ (made_good is_plain_valid (λ (o : ℕ × ℕ × ℕ). Eq o.0 o.1 o.2) (three_registers operands) (three_good operands))
    (if_passes (good is_plain_valid) (bytes_eq name (codes "jr")) _ _ (made_good is_plain_valid (λ (o : ℕ). Jr o) (one_register operands) (one_good operands))
    (if_passes (good is_plain_valid) (bytes_eq name (codes "new")) _ _ (made_good is_plain_valid (λ (o : ℕ × Operand). New o.0 o.1) (register_operand operands) (register_operand_good operands))
    (if_passes (good is_plain_valid) (bytes_eq name (codes "raw")) _ _ (made_good is_plain_valid (λ (o : ℕ × Operand). Raw o.0 o.1) (register_operand operands) (register_operand_good operands))
    (if_passes (good is_plain_valid) (bytes_eq name (codes "mix")) _ _ (made_good is_plain_valid (λ (o : ℕ × Operand × Operand). Mix o.0 o.1 o.2) (register_two_operands operands) (register_two_operands_good operands))
    (if_passes (good is_plain_valid) (bytes_eq name (codes "weak")) _ _ (made_good is_plain_valid (λ (o : ℕ × ℕ). Weak o.0 o.1) (two_registers operands) (two_good operands))
    (if_passes (good is_plain_valid) (bytes_eq name (codes "ld")) _ _ (made_good is_plain_valid (λ (o : ℕ × ℕ × Operand). Ld o.0 o.1 o.2) (two_registers_operand operands) (two_registers_operand_good operands))
    (if_passes (good is_plain_valid) (bytes_eq name (codes "st")) _ _ (made_good is_plain_valid (λ (o : ℕ × Operand × ℕ). St o.0 o.1 o.2) (register_operand_register operands) (register_operand_register_good operands))
    (if_passes (good is_plain_valid) (bytes_eq name (codes "cas")) _ _ (made_good is_plain_valid (λ (o : ℕ × ℕ × Operand × ℕ × ℕ). Cas o.0 o.1 o.2 o.3 o.4) (registers_operand_registers operands) (registers_operand_registers_good operands))
    (if_passes (good is_plain_valid) (bytes_eq name (codes "len")) _ _ (made_good is_plain_valid (λ (o : ℕ × ℕ). Len o.0 o.1) (two_registers operands) (two_good operands))
    (if_passes (good is_plain_valid) (bytes_eq name (codes "isp")) _ _ (made_good is_plain_valid (λ (o : ℕ × ℕ). Isp o.0 o.1) (two_registers operands) (two_good operands))
    (if_passes (good is_plain_valid) (bytes_eq name (codes "get")) _ _ (made_good is_plain_valid (λ (o : ℕ × Operand). Get o.0 o.1) (register_operand operands) (register_operand_good operands))
    (if_passes (good is_plain_valid) (bytes_eq name (codes "put")) _ _ (made_good is_plain_valid (λ (o : Operand × ℕ). Put o.0 o.1) (operand_register operands) (operand_register_good operands))
    (if_passes (good is_plain_valid) (bytes_eq name (codes "swap")) _ _ (made_good is_plain_valid (λ (o : ℕ × Operand). Swap o.0 o.1) (register_operand operands) (register_operand_good operands))
    (if_passes (good is_plain_valid) (bytes_eq name (codes "out")) _ _ (made_good is_plain_valid (λ (o : ℕ). Out o) (one_register operands) (one_good operands))
    (if_passes (good is_plain_valid) (bytes_eq name (codes "snap")) _ _ (made_good is_plain_valid (λ (o : Unit {0}). Snap) (nothing operands) (nothing_good operands))
    (if_passes (good is_plain_valid) (bytes_eq name (codes "halt")) _ _ (made_good is_plain_valid (λ (o : Unit {0}). Halt) (nothing operands) (nothing_good operands)) refl))))))))))))))))))))))))

-- ---- jumps

jump_sound : (jump : Jump) (labels : List (List ℕ)) → is_jump_valid jump ≡ true → is_sound (jump_of jump labels) ≡ true
jump_sound jump (label ∷ []) h = if_passes is_sound (is_name label) (Jumps jump label) (Bad BadOperand) h refl
jump_sound jump _ h = refl

register_jump_sound : (read : Result Jump Mistake) (labels : List (List ℕ)) → good is_jump_valid read ≡ true → is_sound (register_jump_of read labels) ≡ true
register_jump_sound (Ok jump) labels h = jump_sound jump labels h
register_jump_sound (Err mistake) labels h = refl

jz_sound : (operands : List (List ℕ)) → is_sound (jz_of operands) ≡ true
jz_sound [] = refl
jz_sound (a ∷ labels) = register_jump_sound (made IfZero (register_of a)) labels (made_good is_jump_valid IfZero (register_of a) (register_good a))

jal_sound : (operands : List (List ℕ)) → is_sound (jal_of operands) ≡ true
jal_sound [] = refl
jal_sound (d ∷ labels) = register_jump_sound (made Link (register_of d)) labels (made_good is_jump_valid Link (register_of d) (register_good d))

does_sound : (r : Result Instr Mistake) → good is_plain_valid r ≡ true → is_sound (does_or r) ≡ true
does_sound (Ok instr) h = h
does_sound (Err mistake) h = refl

named_sound : (name : List ℕ) (operands : List (List ℕ)) → is_sound (named_of name operands) ≡ true
unfolding named_of
named_sound name operands =
    if_passes is_sound (bytes_eq name (codes "jmp")) _ _ (jump_sound Always operands refl)
    (if_passes is_sound (bytes_eq name (codes "jz")) _ _ (jz_sound operands)
    (if_passes is_sound (bytes_eq name (codes "jal")) _ _ (jal_sound operands) (does_sound (instr_of name operands) (instr_good name operands))))

labelled_sound : (tokens : List (List ℕ)) → is_sound (labelled_of tokens) ≡ true
labelled_sound [] = refl
labelled_sound (name ∷ operands) = named_sound name operands

-- ---- schedules

-- what was read, where there is one, passes the test
abbrev good_some : {A : Type 0} → (A → Bool) → Option A → Bool
good_some p None = true
good_some p (Some x) = p x

within_good : (low high : ℕ) (r : Result ℕ Mistake) → good_some (λ n. leb low n && leb n high) (within low high r) ≡ true
within_good low high (Ok n) = cond_both (leb low n && leb n high) (Some n) None (λ o. good_some (λ m. leb low m && leb m high) o ≡ true) (λ e. e) (λ e. refl)
within_good low high (Err mistake) = refl

item_good : (worker times : Option ℕ) → good_some (λ n. leb 0 n && leb n LAST_WORKER) worker ≡ true → good_some (λ n. leb 1 n && leb n TIMES_MAX) times ≡ true → good_some is_item (item_from worker times) ≡ true
item_good (Some worker) (Some times) h k =
    let few = and_parts (leb 0 worker) (leb worker LAST_WORKER) h in
    let room = and_parts (leb 1 times) (leb times TIMES_MAX) k in
    and_from _ _ (and_from _ _ few.1 room.0) room.1
item_good _ _ h k = refl

item_sound : (t : List ℕ) → good_some is_item (item_of t) ≡ true
unfolding item_of
item_sound t =
    if_passes (good_some is_item) (list_any is_star t) _ _
    (item_good (worker_item (before_first is_star t)) (times_of (after_first is_star t)) (within_good 0 LAST_WORKER (number_of (before_first is_star t))) (within_good 1 TIMES_MAX (number_of (after_first is_star t))))
    (item_good (worker_item t) (Some 1) (within_good 0 LAST_WORKER (number_of t)) refl)

cons_sound : (o : Option Item) (items : List Item) → good_some is_item o ≡ true → list_all is_item items ≡ true → list_all is_item (cons_option o items) ≡ true
cons_sound None items h k = k
cons_sound (Some item) items h k = and_from _ _ h k

items_sound : (tokens : List (List ℕ)) → list_all is_item (filter_map item_of tokens) ≡ true
items_sound [] = refl
items_sound (t ∷ ts) = cons_sound (item_of t) (filter_map item_of ts) (item_sound t) (items_sound ts)

schedules_sound : (operands : List (List ℕ)) → is_sound (schedules_of operands) ≡ true
unfolding schedules_of
schedules_sound operands = if_passes is_sound _ (Schedules (filter_map item_of operands)) (Bad BadSchedule) (items_sound operands) refl

-- ---- lines

begins_sound : (operands : List (List ℕ)) → is_sound (begins_of operands) ≡ true
begins_sound [] = refl
begins_sound (more ∷ others) = refl

with_sound : (label : Option (List ℕ)) (first : List ℕ) (rest : List (List ℕ)) → is_sound_line (line_with label first rest) ≡ true
with_sound None first rest = named_sound first rest
with_sound (Some label) first rest = labelled_sound rest

from_sound : (tokens : List (List ℕ)) → is_sound_line (line_from tokens) ≡ true
from_sound [] = refl
from_sound (first ∷ rest) =
    if_passes is_sound_line (bytes_eq first (codes ".mutator")) (unlabelled (begins_of rest)) _ (begins_sound rest)
    (if_passes is_sound_line (bytes_eq first (codes ".schedule")) (unlabelled (schedules_of rest)) (line_with (label_of first) first rest) (schedules_sound rest) (with_sound (label_of first) first rest))

line_sound : (line : List ℕ) → is_sound_line (line_of line) ≡ true
unfolding line_of
line_sound line = from_sound (tokens_of line)

all_sound : (lines : List (List ℕ)) → list_all is_sound_line (map line_of lines) ≡ true
all_sound [] = refl
all_sound (line ∷ lines) = and_from _ _ (line_sound line) (all_sound lines)

-- each line of a text is sound
pub lines_sound : (text : List ℕ) → list_all is_sound_line (lines_of text) ≡ true
unfolding lines_of
lines_sound text = all_sound (slice_split (λ b. eqb b 10) text)
