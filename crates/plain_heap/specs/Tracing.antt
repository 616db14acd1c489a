-- Where marks `Traced` change nothing.
use Rattle.std.specs.Prelude.{◌≡◌, ℕ, Bool, true, false, not, List, [], ◌∷◌, ◌++◌}
use Rattle.std.specs.List.{filter, list_any}
use Rattle.mutator_asm.specs.declared.instr.Instr.{Instr}
use Rattle.mutator_asm.specs.declared.instr.Instr.TheVariants as instrs
use Rattle.plain_heap.specs.declared.mark.Mark.{Mark}
use Rattle.plain_heap.specs.declared.mark.Mark.TheVariants.{Traced}
use Rattle.plain_heap.specs.Order.{is_flip, story}

-- ---- flips

-- before the first flip a mark `Traced` changes nothing
abbrev pub TracingNeedsFlip : Type 0
TracingNeedsFlip = (code : List (List Instr)) (turns : ℕ) (order : List Mark) → list_any is_flip order ≡ false
    → story code turns (order ++ Traced ∷ []) ≡ story code turns order

-- nor does a second one after the same flip
abbrev pub TracingIsDoneOnce : Type 0
TracingIsDoneOnce = (code : List (List Instr)) (turns : ℕ) (before between : List Mark) → list_any is_flip between ≡ false
    → story code turns (before ++ Traced ∷ between ++ Traced ∷ []) ≡ story code turns (before ++ Traced ∷ between)

-- ---- cells

-- the instruction makes a cell
abbrev pub is_weak : Instr → Bool
is_weak (instrs.Weak d a) = true
is_weak _ = false

abbrev pub has_weak : List (List Instr) → Bool
has_weak code = list_any (list_any is_weak) code

abbrev pub is_traced : Mark → Bool
is_traced Traced = true
is_traced _ = false

-- the order without these marks
abbrev pub untraced : List Mark → List Mark
untraced order = filter (λ mark. not (is_traced mark)) order

-- in a program that makes no cells they change nothing
abbrev pub TracingNeedsCells : Type 0
TracingNeedsCells = (code : List (List Instr)) (turns : ℕ) (order : List Mark) → has_weak code ≡ false → story code turns (untraced order) ≡ story code turns order
