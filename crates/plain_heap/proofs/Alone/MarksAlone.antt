-- The marks of a program whose mutators share nothing: it makes no cells, so that each mark changes the present state alone.
use Rattle.std.proofs.Common.{◌≡◌, ℕ, zero, suc, Bool, true, false, List, [], ◌∷◌, replicate, refl, ap, ◌∙◌}
use Rattle.std.specs.List.{list_all, list_any}
use Rattle.std.proofs.lemmas.Bool.{and_parts}
use Rattle.plain_state.specs.State.{Plain}
use Rattle.mutator_asm.specs.declared.instr.Instr.{Instr}
use Rattle.mutator_asm.specs.declared.instr.Instr.TheVariants as instrs
use Rattle.plain_heap.specs.declared.mark.Mark.{Mark}
use Rattle.plain_heap.specs.declared.mark.Mark.TheVariants.{Step, Flip, Full, Traced}
use Rattle.plain_heap.specs.Alone.{leaves_board, shares_nothing}
use Rattle.plain_heap.specs.Order.{Story, ended_for_want, first_story, opening, plain, story_after, story_marked}
use Rattle.plain_heap.specs.Step.{stepped}
use Rattle.plain_heap.specs.Tracing.{has_weak, is_weak}
use Rattle.plain_heap.proofs.Orders.NoCells.{HasNone, first-none, marked-none, traced-same}

-- the present state after a mark
abbrev pub marked : List (List Instr) → ℕ → Plain → Mark → Plain
marked code turns s (Step m) = stepped code turns s m
marked code turns s (Flip asked) = s
marked code turns s (Full m asked room live) = ended_for_want code turns s m asked room live
marked code turns s Traced = s

abbrev pub state_after : List (List Instr) → ℕ → Plain → List Mark → Plain
state_after code turns s [] = s
state_after code turns s (mark ∷ marks) = state_after code turns (marked code turns s mark) marks

-- ---- what shares nothing makes no cells

-- an instruction that leaves the board alone makes no cell
pub leaves-no_weak : (i : Instr) → leaves_board i ≡ true → is_weak i ≡ false
leaves-no_weak (instrs.Weak d a) leaves = absurd (cc)
leaves-no_weak _ leaves = refl

-- what fails wherever a test passes fails everywhere if all pass
none-if_all : {X : Type 0} (p q : X → Bool) → ((x : X) → p x ≡ true → q x ≡ false) → (xs : List X) → list_all p xs ≡ true → list_any q xs ≡ false
none-if_all p q apart [] all = refl
none-if_all p q apart (x ∷ xs) all = let of = and_parts (p x) (list_all p xs) all in rw (apart x of.0) (none-if_all p q apart xs of.1)

pub shares-no_weak : (code : List (List Instr)) → shares_nothing code ≡ true → has_weak code ≡ false
shares-no_weak code alone = none-if_all (list_all leaves_board) (list_any is_weak) (none-if_all leaves_board is_weak leaves-no_weak) code alone

-- ---- the present state of a story

module _ (code : List (List Instr)) (turns : ℕ) where
  module _ (without : has_weak code ≡ false) where
    after-none : (s : Story) (order : List Mark) → HasNone code turns without s → (story_after code turns s order).now ≡ state_after code turns s.now order
    after-none s [] none = refl
    after-none s (Step m ∷ marks) none = after-none (story_marked code turns s (Step m)) marks (marked-none code turns without s (Step m) none)
    after-none s (Flip asked ∷ marks) none = after-none (story_marked code turns s (Flip asked)) marks (marked-none code turns without s (Flip asked) none)
    after-none s (Full m asked room live ∷ marks) none = after-none (story_marked code turns s (Full m asked room live)) marks (marked-none code turns without s (Full m asked room live) none)
    after-none s (Traced ∷ marks) none = ap (λ (t : Story). (story_after code turns t marks).now) (traced-same code turns without s none) ∙ after-none s marks none

  pub plain-alone : shares_nothing code ≡ true → (order : List Mark) → plain code turns order ≡ state_after code turns (opening code) order
  plain-alone alone order = let without = shares-no_weak code alone in after-none without (first_story code) order (first-none code turns without)

  -- steps alone change the present state alone
  steps-now : (s : Story) (m n : ℕ) → (story_after code turns s (replicate n (Step m))).now ≡ state_after code turns s.now (replicate n (Step m))
  steps-now s m zero = refl
  steps-now s m (suc n) = steps-now (story_marked code turns s (Step m)) m n

  pub steps-alone : (m n : ℕ) → plain code turns (replicate n (Step m)) ≡ state_after code turns (opening code) (replicate n (Step m))
  steps-alone m n = steps-now (first_story code) m n
