-- What a story keeps.
use Rattle.std.proofs.Common.{◌≡◌, ℕ, ◌+◌, ◌<◌, false, List, [], ◌∷◌, ◌++◌, take, length, get_or, refl, ap, ◌∙◌}
use Rattle.std.specs.List.{list_any}
use Rattle.std.proofs.lemmas.List.{take_more}
use Rattle.mutator_asm.specs.declared.instr.Instr.{Instr}
use Rattle.plain_heap.specs.declared.mark.Mark.{Mark}
use Rattle.plain_heap.specs.declared.mark.Mark.TheVariants.{Step, Flip, Full, Traced}
use Rattle.plain_heap.specs.Order.{opening, plain, Story, first_story, story_marked, story_after, story, is_flip}

module _ (code : List (List Instr)) (turns : ℕ) where
  pub story_after-flip : (s : Story) (order : List Mark) → list_any is_flip order ≡ false → (story_after code turns s order).flip ≡ s.flip
  story_after-flip s [] none = refl
  story_after-flip s (Step m ∷ marks) none = story_after-flip (story_marked code turns s (Step m)) marks none
  story_after-flip s (Flip asked ∷ marks) none = absurd (cc)
  story_after-flip s (Full m asked room live ∷ marks) none = story_after-flip (story_marked code turns s (Full m asked room live)) marks none
  story_after-flip s (Traced ∷ marks) none = story_after-flip (story_marked code turns s Traced) marks none

  pub story_after-append : (s : Story) (before after : List Mark) → story_after code turns s (before ++ after) ≡ story_after code turns (story_after code turns s before) after
  story_after-append s [] after = refl
  story_after-append s (mark ∷ before) after = story_after-append (story_marked code turns s mark) before after

  -- one mark more
  pub story_after-more : (s : Story) (order : List Mark) (i : ℕ) (d : Mark) → i < length order
      → story_after code turns s (take (i + 1) order) ≡ story_marked code turns (story_after code turns s (take i order)) (get_or order i d)
  story_after-more s order i d within = ap (story_after code turns s) (take_more order i d within) ∙ story_after-append s (take i order) (get_or order i d ∷ [])

-- where there was no flip the state at the last flip is the opening
pub story-no_flip : (code : List (List Instr)) (turns : ℕ) (order : List Mark) → list_any is_flip order ≡ false → (story code turns order).flip ≡ opening code
story-no_flip code turns order none = story_after-flip code turns (first_story code) order none

-- and else what the plain machine came to at the last flip
pub story-flip : (code : List (List Instr)) (turns asked : ℕ) (before after : List Mark) → list_any is_flip after ≡ false
    → (story code turns (before ++ Flip asked ∷ after)).flip ≡ plain code turns before
story-flip code turns asked before after none =
    let at = story_after code turns (first_story code) before in
    ap (λ s. s.flip) (story_after-append code turns (first_story code) before (Flip asked ∷ after))
    ∙ story_after-flip code turns (record { flip = at.now; now = at.now }) after none
