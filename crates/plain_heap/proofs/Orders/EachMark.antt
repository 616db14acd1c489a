-- What is so of each mark of two orders is so of each mark of both together.
use Rattle.std.proofs.Common.{ℕ, List, [], ◌∷◌, ◌++◌}
use Rattle.plain_state.specs.State.{Plain}
use Rattle.mutator_asm.specs.declared.instr.Instr.{Instr}
use Rattle.plain_heap.specs.declared.mark.Mark.{Mark}
use Rattle.plain_heap.specs.Order.{EachMark, Story, story_after, story_marked}

pub EachMark-append : (IsSo : Plain → Mark → Type 0) (code : List (List Instr)) (turns : ℕ) (s : Story) (xs ys : List Mark)
    → EachMark IsSo code turns s xs → EachMark IsSo code turns (story_after code turns s xs) ys → EachMark IsSo code turns s (xs ++ ys)
EachMark-append IsSo code turns s [] ys a b = b
EachMark-append IsSo code turns s (mark ∷ xs) ys a b = (a.0, EachMark-append IsSo code turns (story_marked code turns s mark) xs ys a.1 b)
