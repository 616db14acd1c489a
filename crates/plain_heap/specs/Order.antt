-- An order, and the plain machine run by it.
use Rattle.std.specs.Prelude.{◌≡◌, ⊤, ℕ, Bool, true, false, List, [], ◌∷◌, ◌++◌, map, Option, Some, None, ◌==◌, if◌then◌else◌, slice_get, replicate}
use Rattle.std.specs.List.{list_any}
use Rattle.std.specs.Option.{option_map, option_map_or}
use Rattle.plain_state.specs.declared.end.End.{End}
use Rattle.plain_state.specs.declared.end.End.TheVariants.{HeapFull}
use Rattle.plain_state.specs.declared.sizes.TheConstants.{REGISTERS, BOARD_WORDS}
use Rattle.plain_state.specs.declared.value.Value.TheVariants.{Number}
use Rattle.plain_state.specs.State.{Mutator, Plain, none_snapped}
use Rattle.mutator_asm.specs.declared.instr.Instr.{Instr}
use Rattle.plain_heap.specs.declared.mark.Mark.{Mark}
use Rattle.plain_heap.specs.declared.mark.Mark.TheVariants.{Step, Flip, Full, Traced}
use Rattle.plain_heap.specs.Emptied.{emptied}
use Rattle.plain_heap.specs.Step.{stepped, asked_by, ended}

-- a mutator before its first instruction
abbrev pub fresh : Mutator
fresh = record { counter = 0; registers = replicate REGISTERS (Number 0); printed = []; executed = 0; end = None }

-- the state in which a program begins
abbrev pub opening : List (List Instr) → Plain
opening code = record {
  heap = record { records = map (λ section. []) code; board = replicate BOARD_WORDS (Number 0); snaps = 0; snapped = none_snapped };
  mutators = map (λ section. fresh) code;
}

-- whether just so many pages are asked for
abbrev pub is_asked : ℕ → Option ℕ → Bool
is_asked asked None = false
is_asked asked (Some pages) = pages == asked

-- the end for want of room comes only where the next step of mutator m asks for just so many pages
unfoldable pub ended_for_want : List (List Instr) → ℕ → Plain → (m asked room live : ℕ) → Plain
ended_for_want code turns s m asked room live =
    if is_asked asked (asked_by code turns s m)
    then option_map_or (λ k. ended s m k (HeapFull asked room live)) (slice_get s.mutators m) s
    else s

-- ---- stories

-- The plain state at the last flip, or the opening where there was none, and the present one.
pub record Story : Type 0 where
  pub flip : Plain
  pub now : Plain

-- before the first mark
abbrev pub first_story : List (List Instr) → Story
first_story code = record { flip = opening code; now = opening code }

-- What a mark does. A flip keeps the present state as that of the last flip; moving records changes nothing else. Tracing empties each cell
-- whose target wasn't reachable then.
abbrev pub story_marked : List (List Instr) → ℕ → Story → Mark → Story
story_marked code turns s (Step m) = record { flip = s.flip; now = stepped code turns s.now m }
story_marked code turns s (Flip asked) = record { flip = s.now; now = s.now }
story_marked code turns s (Full m asked room live) = record { flip = s.flip; now = ended_for_want code turns s.now m asked room live }
story_marked code turns s Traced = record { flip = s.flip; now = emptied s.flip s.now }

-- the story after the marks of an order, one after another
abbrev pub story_after : List (List Instr) → ℕ → Story → List Mark → Story
story_after code turns s [] = s
story_after code turns s (mark ∷ marks) = story_after code turns (story_marked code turns s mark) marks

-- the story of a program that is run by an order, each mutator executing at most so many instructions
abbrev pub story : List (List Instr) → ℕ → List Mark → Story
story code turns order = story_after code turns (first_story code) order

-- the state to which the plain machine comes that executes a program in an order
abbrev pub plain : List (List Instr) → ℕ → List Mark → Plain
plain code turns order = (story code turns order).now

abbrev pub is_flip : Mark → Bool
is_flip (Step m) = false
is_flip (Flip asked) = true
is_flip (Full m asked room live) = false
is_flip Traced = false

-- where no spaces were flipped the state at the last flip is the opening
abbrev pub StoryHasOpening : Type 0
StoryHasOpening = (code : List (List Instr)) (turns : ℕ) (order : List Mark) → list_any is_flip order ≡ false → (story code turns order).flip ≡ opening code

-- else it is what the plain machine came to at the last flip
abbrev pub StoryHasLastFlip : Type 0
StoryHasLastFlip = (code : List (List Instr)) (turns asked : ℕ) (before after : List Mark) → list_any is_flip after ≡ false
    → (story code turns (before ++ Flip asked ∷ after)).flip ≡ plain code turns before

-- ---- each mark of an order

-- the end of a mutator, where there is such a mutator
abbrev pub end_of : Plain → ℕ → Option (Option End)
end_of s m = option_map (λ k. k.end) (slice_get s.mutators m)

-- each mark of an order is so on the state that the marks before it leave
abbrev pub EachMark : (Plain → Mark → Type 0) → List (List Instr) → ℕ → Story → List Mark → Type 0
EachMark IsSo code turns s [] = ⊤
EachMark IsSo code turns s (mark ∷ marks) = IsSo s.now mark × EachMark IsSo code turns (story_marked code turns s mark) marks
