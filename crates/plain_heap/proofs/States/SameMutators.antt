-- No mutator of the plain machine comes or goes.
use Rattle.std.proofs.Common.{◌≡◌, ℕ, Bool, true, false, List, [], ◌∷◌, length, Option, Some, None, refl, ap, ◌∙◌, cond}
use Rattle.std.specs.Prelude.{slice_get}
use Rattle.std.specs.Option.{option_map_or}
use Rattle.std.proofs.lemmas.List.{length-map, length-set}
use Rattle.plain_state.specs.declared.end.End.{End}
use Rattle.plain_state.specs.declared.end.End.TheVariants.{HeapFull}
use Rattle.plain_state.specs.State.{Mutator, Plain}
use Rattle.mutator_asm.specs.declared.instr.Instr.{Instr}
use Rattle.plain_heap.specs.declared.mark.Mark.{Mark}
use Rattle.plain_heap.specs.declared.mark.Mark.TheVariants.{Step, Flip, Full, Traced}
use Rattle.plain_heap.specs.Order.{Story, ended_for_want, first_story, is_asked, plain, story_after, story_marked}
use Rattle.plain_heap.specs.Step.{asked_by, ended, executes, mutator_in, stepped, stepped_as, stepped_if}
use Rattle.plain_heap.proofs.Calls.Rest.{settled-count}
use Rattle.plain_heap.proofs.Reaching.Emptying.{emptied_of_lost_cells}

module _ (code : List (List Instr)) (turns : ℕ) where
  stepped_if_stay : (s : Plain) (m : ℕ) (k : Mutator) (end : Option End) → length (stepped_if code turns s m k end).mutators ≡ length s.mutators
  stepped_if_stay s m k (Some why) = refl
  stepped_if_stay s m k None = settled-count s m k (executes code turns m s.heap k)

  stepped_as_stay : (s : Plain) (m : ℕ) (o : Option Mutator) → length (stepped_as code turns s m o).mutators ≡ length s.mutators
  stepped_as_stay s m None = refl
  stepped_as_stay s m (Some k) = stepped_if_stay s m k k.end

  stepped_stay : (s : Plain) (m : ℕ) → length (stepped code turns s m).mutators ≡ length s.mutators
  unfolding stepped
  stepped_stay s m = stepped_as_stay s m (mutator_in code s m)

  ended_stay : (s : Plain) (m : ℕ) (why : End) (o : Option Mutator) → length (option_map_or (λ k. ended s m k why) o s).mutators ≡ length s.mutators
  ended_stay s m why None = refl
  ended_stay s m why (Some k) = length-set s.mutators m (record k { end = Some why })

  ended_if_stay : (s : Plain) (m : ℕ) (why : End) (asked : Bool)
      → length (cond asked (option_map_or (λ k. ended s m k why) (slice_get s.mutators m) s) s).mutators ≡ length s.mutators
  ended_if_stay s m why true = ended_stay s m why (slice_get s.mutators m)
  ended_if_stay s m why false = refl

  marked_stay : (s : Story) (mark : Mark) → length (story_marked code turns s mark).now.mutators ≡ length s.now.mutators
  unfolding ended_for_want
  marked_stay s (Step m) = stepped_stay s.now m
  marked_stay s (Flip asked) = refl
  marked_stay s (Full m asked room live) = ended_if_stay s.now m (HeapFull asked room live) (is_asked asked (asked_by code turns s.now m))
  marked_stay s Traced = ap length (emptied_of_lost_cells s.flip s.now).mutators

  after_stay : (s : Story) (order : List Mark) → length (story_after code turns s order).now.mutators ≡ length s.now.mutators
  after_stay s [] = refl
  after_stay s (mark ∷ marks) = after_stay (story_marked code turns s mark) marks ∙ marked_stay s mark

  -- there is one for each section
  pub plain_count : (order : List Mark) → length (plain code turns order).mutators ≡ length code
  plain_count order = after_stay (first_story code) order ∙ length-map code _
