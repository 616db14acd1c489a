-- Which checkpoint the plain machine has kept, by the order that it has executed.
use Rattle.std.specs.Prelude.{◌≡◌, ◌⊎◌, ℕ, ◌+◌, ◌<◌, min, Bool, true, false, List, [], ◌∷◌, ◌++◌, Option, Some, None, if◌then◌else◌}
use Rattle.std.specs.Option.{option_map_or}
use Rattle.std.specs.Result.{result_ok}
use Rattle.plain_state.specs.declared.end.End.{End}
use Rattle.plain_state.specs.declared.sizes.TheConstants.{MOST_CHECKPOINTS}
use Rattle.plain_state.specs.State.{Heap, Mutator, Plain, Snapped}
use Rattle.mutator_asm.specs.declared.instr.Instr.{Instr}
use Rattle.mutator_asm.specs.declared.instr.Instr.TheVariants.{Snap}
use Rattle.plain_heap.specs.declared.mark.Mark.{Mark}
use Rattle.plain_heap.specs.declared.mark.Mark.TheVariants.{Step}
use Rattle.plain_heap.specs.Order.{Story, first_story, plain, story, story_marked}
use Rattle.plain_heap.specs.Step.{fetch, mutator_in}

-- ---- which marks execute `snap`

abbrev pub is_snap : Instr → Bool
is_snap Snap = true
is_snap _ = false

-- whether mutator m, which is k, executes `snap` next; if it has its end it executes nothing
abbrev pub snaps_next : List (List Instr) → (turns m : ℕ) → (k : Mutator) → Option End → Bool
snaps_next code turns m k (Some why) = false
snaps_next code turns m k None = option_map_or is_snap (result_ok (fetch code turns m k)) false

-- whether a mark is of a mutator that executes `snap` next
abbrev pub executes_snap : List (List Instr) → (turns : ℕ) → Plain → Mark → Bool
executes_snap code turns p (Step m) = option_map_or (λ k. snaps_next code turns m k k.end) (mutator_in code p m) false
executes_snap code turns p _ = false

-- how many marks of an order execute `snap`, if it is executed from this story on
abbrev pub snaps_executed : List (List Instr) → (turns : ℕ) → Story → List Mark → ℕ
snaps_executed code turns s [] = 0
snaps_executed code turns s (mark ∷ marks) = (if executes_snap code turns s.now mark then 1 else 0) + snaps_executed code turns (story_marked code turns s mark) marks

-- ---- the last one that began a checkpoint

-- From the first heap to the second one the checkpoint of this number begins: there is one more than before, and what is kept of it is the
-- board and the records of the second heap.
pub record BeginsBetween (heap next : Heap) (number : ℕ) (kept : Snapped) : Type 0 where
  pub earlier : heap.snaps + 1 ≡ number
  pub number_is : next.snaps ≡ number
  pub board : kept.board ≡ next.board
  pub records : kept.records ≡ next.records

-- A mark of the order executes `snap`, as the one of this number, and so begins the checkpoint of this number, of which this is kept. No later
-- mark executes `snap`; but once there have been the most checkpoints, one leaves what is kept.
pub record WasBegun (code : List (List Instr)) (turns : ℕ) (order : List Mark) (number : ℕ) (kept : Snapped) : Type 0 where
  pub before : List Mark
  pub m : ℕ
  pub rest : List Mark
  pub is : order ≡ before ++ Step m ∷ rest
  pub executes : executes_snap code turns (plain code turns before) (Step m) ≡ true
  pub counted : snaps_executed code turns (first_story code) before + 1 ≡ number
  pub begins : BeginsBetween (plain code turns before).heap (plain code turns (before ++ Step m ∷ [])).heap number kept
  pub last : number < MOST_CHECKPOINTS → snaps_executed code turns (story code turns (before ++ Step m ∷ [])) rest ≡ 0

-- no checkpoint was begun, and no mark of the order executes `snap`
pub record NoneExecuted (code : List (List Instr)) (turns : ℕ) (order : List Mark) : Type 0 where
  pub number : (plain code turns order).heap.snaps ≡ 0
  pub none : snaps_executed code turns (first_story code) order ≡ 0

-- what the plain machine has kept after the order is its last checkpoint, if one was begun in it
abbrev pub IsLastCheckpoint : List (List Instr) → (turns : ℕ) → List Mark → Type 0
IsLastCheckpoint code turns order = NoneExecuted code turns order ⊎ WasBegun code turns order (plain code turns order).heap.snaps (plain code turns order).heap.snapped

-- so it is after each order
abbrev pub OrdersKeepTheLastCheckpoint : Type 0
OrdersKeepTheLastCheckpoint = (code : List (List Instr)) (turns : ℕ) (order : List Mark) → IsLastCheckpoint code turns order

-- as many are begun as marks execute `snap`, but no more than the most
abbrev pub OrdersCountCheckpoints : Type 0
OrdersCountCheckpoints = (code : List (List Instr)) (turns : ℕ) (order : List Mark)
    → (plain code turns order).heap.snaps ≡ min (snaps_executed code turns (first_story code) order) MOST_CHECKPOINTS
