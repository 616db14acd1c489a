-- What heap a program needs, by the order of its run alone: the pages of the records that it makes between two flips, beside what was
-- live at the first of them.
use Rattle.std.specs.Prelude.{◌≡◌, ◌≢◌, ⊤, ℕ, ◌+◌, ◌*◌, ◌<◌, ◌≤◌, ◌-◌, ◌^◌, ◌==◌, ◌⊎◌, Bool, true, false, List, [], ◌∷◌, ◌++◌, Some, if◌then◌else◌, length, unwrap_or}
use Rattle.std.specs.List.{list_all}
use Rattle.plain_state.specs.declared.sizes.TheConstants.{PAGE_WORDS}
use Rattle.plain_state.specs.Reachable.{IsLive}
use Rattle.plain_state.specs.State.{Plain}
use Rattle.mutator_asm.specs.declared.instr.Instr.{Instr}
use Rattle.plain_heap.specs.declared.mark.Mark.{Mark}
use Rattle.plain_heap.specs.declared.mark.Mark.TheVariants.{Step, Flip, Full, Traced}
pub use Rattle.plain_heap.specs.Order.{first_story}
use Rattle.plain_heap.specs.Order.{Story, plain, story, story_marked}
use Rattle.plain_heap.specs.Step.{asked_by}
use Rattle.plain_heap.specs.Tracing.{is_traced}
use Rattle.heap_state.specs.Functions.{sum_below}
use Rattle.gc_worker.specs.History.Large.{pages_full}

-- ---- flips

-- for each mutator, whether a flip came since its last step
abbrev pub since_by : (ℕ → Bool) → Mark → ℕ → Bool
since_by since (Step j) = λ m. if m == j then false else since m
since_by since (Flip asked) = λ m. true
since_by since (Full j asked room live) = since
since_by since Traced = since

-- how many flips came
abbrev pub flips_by : ℕ → Mark → ℕ
flips_by flips (Step j) = flips
flips_by flips (Flip asked) = flips + 1
flips_by flips (Full j asked room live) = flips
flips_by flips Traced = flips

-- the same after marks
abbrev pub since_in : (ℕ → Bool) → List Mark → ℕ → Bool
since_in since [] = since
since_in since (mark ∷ marks) = since_in (since_by since mark) marks

abbrev pub flips_in : ℕ → List Mark → ℕ
flips_in flips [] = flips
flips_in flips (mark ∷ marks) = flips_in (flips_by flips mark) marks

-- a mutator finds the heap full only where a flip came since its last step, or as many as there can be
abbrev pub FullMayCome : (ℕ → Bool) → ℕ → Mark → Type 0
FullMayCome since flips (Step j) = ⊤
FullMayCome since flips (Flip asked) = ⊤
FullMayCome since flips (Full j asked room live) = (since j ≡ true) ⊎ (flips ≡ 2 ^ 32 - 1)
FullMayCome since flips Traced = ⊤

-- so does each mark of an order, after marks of which this is so
unfoldable pub EachMayCome : (ℕ → Bool) → ℕ → List Mark → Type 0
EachMayCome since flips [] = ⊤
EachMayCome since flips (mark ∷ rest) = FullMayCome since flips mark × EachMayCome (since_by since mark) (flips_by flips mark) rest

-- ---- records

-- the pages that mutator m's next step takes for a record, 0 where it makes none
abbrev pub pages_next : List (List Instr) → ℕ → Plain → ℕ → ℕ
pages_next code turns p m = unwrap_or (asked_by code turns p m) 0

-- the pages of the records that the next steps of the other mutators make
abbrev pub being_made : List (List Instr) → ℕ → Plain → (m : ℕ) → ℕ
being_made code turns p m = sum_below (length p.mutators) (λ j. if j == m then 0 else pages_next code turns p j)

-- the pages of the records made since the last flip, after a mark
abbrev pub made_after_mark : List (List Instr) → ℕ → Plain → (made : ℕ) → Mark → ℕ
made_after_mark code turns p made (Step m) = made + pages_next code turns p m
made_after_mark code turns p made (Flip asked) = 0
made_after_mark code turns p made (Full m asked room live) = made
made_after_mark code turns p made Traced = made

abbrev pub made_after : List (List Instr) → ℕ → Story → (made : ℕ) → List Mark → ℕ
made_after code turns s made [] = made
made_after code turns s made (mark ∷ marks) = made_after code turns (story_marked code turns s mark) (made_after_mark code turns s.now made mark) marks

-- in the order of a program
abbrev pub made_since : List (List Instr) → ℕ → List Mark → ℕ
made_since code turns order = made_after code turns (first_story code) 0 order

-- ---- an order

-- The heap is full for mutator m, after marks that led to this story, to so many flips, and to so many pages made since the last one: what
-- is told as live was live then, and with the room that is left, and pages claimed for those records or for ones being made, it fills the
-- pages in use, which are all that the space may have, or it is the last epoch.
pub record IsFullAt (limit least : ℕ) (code : List (List Instr)) (turns : ℕ) (s : Story) (flips made m asked room live : ℕ) : Type 0 where
  pub asked_is : asked_by code turns s.now m ≡ Some asked
  pub short : room < PAGE_WORDS * asked
  pub live_is : IsLive s.flip live
  pub size : ℕ
  pub within : (least ≤ size) × (size ≤ limit)
  pub grown : (size ≡ limit) ⊎ (flips ≡ 2 ^ 32 - 1)
  pub claims : ℕ
  pub filled : room + live + claims ≡ PAGE_WORDS * size
  pub for_records : claims ≤ PAGE_WORDS * (made + being_made code turns s.now m)

abbrev pub IsFullMark : (limit least : ℕ) → List (List Instr) → ℕ → Story → (flips made : ℕ) → Mark → Type 0
IsFullMark limit least code turns s flips made (Step m) = ⊤
IsFullMark limit least code turns s flips made (Flip asked) = ⊤
IsFullMark limit least code turns s flips made (Full m asked room live) = IsFullAt limit least code turns s flips made m asked room live
IsFullMark limit least code turns s flips made Traced = ⊤

-- so is each mark of an order
abbrev pub EachFullIs : (limit least : ℕ) → List (List Instr) → ℕ → Story → (flips made : ℕ) → List Mark → Type 0
EachFullIs limit least code turns s flips made [] = ⊤
EachFullIs limit least code turns s flips made (mark ∷ marks) =
    IsFullMark limit least code turns s flips made mark
    × EachFullIs limit least code turns (story_marked code turns s mark) (flips_by flips mark) (made_after_mark code turns s.now made mark) marks

-- ---- a heap that is large enough

-- the record that mutator m's next step makes, if it makes one, fits beside what was live at the last flip and all records made since then
-- or being made
abbrev pub HasRoomFor : (pages : ℕ) → List (List Instr) → ℕ → Story → (made m : ℕ) → Type 0
HasRoomFor pages code turns s made m = (asked live : ℕ) → asked_by code turns s.now m ≡ Some asked → IsLive s.flip live
    → live + PAGE_WORDS * (made + being_made code turns s.now m + asked) ≤ PAGE_WORDS * pages

-- after these marks mutator m may find the heap full: a flip came since its last step, or as many came as there can be
abbrev pub MayBeFull : List Mark → (m : ℕ) → Type 0
MayBeFull front m = (since_in (λ j. false) front m ≡ true) ⊎ (flips_in 0 front ≡ 2 ^ 32 - 1)

-- it does so wherever in the order a mutator may find the heap full
abbrev pub IsLargeEnough : (limit least : ℕ) → List (List Instr) → ℕ → List Mark → Type 0
IsLargeEnough limit least code turns order = (front rest : List Mark) (m : ℕ) → front ++ rest ≡ order → MayBeFull front m
    → HasRoomFor (pages_full limit least (flips_in 0 front)) code turns (story code turns front) (made_since code turns front) m

abbrev pub HasNoFull : List Mark → Type 0
HasNoFull order = (front rest : List Mark) (m asked room live : ℕ) → front ++ Full m asked room live ∷ rest ≢ order

-- ---- with one mutator

-- it ends with a flip, but for marks that tell that the epoch is traced
pub record EndsWithFlip (front : List Mark) : Type 0 where
  pub before : List Mark
  pub asked : ℕ
  pub traced : List Mark
  pub is : front ≡ before ++ Flip asked ∷ traced
  pub all : list_all is_traced traced ≡ true

-- the record that mutator m's next step makes, if it makes one, fits beside what is live now
abbrev pub HasRoomNow : (pages : ℕ) → List (List Instr) → ℕ → Plain → (m : ℕ) → Type 0
HasRoomNow pages code turns p m = (asked live : ℕ) → asked_by code turns p m ≡ Some asked → IsLive p live → live + PAGE_WORDS * asked ≤ PAGE_WORDS * pages

-- it does so after each front of the order
abbrev pub IsEnoughForOne : (pages : ℕ) → List (List Instr) → ℕ → List Mark → Type 0
IsEnoughForOne pages code turns order = (front rest : List Mark) (m : ℕ) → front ++ rest ≡ order → HasRoomNow pages code turns (plain code turns front) m
