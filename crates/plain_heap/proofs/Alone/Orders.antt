-- A mutator in an order beside the same mutator run alone.
use Rattle.std.proofs.Common.{◌≡◌, ℕ, zero, suc, ◌+◌, ◌<◌, ◌≤◌, ◌⊎◌, inl, inr, Bool, true, false, List, [], ◌∷◌, length, replicate, Option, Some, None, is_some, slice_get, refl, ap, sym, ◌∙◌, subst}
use Rattle.std.proofs.Math.Seq.{take-append_seam}
use Rattle.std.proofs.lemmas.Bool.{cases_eq, cases_lt}
use Rattle.std.proofs.lemmas.Option.{slice_get-get_or, slice_get_within, slice_get_past, get_or_from_slice_get}
use Rattle.plain_state.specs.declared.end.End.{End}
use Rattle.plain_state.specs.declared.end.End.TheVariants.{HeapFull}
use Rattle.plain_state.specs.State.{Mutator, Plain}
use Rattle.mutator_asm.specs.declared.instr.Instr.{Instr}
use Rattle.plain_heap.specs.Step.{ended, stepped}
use Rattle.plain_heap.specs.declared.mark.Mark.{Mark}
use Rattle.plain_heap.specs.declared.mark.Mark.TheVariants.{Step, Flip, Full, Traced}
use Rattle.plain_heap.specs.Order.{fresh, opening, plain}
use Rattle.plain_heap.specs.Alone.{shares_nothing, run_alone, is_heap_full, IsAsAlone}
use Rattle.plain_heap.proofs.States.MutatorSteps.{stepped-past}
use Rattle.plain_heap.proofs.Calls.CountedCalls.{Grown}
use Rattle.plain_heap.proofs.Alone.MarksAlone.{marked, plain-alone, state_after, steps-alone}
use Rattle.plain_heap.proofs.Alone.Runs.{mutator_of, after_steps, stepped-rests, steps-come, steps-end}
use Rattle.plain_heap.proofs.Alone.Apart.{IsApart, HasSameMutator, moves-apart, full-moves, ended-mutator, opening-apart, opening-begun}
use Rattle.plain_heap.proofs.Alone.Moves.{step-alike, mover, GetsFullEnd, fills, marked-apart, marked-other, marked-rests}

-- the numbers of k are the first of those of l, and with an end of its own it is l
pub record IsFrontOf (k l : Mutator) : Type 0 where
  pub numbers : Grown k.printed l.printed
  pub whole : (why : End) → k.end ≡ Some why → is_heap_full why ≡ false → k ≡ l

has_end : (k : Mutator) (why : End) → k.end ≡ Some why → is_some k.end ≡ true
has_end k why is = ap is_some is

full_end : (asked room live : ℕ) (why : End) → Some (HeapFull asked room live) ≡ Some why → is_heap_full why ≡ false → ⊥
full_end asked room live why is other = none (ap full_in is ∙ other)
  where
    full_in : Option End → Bool
    full_in None = false
    full_in (Some why) = is_heap_full why

    none : true ≡ false → ⊥
    none e = cc

module _ (code : List (List Instr)) (turns : ℕ) (alone : shares_nothing code ≡ true) where
  -- an order leads from one state without a way between mutators to another
  pub order-apart : (order : List Mark) (s : Plain) → IsApart code s → IsApart code (state_after code turns s order)
  order-apart [] s apart = apart
  order-apart (mark ∷ marks) s apart = order-apart marks (marked code turns s mark) (marked-apart code turns alone s apart mark)

  order-rests : (m : ℕ) (order : List Mark) (s : Plain) → IsApart code s → is_some (mutator_of s m).end ≡ true → mutator_of (state_after code turns s order) m ≡ mutator_of s m
  order-rests m [] s apart is = refl
  order-rests m (mark ∷ marks) s apart is =
      let same = marked-rests code turns alone s apart m mark is in
      order-rests m marks (marked code turns s mark) (marked-apart code turns alone s apart mark) (ap (λ k. is_some k.end) same ∙ is) ∙ same

module _ (code : List (List Instr)) (turns : ℕ) (alone : shares_nothing code ≡ true) (m : ℕ) (has : m < length code) where
  -- wherever two states have the same mutator m, what it comes to by an order agrees with what it
  -- comes to alone
  abbrev Agree : List Mark → Type 0
  Agree order = (n : ℕ) (s u : Plain) → IsApart code s → IsApart code u → HasSameMutator m s u → is_some (mutator_of (after_steps code turns u n m) m).end ≡ true
      → IsFrontOf (mutator_of (state_after code turns s order) m) (mutator_of (after_steps code turns u n m) m)

  agree-none : Agree []
  agree-none n s u apart other meets is =
      let comes = steps-come code turns m n u has other.counted in
      record {
        numbers = subst (λ k. Grown k.printed (mutator_of (after_steps code turns u n m) m).printed) meets.mutator comes.printed;
        whole = λ why end_is own. sym (comes.rests (ap (λ k. is_some k.end) meets.mutator ∙ has_end (mutator_of s m) why end_is) ∙ meets.mutator);
      }

  apart_ends : true ≡ false → ⊥
  apart_ends e = cc

  -- m makes a step both times
  agree-step : (marks : List Mark) → Agree marks → (n : ℕ) (s u : Plain) → IsApart code s → IsApart code u → HasSameMutator m s u → is_some (mutator_of s m).end ≡ false
      → is_some (mutator_of (after_steps code turns u n m) m).end ≡ true → IsFrontOf (mutator_of (state_after code turns (stepped code turns s m) marks) m) (mutator_of (after_steps code turns u n m) m)
  agree-step marks rest zero s u apart other meets no_end is = absurd (apart_ends (sym is ∙ ap (λ k. is_some k.end) meets.mutator ∙ no_end))
  agree-step marks rest (suc n) s u apart other meets no_end is =
      let alike = step-alike code turns alone m s u apart other meets has no_end in
      rest n (stepped code turns s m) (stepped code turns u m) (moves-apart code s apart m (stepped code turns s m) alike.one has) (moves-apart code u other m (stepped code turns u m) alike.other has) alike.meets is

  agree-step_as : (marks : List Mark) → Agree marks → (n : ℕ) (s u : Plain) → IsApart code s → IsApart code u → HasSameMutator m s u → (end : Bool) → is_some (mutator_of s m).end ≡ end
      → is_some (mutator_of (after_steps code turns u n m) m).end ≡ true → IsFrontOf (mutator_of (state_after code turns (stepped code turns s m) marks) m) (mutator_of (after_steps code turns u n m) m)
  agree-step_as marks rest n s u apart other meets true ended is = rw (stepped-rests code turns s m has apart.counted ended) (rest n s u apart other meets is)
  agree-step_as marks rest n s u apart other meets false no_end is = agree-step marks rest n s u apart other meets no_end is

  -- m gets its end for want of room
  agree-full : (marks : List Mark) (n asked room live : ℕ) (s u after : Plain) → IsApart code s → IsApart code u → HasSameMutator m s u → is_some (mutator_of s m).end ≡ false
      → after ≡ ended s m (mutator_of s m) (HeapFull asked room live) → IsFrontOf (mutator_of (state_after code turns after marks) m) (mutator_of (after_steps code turns u n m) m)
  agree-full marks n asked room live s u after apart other meets no_end after_is =
      let moves = full-moves code s apart m (HeapFull asked room live) no_end in
      let full = ended s m (mutator_of s m) (HeapFull asked room live) in
      let is_full_now = ended-mutator code s apart m (HeapFull asked room live) has in
      let stays = order-rests code turns alone m marks full (moves-apart code s apart m full moves has) (ap (λ k. is_some k.end) is_full_now) in
      let comes = steps-come code turns m n u has other.counted in
      rw (after_is, stays ∙ is_full_now) (record {
        numbers = subst (λ k. Grown k.printed (mutator_of (after_steps code turns u n m) m).printed) meets.mutator comes.printed;
        whole = λ why end_is own. absurd (full_end asked room live why end_is own);
      })

  agree-full_as : (marks : List Mark) → Agree marks → (n asked room live : ℕ) (s u : Plain) → IsApart code s → IsApart code u → HasSameMutator m s u
      → (marked code turns s (Full m asked room live) ≡ s) ⊎ GetsFullEnd code turns s m asked room live
      → is_some (mutator_of (after_steps code turns u n m) m).end ≡ true
      → IsFrontOf (mutator_of (state_after code turns (marked code turns s (Full m asked room live)) marks) m) (mutator_of (after_steps code turns u n m) m)
  agree-full_as marks rest n asked room live s u apart other meets (inl same) is = rw same (rest n s u apart other meets is)
  agree-full_as marks rest n asked room live s u apart other meets (inr fills) is = agree-full marks n asked room live s u (marked code turns s (Full m asked room live)) apart other meets fills.1 fills.2

  -- a mark of m itself
  agree-own : (mark : Mark) (marks : List Mark) → Agree marks → m ≡ mover mark → Agree (mark ∷ marks)
  agree-own (Step j) marks rest e n s u apart other meets is = subst (λ j. IsFrontOf (mutator_of (state_after code turns (stepped code turns s j) marks) m) (mutator_of (after_steps code turns u n m) m)) e
      (agree-step_as marks rest n s u apart other meets (is_some (mutator_of s m).end) refl is)
  agree-own (Flip asked) marks rest e n s u apart other meets is = rest n s u apart other meets is
  agree-own Traced marks rest e n s u apart other meets is = rest n s u apart other meets is
  agree-own (Full j asked room live) marks rest e n s u apart other meets is =
      subst (λ j. IsFrontOf (mutator_of (state_after code turns (marked code turns s (Full j asked room live)) marks) m) (mutator_of (after_steps code turns u n m) m)) e
      (agree-full_as marks rest n asked room live s u apart other meets (fills code turns alone s apart m asked room live) is)

  agree-mark : (mark : Mark) (marks : List Mark) → Agree marks → (m ≡ mover mark) ⊎ (m ≡ mover mark → ⊥) → Agree (mark ∷ marks)
  agree-mark mark marks rest (inl e) = agree-own mark marks rest e
  agree-mark mark marks rest (inr apart_from) = λ n s u apart other meets is.
      let same = marked-other code turns alone s apart m mark apart_from in
      rest n (marked code turns s mark) u (marked-apart code turns alone s apart mark) other
      (record { mutator = meets.mutator ∙ sym same.mutator; records = meets.records ∙ sym same.records }) is

  pub agree : (order : List Mark) → Agree order
  agree [] = agree-none
  agree (mark ∷ marks) = agree-mark mark marks (agree marks) (cases_eq m (mover mark))

-- ---- from the opening on

-- what mutator m comes to alone
abbrev alone_after : (code : List (List Instr)) → ℕ → ℕ → Plain
alone_after code turns m = after_steps code turns (opening code) (turns + 1) m

same_from_opening : (code : List (List Instr)) (turns : ℕ) (order : List Mark) (m : ℕ) (k : Mutator) → shares_nothing code ≡ true → slice_get (state_after code turns (opening code) order).mutators m ≡ Some k
    → m < length code → IsAsAlone code turns m k
same_from_opening code turns order m k alone found has =
    let opened = opening-apart code in
    let ends = steps-end code turns m (opening code) has opened.counted (opening-begun code m) in
    let agrees = agree code turns alone m has order (turns + 1) (opening code) (opening code) opened opened (record { mutator = refl; records = refl }) ends in
    let is = get_or_from_slice_get (state_after code turns (opening code) order).mutators m k fresh found in
    let counted = (order-apart code turns alone (replicate (turns + 1) (Step m)) (opening code) opened).counted in
    rw (← is) (record {
      alone = mutator_of (alone_after code turns m) m;
      reached = ap (λ (s : Plain). slice_get s.mutators m) (steps-alone code turns m (turns + 1))
          ∙ slice_get-get_or (alone_after code turns m).mutators m fresh (subst (λ n. m < n) (sym counted) has);
      numbers = rw agrees.numbers.is (take-append_seam _ agrees.numbers.rest);
      whole = agrees.whole;
    })

-- each mutator of an order is as it is alone
pub order-same : (code : List (List Instr)) (turns : ℕ) (order : List Mark) (m : ℕ) (k : Mutator) → shares_nothing code ≡ true → slice_get (plain code turns order).mutators m ≡ Some k → IsAsAlone code turns m k
order-same code turns order m k alone is =
    let found : slice_get (state_after code turns (opening code) order).mutators m ≡ Some k = sym (ap (λ (s : Plain). slice_get s.mutators m) (plain-alone code turns alone order)) ∙ is in
    let counted = (order-apart code turns alone order (opening code) (opening-apart code)).counted in
    same_from_opening code turns order m k alone found (subst (λ n. m < n) counted (slice_get_within (state_after code turns (opening code) order).mutators m k found))

-- where the program has no such mutator nothing changes
steps-past : (code : List (List Instr)) (turns m n : ℕ) (s : Plain) → length code ≤ m → after_steps code turns s n m ≡ s
steps-past code turns m zero s past = refl
steps-past code turns m (suc n) s past = ap (λ t. after_steps code turns t n m) (stepped-past code turns s m past) ∙ steps-past code turns m n s past

ends_as : (code : List (List Instr)) (turns m : ℕ) (k : Mutator) → slice_get (alone_after code turns m).mutators m ≡ Some k → (m < length code) ⊎ (length code ≤ m) → is_some k.end ≡ true
ends_as code turns m k found (inl has) =
    subst (λ k. is_some k.end ≡ true) (get_or_from_slice_get (alone_after code turns m).mutators m k fresh found)
    (steps-end code turns m (opening code) has (opening-apart code).counted (opening-begun code m))
ends_as code turns m k found (inr past) =
    let none = slice_get_past (opening code).mutators m (subst (λ n. n ≤ m) (sym (opening-apart code).counted) past) in
    let same = ap (λ s. slice_get s.mutators m) (steps-past code turns m (turns + 1) (opening code) past) in
    absurd (nothing (sym none ∙ sym same ∙ found))
  where
    nothing : None ≡ Some k → ⊥
    nothing e = cc

-- a mutator that is run alone has its end
pub run_alone-ends : (code : List (List Instr)) (turns m : ℕ) (k : Mutator) → slice_get (run_alone code turns m).mutators m ≡ Some k → is_some k.end ≡ true
run_alone-ends code turns m k found =
    ends_as code turns m k (sym (ap (λ (s : Plain). slice_get s.mutators m) (steps-alone code turns m (turns + 1))) ∙ found) (cases_lt m (length code))
