-- A run, one event at a time.
use Rattle.std.proofs.Common.{◌≡◌, ℕ, ◌+◌, ◌-◌, ◌<◌, ◌≤◌, Bool, List, [], ◌∷◌, ◌++◌, Option, Some, None, true, false, refl, ap, subst, sym, ◌∙◌, append_assoc, append-nil, arith, zero, suc}
use Rattle.std.specs.Option.{option_to_list}
use Rattle.plain_heap.specs.declared.mark.Mark.{Mark}
use Rattle.gc_worker.specs.declared.steps.stepped.Stepped.{Stepped}
use Rattle.gc_worker.specs.Plain.Marks.{mark_of}
use Rattle.gc_core.specs.Core.{CoreState}
use Rattle.gc_core.specs.Event.{event_of, core_after}
use Rattle.gc_core.specs.Run.{Ran, run_from, all_ended, after_event}

-- where every mutator has its end the run is over
run_over : (schedule : ℕ → ℕ) (at n : ℕ) (s : CoreState) → all_ended s ≡ true → run_from schedule at n s ≡ record { last = s; order = [] }
unfolding run_from
run_over schedule at zero s ended = refl
run_over schedule at (suc n) s ended = rw ended

-- what each event keeps is so where the run stops
pub run_keeps : (IsSo : CoreState → Type 0) → ((s : CoreState) (w : ℕ) → IsSo s → IsSo (core_after s w)) → (schedule : ℕ → ℕ) (at n : ℕ) (s : CoreState) → IsSo s
    → IsSo (run_from schedule at n s).last
unfolding run_from
run_keeps IsSo keep schedule at zero s now = now
run_keeps IsSo keep schedule at (suc n) s now = by_ended (all_ended s) refl (run_keeps IsSo keep schedule (at + 1) n (core_after s (schedule at)) (keep s (schedule at) now))
  where
    by_ended : (b : Bool) → all_ended s ≡ b → IsSo (run_from schedule (at + 1) n (core_after s (schedule at))).last → IsSo (run_from schedule at (suc n) s).last
    by_ended true ended rest = rw ended now
    by_ended false running rest = rw running rest

-- where no step is left the run is over
run_out : (schedule : ℕ → ℕ) (at n : ℕ) (s : CoreState) → n ≡ 0 → run_from schedule at n s ≡ record { last = s; order = [] }
unfolding run_from
run_out schedule at n s none = rw none

-- else it begins with the event of the worker that the schedule names
run_more : (schedule : ℕ → ℕ) (at n : ℕ) (s : CoreState) → 0 < n → all_ended s ≡ false
    → run_from schedule at n s ≡ after_event (mark_of (event_of s (schedule at)).told) (run_from schedule (at + 1) (n - 1) (core_after s (schedule at)))
unfolding run_from
run_more schedule at zero s some running = absurd (omega (arith, some))
run_more schedule at (suc n) s some running = let e : suc n - 1 ≡ n = omega arith in rw (running, e)

-- how far a run has come: what it comes to from here is what all of it comes to
pub record HasComeTo (schedule : ℕ → ℕ) (at steps : ℕ) (s : CoreState) (all : Ran) : Type 0 where
  pub last : (run_from schedule at (steps - at) s).last ≡ all.last

pub record ComesToOrder (schedule : ℕ → ℕ) (at steps : ℕ) (s : CoreState) (marks : List Mark) (all : Ran) : Type 0 where
  pub order : marks ++ (run_from schedule at (steps - at) s).order ≡ all.order

pub comes_on : (schedule : ℕ → ℕ) (at steps : ℕ) (s : CoreState) (all : Ran) → at < steps → all_ended s ≡ false
    → HasComeTo schedule at steps s all → HasComeTo schedule (at + 1) steps (core_after s (schedule at)) all
comes_on schedule at steps s all some running h =
    let less : steps - at - 1 ≡ steps - (at + 1) = omega arith in
    let left : 0 < steps - at = omega arith in
    record { last = rw (← less) (rw (run_more schedule at (steps - at) s left running) at h.last) }

pub comes_on_order : (schedule : ℕ → ℕ) (at steps : ℕ) (s : CoreState) (marks : List Mark) (all : Ran) → at < steps → all_ended s ≡ false
    → ComesToOrder schedule at steps s marks all
    → ComesToOrder schedule (at + 1) steps (core_after s (schedule at)) (marks ++ option_to_list (mark_of (event_of s (schedule at)).told)) all
comes_on_order schedule at steps s marks all some running h =
    let less : steps - at - 1 ≡ steps - (at + 1) = omega arith in
    let left : 0 < steps - at = omega arith in
    record { order = rw (← less, append_assoc) (rw (run_more schedule at (steps - at) s left running) at h.order) }

pub came_over : (schedule : ℕ → ℕ) (at steps : ℕ) (s : CoreState) (all : Ran) → all_ended s ≡ true → HasComeTo schedule at steps s all → s ≡ all.last
came_over schedule at steps s all ended h = rw (run_over schedule at (steps - at) s ended) at h.last

pub came_out : (schedule : ℕ → ℕ) (at steps : ℕ) (s : CoreState) (all : Ran) → steps ≤ at → HasComeTo schedule at steps s all → s ≡ all.last
came_out schedule at steps s all done h = let none : steps - at ≡ 0 = omega arith in rw (run_out schedule at (steps - at) s none) at h.last

pub came_over_order : (schedule : ℕ → ℕ) (at steps : ℕ) (s : CoreState) (marks : List Mark) (all : Ran) → all_ended s ≡ true
    → ComesToOrder schedule at steps s marks all → marks ≡ all.order
came_over_order schedule at steps s marks all ended h = sym (append-nil marks) ∙ (rw (run_over schedule at (steps - at) s ended) at h.order)

pub came_out_order : (schedule : ℕ → ℕ) (at steps : ℕ) (s : CoreState) (marks : List Mark) (all : Ran) → steps ≤ at
    → ComesToOrder schedule at steps s marks all → marks ≡ all.order
came_out_order schedule at steps s marks all done h =
    let none : steps - at ≡ 0 = omega arith in sym (append-nil marks) ∙ (rw (run_out schedule at (steps - at) s none) at h.order)

-- ---- the step that a mark comes from

-- after so many steps the run has come to this front of its order, and its next event has the mark behind it
pub record IsReached (schedule : ℕ → ℕ) (at n : ℕ) (s : CoreState) (front : List Mark) (mark : Mark) : Type 0 where
  pub steps : ℕ
  pub within : steps < n
  pub front_is : (run_from schedule at steps s).order ≡ front
  pub mark_is : mark_of (event_of (run_from schedule at steps s).last (schedule (at + steps))).told ≡ Some mark

no_marks : (front rest : List Mark) (mark : Mark) → [] ≡ front ++ mark ∷ rest → ⊥
no_marks [] rest mark is = cc
no_marks (x ∷ front) rest mark is = cc

module _ (schedule : ℕ → ℕ) (at n : ℕ) (s : CoreState) (running : all_ended s ≡ false) where
  abbrev told : Stepped
  told = (event_of s (schedule at)).told

  abbrev next : CoreState
  next = core_after s (schedule at)

  -- the first event has it
  its_first : (mark : Mark) → mark_of told ≡ Some mark → IsReached schedule at (suc n) s [] mark
  unfolding run_from
  its_first mark is = record {
    steps = 0;
    within = omega arith;
    front_is = refl;
    mark_is = (let e : at + 0 ≡ at = omega arith in ap (λ (k : ℕ). mark_of (event_of s (schedule k)).told) e ∙ is);
  }

  -- a later one has it
  later : (front : List Mark) (mark : Mark) → IsReached schedule (at + 1) n next front mark → IsReached schedule at (suc n) s (option_to_list (mark_of told) ++ front) mark
  unfolding run_from
  later front mark r = record {
    steps = suc r.steps;
    within = (let l = r.within in omega (arith, l));
    front_is = rw running (ap (λ (marks : List Mark). option_to_list (mark_of told) ++ marks) r.front_is);
    mark_is = rw running (let e : at + suc r.steps ≡ at + 1 + r.steps = omega arith in ap (λ (k : ℕ). mark_of (event_of (run_from schedule (at + 1) r.steps next).last (schedule k)).told) e ∙ r.mark_is);
  }

  by_front : (o : Option Mark) → mark_of told ≡ o → (front rest : List Mark) (mark : Mark) → option_to_list o ++ (run_from schedule (at + 1) n next).order ≡ front ++ mark ∷ rest
      → ((front rest : List Mark) → (run_from schedule (at + 1) n next).order ≡ front ++ mark ∷ rest → IsReached schedule (at + 1) n next front mark) → IsReached schedule at (suc n) s front mark
  by_front None none front rest mark is on = subst (λ (o : Option Mark). IsReached schedule at (suc n) s (option_to_list o ++ front) mark) none (later front mark (on front rest is))
  by_front (Some first) some [] rest mark is on = its_first mark (some ∙ cc)
  by_front (Some first) some (x ∷ front) rest mark is on =
      let same : first ≡ x = cc in
      let tail : (run_from schedule (at + 1) n next).order ≡ front ++ mark ∷ rest = cc in
      subst (λ (o : Option Mark). IsReached schedule at (suc n) s (option_to_list o ++ front) mark) (some ∙ ap (λ (m : Mark). Some m) same) (later front mark (on front rest tail))

-- each mark of its order comes from a step
pub mark_is_reached : (schedule : ℕ → ℕ) (at n : ℕ) (s : CoreState) (front rest : List Mark) (mark : Mark) → (run_from schedule at n s).order ≡ front ++ mark ∷ rest
    → IsReached schedule at n s front mark
unfolding run_from
mark_is_reached schedule at zero s front rest mark is = absurd (no_marks front rest mark is)
mark_is_reached schedule at (suc n) s front rest mark is = by_ended (all_ended s) refl (λ front rest e. mark_is_reached schedule (at + 1) n (core_after s (schedule at)) front rest mark e)
  where
    by_ended : (b : Bool) → all_ended s ≡ b
        → ((front rest : List Mark) → (run_from schedule (at + 1) n (core_after s (schedule at))).order ≡ front ++ mark ∷ rest → IsReached schedule (at + 1) n (core_after s (schedule at)) front mark)
        → IsReached schedule at (suc n) s front mark
    by_ended true ended on = absurd (no_marks front rest mark (rw ended at is))
    by_ended false running on = by_front schedule at n s running (mark_of (event_of s (schedule at)).told) refl front rest mark (rw running at is) on
