-- With all pages in use a mutator flips at most once for an instruction.
use Rattle.std.proofs.Common.{◌≡◌, ℕ, ◌+◌, ◌<◌, ◌≤◌, ◌==◌, ◌&&◌, Bool, true, false, cond, List, ◌++◌, length, Option, Some, None, refl, ap, sym, subst, ◌∙◌, arith, ⊎_elim, append-nil, eq-eqb}
use Rattle.std.proofs.lemmas.Bool.{cases_lt, eqb-true, eqb-false, ne_eqb}
use Rattle.std.proofs.lemmas.List.{get_or_past}
use Rattle.atom_store.specs.declared.step.Step.{Step}
use Rattle.atom_store.specs.Step.{reply_of, words_after}
use Rattle.gc_worker.specs.declared.calls.did.Did.TheVariants.{Done, Trap}
use Rattle.gc_worker.specs.declared.calls.entry.Entry.{Entry}
use Rattle.gc_worker.specs.History.Legal.{extra}
use Rattle.gc_worker.specs.History.Tally.{FitsTally, Tally, tally}
use Rattle.gc_worker.specs.Laws.Cycles.{IsFirst, size_of}
use Rattle.gc_worker.specs.Laws.Step.{FlipsOnce, FlipsWhereTold, nobody}
use Rattle.gc_worker.specs.Steps.Stepped.{stepped_by}
use Rattle.gc_worker.specs.Steps.Turned.{Told, Silent, Empties, Answers, Marks, told}
use Rattle.gc_worker.specs.Steps.Wanted.{wanted}
use Rattle.gc_worker.specs.Workers.Held.{Held}
use Rattle.gc_worker.proofs.Cycles.Flips.{flips_are_first}
use Rattle.gc_worker.proofs.History.Counted.Tallies.{tally_append}
use Rattle.gc_core.specs.Core.{CoreState, size_in}
use Rattle.gc_core.specs.Cycles.{flips_after, flips_next}
use Rattle.gc_core.specs.Event.{event_of, readied, ready}
use Rattle.gc_core.proofs.Events.Readied.{ReadyToStep}
use Rattle.gc_core.proofs.Runs.History.{HasHistory, adds, first, given, its_ready, law}

-- mutator m has flipped once with all pages in use since its last answer, if it has asked for a flip since then, and else not
abbrev pub FlippedOnce : (m : ℕ) → Tally → (flips : ℕ) → Type 0
FlippedOnce m t flips = (flips ≤ 1) × (0 < flips → t.asked m ≡ true)

-- the same once this is told of worker w
module _ (m w flips : ℕ) (t : Tally) (once : FlippedOnce m t flips) where
  by_answer : (b : Bool) → (w == m) ≡ b → (cond b 0 flips ≤ 1) × (0 < cond b 0 flips → cond (m == w) false (t.asked m) ≡ true)
  by_answer true same = (omega arith, λ some. absurd (omega (arith, some)))
  by_answer false other = (once.0, λ some. ap (λ (b : Bool). cond b false (t.asked m)) (ne_eqb m w (λ e. eqb-false w m other (sym e))) ∙ once.1 some)

  by_flip : (all b : Bool) → (all ≡ true → t.asked w ≡ false) → (w == m) ≡ b
      → (cond (b && all) (flips + 1) flips ≤ 1) × (0 < cond (b && all) (flips + 1) flips → cond (m == w) true (t.asked m) ≡ true)
  by_flip all false first other = (once.0, λ some. ap (λ (b : Bool). cond b true (t.asked m)) (ne_eqb m w (λ e. eqb-false w m other (sym e))) ∙ once.1 some)
  by_flip false true first same = (once.0, λ some. ap (λ (b : Bool). cond b true (t.asked m)) (eq-eqb m w (sym (eqb-true w m same))))
  by_flip true true first same =
      let is = eqb-true w m same in
      let none : flips < 1 = ⊎_elim (λ (none : flips < 1). none)
      (λ (some : 1 ≤ flips). absurd (let asked = once.1 (omega (arith, some)) in let not = ap t.asked (sym is) ∙ first refl in let never = sym asked ∙ not in cc)) (cases_lt flips 1) in
      (omega (arith, none), λ some. ap (λ (b : Bool). cond b true (t.asked m)) (eq-eqb m w (sym is)))

  stays_once : (all : Bool) (u : Told) → ((pages : ℕ) → u ≡ Marks pages → all ≡ true → t.asked w ≡ false) → FlippedOnce m (tally t (extra t.flip w u)) (flips_after m flips all w (stepped_by w u))
  stays_once all Silent first = once
  stays_once all Empties first = once
  stays_once all (Answers task Done) first = by_answer (w == m) refl
  stays_once all (Answers task (Trap why)) first = by_answer (w == m) refl
  stays_once all (Marks pages) first = by_flip all (w == m) (first pages refl) refl

-- who flips with all pages in use has asked for none before
module _ (least : ℕ) (s : CoreState) (w : ℕ) (log : List Entry) (h : HasHistory least s log) (below : w < length s.heap.workers) (q : Step) (asked : wanted (ready s w) ≡ Some q) where
  abbrev t : Tally
  t = tally (first s) log

  abbrev r : ReadyToStep s w t.now t.flip
  r = its_ready least s w log h below q asked

  abbrev y : Held
  y = ready s w

  counts : FitsTally r.heap (given least s w log h below q asked).sizes t
  counts = (given least s w log h below q asked).counts

  module _ (pages : ℕ) (e : told y (reply_of q r.heap.words) ≡ Marks pages) (all : size_of r.heap.pages r.heap.words ≡ r.heap.pages) where
    -- it has seen none since it began its instruction
    unseen : y.epoch ≤ y.begun
    unseen = ⊎_elim
        (λ (own : y.epoch ≤ y.begun). own)
        (λ (grows : size_of r.heap.pages r.heap.words < r.heap.pages). absurd (omega (arith, grows, all)))
        (flips_are_first r.heap.pages r.heap.words y (reply_of q r.heap.words) pages (subst (IsFirst r.heap.pages r.heap.words) r.holds (counts.first w r.below)) e)

    once : FlipsOnce r.heap.pages r.heap.words (words_after q r.heap.words) y pages
    once = subst (FlipsWhereTold r.heap.pages r.heap.words (words_after q r.heap.words) y) e (law least s w log h below q asked).flips

    unasked : t.asked w ≡ false
    unasked = by_asked (t.asked w) refl
      where
        by_asked : (has : Bool) → t.asked w ≡ has → t.asked w ≡ false
        by_asked false is = is
        by_asked true is = absurd
            (let early : y.begun < t.flips = subst (λ (x : Held). x.begun < t.flips) r.holds (counts.call w is).1 in
            let own = unseen in
            let epoch = once.epoch in
            let flips = counts.epoch in
            omega (arith, early, own, epoch, flips))

  pub first_asked : (pages : ℕ) → told y (reply_of q s.heap.words) ≡ Marks pages → (size_in s == s.heap.pages) ≡ true → t.asked w ≡ false
  first_asked pages e all =
      unasked pages (ap (λ (words : List ℕ). told y (reply_of q words)) r.words ∙ e)
      (let same : size_of r.heap.pages r.heap.words ≡ size_in s = (λ i. size_of (r.pages i) (r.words i)) in same ∙ (eqb-true (size_in s) s.heap.pages all ∙ sym r.pages))

module _ (m least : ℕ) (s : CoreState) (w : ℕ) (log : List Entry) (flips : ℕ) (h : HasHistory least s log) (once : FlippedOnce m (tally (first s) log) flips) where
  idle_once : wanted (ready s w) ≡ None → FlippedOnce m (tally (first s) (log ++ adds s log w)) (flips_next m s w flips)
  unfolding event_of
  idle_once none = rw (none, append-nil log) once

  by_want : w < length s.heap.workers → (o : Option Step) → wanted (ready s w) ≡ o → FlippedOnce m (tally (first s) (log ++ adds s log w)) (flips_next m s w flips)
  unfolding event_of
  by_want below None is = idle_once is
  by_want below (Some q) is =
      let u : Told = told (ready s w) (reply_of q s.heap.words) in
      rw (is, tally_append (first s) log (extra (tally (first s) log).flip w u)) (stays_once m w flips (tally (first s) log) once (size_in s == s.heap.pages) u (first_asked least s w log h below q is))

  pub event_once : FlippedOnce m (tally (first s) (log ++ adds s log w)) (flips_next m s w flips)
  event_once = ⊎_elim
      (λ (below : w < length s.heap.workers). by_want below (wanted (ready s w)) refl)
      (λ (past : length s.heap.workers ≤ w). idle_once (ap (λ (x : Held). wanted (readied s.code s.turns w x)) (get_or_past s.heap.workers w nobody past)))
      (cases_lt w (length s.heap.workers))
