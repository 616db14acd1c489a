-- Once the epoch is traced, the target of a cell of the epoch's space leads to a record of that space.
use Rattle.std.proofs.Common.{◌≡◌, ℕ, ◌+◌, ◌<◌, ◌≤◌, arith, ⊎_elim}
use Rattle.heap_words.specs.Decoded.{PointerWord, decode}
use Rattle.heap_state.specs.Memory.Era.{Era, Memory}
use Rattle.heap_state.specs.Invariant.Ghost.{Ghost, Leads}
use Rattle.heap_state.specs.Targets.{IsCell, Targets}
use Rattle.heap_state.specs.Known.{Team}
use Rattle.heap_laws.specs.Steps.{Ready}
use Rattle.heap_laws.specs.Targets.Walks.{TracedTargetsAreHeld}
use Rattle.heap_laws.proofs.Targets.Carried.{copied_cell, landed, leads_at}

module _ (E : Era) (m : Memory) (team : Team) (g : Ghost) (k : ℕ) (ready : Ready E m team g k) (traced : m.traced ≡ E.epoch + 1) (t : Targets E m g) where
  -- it doesn't lead into the old space
  pub clean : (a : ℕ) → IsCell g a → E.start ≤ a → a < E.start + E.span → ¬ (Leads E (m.heap (a + 1)))
  clean a c from to =
      let p = ready.laid_out.apart in
      let st = c.stands in
      ⊎_elim
      (λ l. t.clean traced a (copied_cell E m.front g a c from (omega (arith, l, st))))
      (λ o. ⊎_elim
      (λ l. t.new a c l.0 to)
      (λ l. absurd (omega (arith, l, p, from, to, st)))
      o)
      (ready.invariant.laid.lies a st)

  pub leads_inside : (a b : ℕ) → IsCell g a → E.start ≤ a → a < E.start + E.span → decode (m.heap (a + 1)) ≡ PointerWord b → (0 < g.size b) × (E.start ≤ b) × (b < E.start + E.span)
  leads_inside a b c from to e =
      let st = (landed g.size g.writer (m.heap (a + 1)) b (t.lands a c from to) e).0 in
      let o = ready.invariant.laid.order in
      ⊎_elim
      (λ l. (st, l.0, omega (arith, l, o, st)))
      (λ y. ⊎_elim
      (λ l. (st, omega (arith, l, o), omega (arith, l, st)))
      (λ l. absurd (clean a c from to (leads_at E (m.heap (a + 1)) b e l.0 (omega (arith, l, st)))))
      y)
      (ready.invariant.laid.lies b st)

pub traced_targets_are_held : TracedTargetsAreHeld
traced_targets_are_held E m team g k a ready traced c from to t = record { clean = clean E m team g k ready traced t a c from to; lands = t.lands a c from to }
