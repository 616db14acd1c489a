-- Who flips finds the epoch traced, so that no target leads into the old space. The other space gets its size, and the heap is flipped.
use Rattle.std.proofs.Common.{◌≡◌, ℕ, ◌+◌, ◌<◌, ◌≤◌, true, Some, arith, ⊎_elim, inr}
use Rattle.heap_words.specs.Decoded.{PointerWord, decode}
use Rattle.heap_state.specs.Cells.{IsCopiedCell}
use Rattle.heap_state.specs.Memory.Era.{Era, Memory, IsLaidOut}
use Rattle.heap_state.specs.Invariant.Ghost.{Ghost, Leads}
use Rattle.heap_state.specs.Invariant.Inductive.{Knows}
use Rattle.heap_state.specs.Targets.{IsCell, Targets}
use Rattle.heap_state.specs.Known.{Team, Reset}
use Rattle.heap_state.proofs.Workers.Posts.{flips_ask}
use Rattle.heap_laws.specs.Flipping.Flip.{next_era, next_memory, next_ghost}
use Rattle.heap_laws.specs.Flipping.Sizes.{sized_era}
use Rattle.heap_laws.specs.Steps.{Ready}
use Rattle.heap_laws.specs.Targets.Flips.{SizesCarryTargets, FlippingCarriesTargets}
use Rattle.heap_laws.proofs.Flipping.Sums.{stood, inside}
use Rattle.heap_laws.proofs.Targets.Carried.{cell_of, leads_at, led}
use Rattle.heap_laws.proofs.Targets.TracedTargets.{leads_inside}
use Rattle.heap_laws.proofs.Tracing.TracedExchange.{leads_nowhere}

module _ (E : Era) (m : Memory) (team : Team) (g : Ghost) (k : ℕ) (z : Reset) (ready : Ready E m team g k) (has : (team.worker k).reset ≡ Some z) (t : Targets E m g) where
  me : Knows E m.gate m.traced m.front m.low m.old_front m.old_low m.old_owed g m.page m.cross m.announced m.heap k (team.worker k)
  me = ready.invariant.workers k ready.member

  traced : m.traced ≡ E.epoch + 1
  traced = (me.seen_traced (me.asks (flips_ask (team.worker k).post (me.resets z has)))).1

  inside_space : (a b : ℕ) → IsCell g a → E.start ≤ a → a < E.start + E.span → decode (m.heap (a + 1)) ≡ PointerWord b → (0 < g.size b) × (E.start ≤ b) × (b < E.start + E.span)
  inside_space = leads_inside E m team g k ready traced t

  -- ---- the other space's size

  module _ (q : ℕ) (out : IsLaidOut (sized_era E q)) where
    abbrev E1 : Era
    E1 = sized_era E q

    clean_then : (a : ℕ) → IsCell g a → E.start ≤ a → a < E.start + E.span → ¬ (Leads E1 (m.heap (a + 1)))
    clean_then a c from to leads =
        let l = led E1 (m.heap (a + 1)) leads in
        let i = inside_space a l.0 c from to l.1 in
        let p = out.apart in
        omega (arith, l.2, l.3, i.1, i.2, p)

    -- a copied cell still is one
    was : (a : ℕ) → IsCopiedCell E1 m.front g a → IsCopiedCell E m.front g a
    was a c = record { stands = c.stands; written = c.written; weak = c.weak; inside = c.inside }

    below : (a : ℕ) → IsCopiedCell E1 m.front g a → a < E.start + E.span
    below a c = let i = c.inside in let o = ready.invariant.laid.order in omega (arith, i, o)

    pub sizes : Targets E1 m g
    sizes = record {
      lands = t.lands;
      aims = λ a b c e. ⊎_elim
          (λ o. absurd (t.clean traced a (was a c) (leads_at E (m.heap (a + 1)) b e o.0 o.1)))
          (λ i. inr i)
          (t.aims a b (was a c) e);
      new = λ a c from to. clean_then a c (let o = ready.invariant.laid.order in omega (arith, o, from)) to;
      clean = λ _ a c. clean_then a (cell_of E1 m.front g a c) c.inside.0 (below a c);
      older = λ le. absurd (omega (arith, le, traced));
    }

  -- ---- the flip

  module _ (stored : z.stored ≡ true) where
    -- nothing stands in the space that becomes the epoch's
    none : (a : ℕ) → E.old_start ≤ a → a < E.old_start + E.old_span → ¬ (IsCell (next_ghost E g) a)
    none a from to c = let o = stood E.start E.span g.size a c.stands in let p = ready.laid_out.apart in omega (arith, o.1, o.2, p, from, to)

    pub flips : Targets (next_era E) (next_memory m) (next_ghost E g)
    flips = record {
      lands = λ a c from to. absurd (none a from to c);
      aims = λ a b c _. absurd (let i = c.inside in let o = stood E.start E.span g.size a c.stands in let p = ready.laid_out.apart in let f = ((me.reset z has).stored stored).1 in omega (arith, o.1, o.2, p, i, f));
      new = λ a c from to. absurd (let l = ready.invariant.old_area.order in none a (omega (arith, l, from)) to c);
      clean = λ e. absurd (omega (arith, e, traced));
      older = λ _ a b c old e.
          let o = stood E.start E.span g.size a c.stands in
          let w = (leads_nowhere E m team g ready.laid_out ready.invariant traced).none_writes a o.0 in
          let i = inside_space a b (record { stands = o.0; written = w; weak = c.weak }) o.1 o.2 e in
          let s = inside E.start E.span g.size b i.1 i.2 in
          let st = i.0 in
          (omega (arith, s, st), (i.1, i.2));
    }

pub sizes_carry_targets : SizesCarryTargets
sizes_carry_targets E m team g k z q ready has out t = sizes E m team g k z ready has t q out

pub flipping_carries_targets : FlippingCarriesTargets
flipping_carries_targets E m team g k z ready of t = flips E m team g k z ready of.reset t of.stored
