-- A step that leaves what is known of targets: it is known after the step.
use Rattle.std.proofs.Common.{◌≡◌, ℕ, ◌+◌, ◌<◌, ◌≤◌, sym, ◌∙◌, arith, ⊎_elim, inl, inr}
use Rattle.heap_state.specs.Cells.{IsCopiedCell}
use Rattle.heap_state.specs.Memory.Era.{Era, Memory}
use Rattle.heap_state.specs.Invariant.Ghost.{Ghost, Leads, Lands}
use Rattle.heap_state.specs.Targets.{IsCell, Targets}
use Rattle.heap_words.specs.Decoded.{PointerWord, decode}
use Rattle.heap_laws.specs.Targets.Frames.{CarriesTargets, TargetsAreCarried}

-- ---- cells

-- a copied cell is a cell, and so is one that stands below FRONT of the epoch's space
pub cell_of : (E : Era) (front : ℕ) (g : Ghost) (a : ℕ) → IsCopiedCell E front g a → IsCell g a
cell_of E front g a c = record { stands = c.stands; written = c.written; weak = c.weak }

pub copied_cell : (E : Era) (front : ℕ) (g : Ghost) (a : ℕ) → IsCell g a → E.start ≤ a → a < front → IsCopiedCell E front g a
copied_cell E front g a c from below = record { stands = c.stands; written = c.written; weak = c.weak; inside = (from, below) }

-- ---- words

-- a word leads to a record that nobody writes, if each such record still is one
pub lands_still : (g h : Ghost) (w : ℕ) → ((b : ℕ) → 0 < g.size b → 0 < h.size b) → ((b : ℕ) → 0 < g.size b → g.writer b ≡ 0 → h.writer b ≡ 0) → Lands g.size g.writer w → Lands h.size h.writer w
unfolding Lands
lands_still g h w stands written l b e = let o = l b e in (stands b o.0, written b o.0 o.1)

-- a word that leads to a record that nobody writes
pub lands_at : (size writer : ℕ → ℕ) (w : ℕ) → ((b : ℕ) → decode w ≡ PointerWord b → (0 < size b) × (writer b ≡ 0)) → Lands size writer w
unfolding Lands
lands_at size writer w f = f

pub landed : (size writer : ℕ → ℕ) (w b : ℕ) → Lands size writer w → decode w ≡ PointerWord b → (0 < size b) × (writer b ≡ 0)
unfolding Lands
landed size writer w b l e = l b e

-- a word that leads into the old space
pub leads_at : (E : Era) (w b : ℕ) → decode w ≡ PointerWord b → E.old_start ≤ b → b < E.old_start + E.old_span → Leads E w
unfolding Leads
leads_at E w b e from to = (b, e, from, to)

pub led : (E : Era) (w : ℕ) → Leads E w → (b : ℕ) × (decode w ≡ PointerWord b) × (E.old_start ≤ b) × (b < E.old_start + E.old_span)
unfolding Leads
led E w l = l

-- ---- the whole

module _ (E : Era) (m later : Memory) (g h : Ghost) (carries : CarriesTargets E m later g h) (t : Targets E m g) where
  was : (a : ℕ) → IsCopiedCell E later.front h a → IsCopiedCell E m.front g a
  was a c = copied_cell E m.front g a (carries.fewer a (cell_of E later.front h a c)) c.inside.0 (carries.below a c)

  same : (a : ℕ) → IsCopiedCell E later.front h a → later.heap (a + 1) ≡ m.heap (a + 1)
  same a c = carries.targets a (cell_of E later.front h a c)

  pub carried : Targets E later h
  carried = record {
    lands = λ a c from to. rw (carries.targets a c) (lands_still g h (m.heap (a + 1)) carries.stands carries.written (t.lands a (carries.fewer a c) from to));
    aims = λ a b c e. ⊎_elim (λ o. inl o) (λ i. let f = carries.front in inr (i.0, omega (arith, i, f))) (t.aims a b (was a c) (rw (same a c) at e));
    new = λ a c from to. rw (carries.targets a c) (t.new a (carries.fewer a c) (carries.above a c from to) to);
    clean = λ e a c. rw (same a c) (t.clean (sym carries.traced ∙ e) a (was a c));
    older = λ le a b c old e. let o = t.older (rw carries.traced at le) a b (carries.fewer a c) old (rw (carries.targets a c) at e) in (carries.stands b o.0, o.1);
  }

pub targets_are_carried : TargetsAreCarried
targets_are_carried E m later g h carries t = carried E m later g h carries t
