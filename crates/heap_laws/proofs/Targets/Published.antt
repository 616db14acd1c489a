-- The copy of a record is published: that of a cell has the target of the old one.
use Rattle.std.proofs.Common.{◌≡◌, ◌≢◌, ℕ, ◌+◌, ◌<◌, ◌≤◌, true, Some, refl, sym, ◌∙◌, arith, ⊎_elim, inl, inr}
use Rattle.std.proofs.lemmas.Bool.{cases_eq}
use Rattle.heap_words.specs.Decoded.{PointerWord, decode}
use Rattle.heap_state.specs.Cells.{Ranks, Chain}
use Rattle.heap_state.specs.Memory.Era.{Era, Memory}
use Rattle.heap_state.specs.Invariant.Ghost.{Ghost, Lands}
use Rattle.heap_state.specs.Invariant.Inductive.{Invariant}
use Rattle.heap_state.specs.Invariant.Parts.Copying.{Copies}
use Rattle.heap_state.specs.Targets.{IsCell, IsOld, Targets}
use Rattle.heap_state.specs.Known.{Team, Copy}
use Rattle.heap_state.proofs.Puts.{put_other, each_put}
use Rattle.heap_laws.specs.Copying.{published}
use Rattle.heap_laws.specs.Steps.{Ready}
use Rattle.heap_laws.specs.Targets.Copies.{PublishingCarriesTargets}
use Rattle.heap_laws.proofs.Cells.ChainRows.{StoresWord, stores_word}
use Rattle.heap_laws.proofs.Copying.Room.{untraced}
use Rattle.heap_laws.proofs.Targets.Carried.{cell_of, copied_cell, lands_still, lands_at}
use Rattle.heap_laws.proofs.Targets.TargetRows.{no_target_words}

module _ (E : Era) (m later : Memory) (weak turn : ℕ) (team : Team) (g : Ghost) (r : Ranks) (k : ℕ) (c : Copy) (v : ℕ) (ready : Ready E m team g k) (has : (team.worker k).copy ≡ Some c) (res : c.reserved ≡ true)
    (whole : c.done ≡ c.size) (s : StoresWord m later c.from v) (chain : Chain E m weak turn team g r) (t : Targets E m g) where
  abbrev inv : Invariant E m team g
  inv = ready.invariant

  mine : Copies E m.front g.size g.writer g.copy g.keeper g.kept m.announced m.cross m.heap k c
  mine = (inv.workers k ready.member).copy c has

  placed : (c.announced ≡ true) × (g.copy c.from ≡ c.to + 1) × (g.writer c.to ≡ k + 1) × (g.size c.to ≡ c.size) × (E.start ≤ c.to) × (c.to + c.size ≤ m.front)
  placed = mine.place res

  source : 0 < g.size c.from
  source = let o = mine.old in omega (arith, o)

  is_old : IsOld E c.from
  is_old = let o = mine.old in (o.4, omega (arith, o))

  still_copies : m.traced ≤ E.epoch
  still_copies = untraced E m team g k c ready has

  abbrev h : Ghost
  h = published g k c.from c.to

  -- ---- cells

  gone : (a : ℕ) → a ≢ c.to → IsCell h a → IsCell g a
  gone a d z = record { stands = z.stands; written = rw (put_other g.writer c.to 0 a d) at z.written; weak = z.weak }

  written : (b : ℕ) → g.writer b ≡ 0 → h.writer b ≡ 0
  written b e = each_put (λ (_ x : ℕ). x ≡ 0) g.writer c.to 0 b (λ _. e) (λ _. refl)

  -- what landed still does
  lands_on : (w : ℕ) → Lands g.size g.writer w → Lands h.size h.writer w
  lands_on w l = lands_still g h w (λ b st. st) (λ b _ e. written b e) l

  -- ---- targets

  same_word : (a : ℕ) → a ≢ c.from → later.heap a ≡ m.heap a
  same_word a d = rw s.heap (put_other m.heap c.from v a d)

  same : (a : ℕ) → IsCell g a → later.heap (a + 1) ≡ m.heap (a + 1)
  same a z = same_word (a + 1) (λ e. (no_target_words E m weak turn team g r k ready chain).first c.from source a z (sym e))

  -- the copy of a cell has the target of the old one, which leads into the old space
  module _ (cell : IsCell h c.to) where
    from_cell : IsCell g c.from
    from_cell = record { stands = source; written = inv.older.written c.from source is_old.0 is_old.1; weak = sym (inv.copied.target c.from c.to source placed.1).6 ∙ cell.weak }

    word : later.heap (c.to + 1) ≡ m.heap (c.from + 1)
    word =
        let z = chain.three c.from source from_cell.weak in
        let o = mine.old in
        let i = inv.laid.order in
        let p = ready.laid_out.apart in
        same_word (c.to + 1) (λ e. omega (arith, e, is_old, placed, p, i, o, z)) ∙ mine.same 1 (omega arith) (omega (arith, whole, o, z))

    leads : (b : ℕ) → decode (later.heap (c.to + 1)) ≡ PointerWord b → (0 < g.size b) × IsOld E b
    leads b e = t.older still_copies c.from b from_cell is_old (rw word at e)

    lands : Lands h.size h.writer (later.heap (c.to + 1))
    lands = lands_at h.size h.writer (later.heap (c.to + 1)) (λ b e. let o = leads b e in (o.0, written b (inv.older.written b o.0 o.1.0 o.1.1)))

  pub publishes : Targets E later h
  publishes = record {
    lands = λ a z from to. ⊎_elim
        (λ (e : a ≡ c.to). rw e (lands (rw e at z)))
        (λ (d : a ≢ c.to). let y = gone a d z in rw (same a y) (lands_on (m.heap (a + 1)) (t.lands a y from to)))
        (cases_eq a c.to);
    aims = λ a b z e. ⊎_elim
        (λ (x : a ≡ c.to). let y : IsCell h a = cell_of E later.front h a z in inl (leads (rw x at y) b (rw x at e)).1)
        (λ (d : a ≢ c.to).
        let y = gone a d (cell_of E later.front h a z) in
        let f = s.memory.front in
        ⊎_elim
        (λ o. inl o)
        (λ i. inr (i.0, omega (arith, i, f)))
        (t.aims a b (copied_cell E m.front g a y z.inside.0 (rw f at z.inside.1)) (rw (same a y) at e)))
        (cases_eq a c.to);
    new = λ a z from to.
        let o = mine.old in
        let i = inv.laid.order in
        let l : m.low ≤ a = rw s.low at from in
        let d : a ≢ c.to = λ e. omega (arith, e, l, placed, o, i) in
        let y = gone a d z in
        rw (same a y) (t.new a y l to);
    clean = λ e. absurd (let f = s.memory.traced in omega (arith, e, f, still_copies));
    older = λ le a b z old e.
        let o = mine.old in
        let i = inv.laid.order in
        let p = ready.laid_out.apart in
        let d : a ≢ c.to = λ x. omega (arith, x, old, placed, p, i, o) in
        let y = gone a d z in
        t.older still_copies a b y old (rw (same a y) at e);
  }

pub publishing_carries_targets : PublishingCarriesTargets
publishing_carries_targets E m later weak turn team g r k c v ready has res whole writes chain t =
    publishes E m later weak turn team g r k c v ready has res whole (stores_word writes refl) chain t
