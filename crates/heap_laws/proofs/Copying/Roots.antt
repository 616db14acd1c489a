-- Who is late is a mutator that has no end; and what a worker asks for was reachable at the flip.
use Rattle.std.proofs.Common.{◌≡◌, ℕ, ◌+◌, ◌<◌, ◌≤◌, Bool, true, false, Option, Some, None, is_some, refl, arith, ⊎_elim, ◌&&◌, eqb}
use Rattle.std.proofs.lemmas.Bool.{eqb-true}
use Rattle.plain_state.specs.Reachable.{Reachable}
use Rattle.plain_state.specs.State as plain
use Rattle.plain_state.specs.declared.end.End.{End}
use Rattle.heap_state.specs.Cycles.Cycle.{Cycle}
use Rattle.heap_state.specs.Memory.Era.{Era, Memory}
use Rattle.heap_state.specs.Invariant.Ghost.{Ghost}
use Rattle.heap_state.specs.Invariant.Inductive.{Invariant, Knows}
use Rattle.heap_state.specs.Invariant.Parts.Copying.{IsOrigin}
use Rattle.heap_state.specs.Known.{Known, Team, Post, Scanner, Quest, Origin, Register, Scanned, is_mutator, is_live, is_running, is_gone, is_late}

left_of : (x y : Bool) → x && y ≡ true → (x ≡ true) × (y ≡ true)
left_of true y e = (refl, e)
left_of false y e = absurd (cc)

-- who is late is live
pub late_lives : (e : ℕ) (w : Known) → is_late e w ≡ true → is_live w.post ≡ true
late_lives e w h = (left_of (is_live w.post) (eqb (w.epoch + 1) e) h).0

live_mutator : (post : Post) → is_live post ≡ true → is_mutator post ≡ true
live_mutator Scanner e = e
live_mutator _ e = refl

live_here : (post : Post) → is_live post ≡ true → is_gone post ≡ true → ⊥
live_here Scanner e g = absurd (cc)
live_here _ e g = absurd (cc)

no_end : (o : Option End) → (is_some o ≡ true → ⊥) → o ≡ None
no_end None f = refl
no_end (Some x) f = absurd (f refl)

module _ (E : Era) (m : Memory) (team : Team) (g : Ghost) (k : ℕ) (inv : Invariant E m team g) (l : k < team.count) where
  abbrev w : Known
  w = team.worker k

  knows : Knows E m.gate m.traced m.front m.low m.old_front m.old_low m.old_owed g m.page m.cross m.announced m.heap k w
  knows = inv.workers k l

  pub late_mutator : is_late E.epoch w ≡ true → is_mutator w.post ≡ true
  late_mutator e = live_mutator w.post (left_of (is_live w.post) (eqb (w.epoch + 1) E.epoch) e).0

  pub late_unended : is_late E.epoch w ≡ true → w.account.end ≡ None
  late_unended e =
      let b = left_of (is_live w.post) (eqb (w.epoch + 1) E.epoch) e in
      let past : w.epoch + 1 ≡ E.epoch = eqb-true (w.epoch + 1) E.epoch b.1 in
      no_end w.account.end (λ s. ⊎_elim
      (λ (r : is_running w.post ≡ true). let now = knows.timely.running r in omega (arith, now, past))
      (λ (n : is_gone w.post ≡ true). live_here w.post b.0 n)
      (knows.ends.stays s))

  -- the record that is asked for was reachable at the flip
  pub asked_reachable : (q : Quest) (p : plain.Plain) → w.quest ≡ Some q → Cycle E m team g p → Reachable p (g.identity q.old)
  asked_reachable q p e cy = by_origin q.origin (knows.origin q e)
    where
      old : (0 < g.size q.old) × (E.old_start ≤ q.old) × (q.old < E.old_start + E.old_span)
      old = (knows.quest q e).old

      by_origin : (o : Origin) → IsOrigin E g.size g.writer g.kind m.heap (is_late E.epoch w) w.done w.registers w.scan q.old o → Reachable p (g.identity q.old)
      by_origin (Register r) x =
          cy.rooted.sound k r (g.identity q.old) l (late_mutator x.0) (late_unended x.0) x.2 (record { at = q.old; points = x.3; old = (old.1, old.2); named = refl })
      by_origin (Scanned y) x = cy.copying.sound y (g.identity q.old) x.1 (record { at = q.old; points = x.2; old = (old.1, old.2); named = refl })
