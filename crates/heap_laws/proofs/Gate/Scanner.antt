-- A scanner takes the epoch of the gate.
use Rattle.std.proofs.Common.{◌≡◌, ℕ, ◌<◌, false, Some, None, refl, sym, ap, ◌∙◌}
use Rattle.heap_state.specs.Memory.Era.{Era, Memory}
use Rattle.heap_state.specs.Invariant.Ghost.{Ghost}
use Rattle.heap_state.specs.Invariant.Inductive.{Invariant, Knows}
use Rattle.heap_state.specs.Invariant.Parts.Copying.{IsOrigin}
use Rattle.heap_state.specs.Known.{Known, Team, Scanner, Origin, Register, Scanned, Quest, is_mutator, is_flipper, is_late, is_asking}
use Rattle.heap_state.proofs.Puts.{none≢some, true_false}
use Rattle.heap_laws.specs.Gate.{TakingEpochKeeps, into_epoch}
use Rattle.heap_laws.specs.Steps.{with_worker, Preserves}
use Rattle.heap_laws.proofs.Cells.Kept.{none_is_some}
use Rattle.heap_laws.proofs.Gate.GateCounts.{counted_moves}
use Rattle.heap_laws.proofs.Gate.Team.{passing_keeps}
use Rattle.heap_laws.proofs.Gate.Worker.{none_at_pages, knows_then}
use Rattle.heap_laws.proofs.Steps.Learning.{learnt}

module _ (E : Era) (m : Memory) (team : Team) (g : Ghost) (k : ℕ) (inv : Invariant E m team g) (below : k < team.count) (at_gate : m.gate.epoch ≡ E.epoch) (scanner : (team.worker k).post ≡ Scanner)
    (idle : (team.worker k).scan ≡ None) (free : (team.worker k).pass ≡ None) where
  abbrev w : Known
  w = team.worker k

  me : Knows E m.gate m.traced m.front m.low m.old_front m.old_low m.old_owed g m.page m.cross m.announced m.heap k w
  me = inv.workers k below

  not_late : (e : ℕ) → is_late e w ≡ false
  not_late e = rw scanner refl

  not_flipping : is_flipper w.post ≡ false
  not_flipping = ap is_flipper scanner

  not_asking : is_asking w.post ≡ false
  not_asking = ap is_asking scanner

  no_quest : (q : Quest) → w.quest ≡ Some q → ⊥
  no_quest q e = by_origin q.origin (me.origin q e)
    where
      by_origin : (o : Origin) → IsOrigin E g.size g.writer g.kind m.heap (is_late E.epoch w) w.done w.registers w.scan q.old o → ⊥
      by_origin (Register r) y = true_false (not_late E.epoch) y.0
      by_origin (Scanned x) y = none≢some (sym idle ∙ y.0.1)

  takes_epoch : Preserves E m m team (with_worker team k (into_epoch w m.gate.epoch)) g g
  takes_epoch = passing_keeps
      (record {
        inv = inv;
        below = below;
        mutator = refl;
        account = refl;
        registers = refl;
        scan = refl;
        stock = λ q e. none≢some e;
        goes = record { linking = refl; pass = refl; cleared = λ e. e; licence = λ _ knows _. absurd (no_quest knows.0 knows.1); ground = λ walks. none_is_some free walks };
        none_left = λ r l y d. true_false (not_late E.epoch) y;
      })
      m.gate
      (counted_moves team.worker team.count k (into_epoch w m.gate.epoch) w.post w.post m.gate m.gate false false below refl refl (not_late m.gate.epoch) (rw scanner refl) refl refl refl refl refl refl inv.counted.still inv.counted)
      inv.filling
      inv.tracing
      inv.sizes
      (λ j l d. inv.workers j l)
      (knows_then E m team g k m.gate inv below (λ r e. true_false not_flipping (me.resets r e)) w.post m.gate.epoch 0 (into_epoch w m.gate.epoch) w.access w.opened w.size_seen w.traced_seen
      (record {
        now = at_gate;
        done_none = refl;
        inside = λ e. absurd (let q = sym scanner ∙ e in cc);
        ends = me.ends;
        not_asked = λ q l e. no_quest q e;
        clean = λ mu end. true_false (ap is_mutator scanner) mu;
        stocks = λ q e. none≢some e;
        accesses = λ f e. (me.active f e, me.access f e);
        opens = me.opened;
        sizes = me.size_seen;
        pages = none_at_pages w m.gate.epoch;
        seen = me.seen_traced;
        asks = me.asks;
        unsized = λ e. true_false not_asking e;
      }))

pub takes_epoch_of_gate : TakingEpochKeeps
takes_epoch_of_gate E m team g k ready scanner idle free = learnt (takes_epoch E m team g k ready.invariant ready.member ready.at_gate scanner idle free)
