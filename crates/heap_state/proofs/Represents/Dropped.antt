-- The invariant without the records of the old space, once the epoch is traced: what workers know of it, and the whole.
use Rattle.std.proofs.Common.{◌≡◌, ℕ, ◌+◌, ◌<◌, true, arith, Some, None, ◌∙◌}
use Rattle.heap_state.specs.Memory.Table.{IsFormed}
use Rattle.heap_state.specs.Configuration.{Configuration, era, memory, team}
use Rattle.heap_state.specs.Memory.Era.{Era, Memory}
use Rattle.heap_state.specs.Invariant.Ghost.{Ghost}
use Rattle.heap_state.specs.Invariant.Inductive.{Invariant, Knows}
use Rattle.heap_state.specs.Invariant.Parts.Cells.{Cells}
use Rattle.heap_state.specs.Invariant.Parts.Copying.{IsOrigin, Seeks, Copies, Keeps}
use Rattle.heap_state.specs.Invariant.Parts.Knowledge.{Clean, Accesses}
use Rattle.heap_state.specs.Invariant.Parts.Scanning.{Scans, Stepping, Claims}
use Rattle.heap_state.specs.Targets.{IsCell, Targets}
use Rattle.heap_state.specs.Known.{Known, Origin, Register, Scanned, Quest, Copy, Access, Scan, Claim, is_mutator, is_late}
use Rattle.heap_state.proofs.Holds.Still.{nobody_scans, nobody_copies}
use Rattle.heap_state.proofs.Represents.Denoting.{target_clean}
use Rattle.heap_state.proofs.Represents.Dropping as drop
use Rattle.heap_state.proofs.Represents.Dropping.{without_old}

module _ (c : Configuration) (g : Ghost) (formed : IsFormed c.pages c.words) (inv : Invariant (era c) (memory c) (team c) g) (traced : (memory c).traced ≡ (era c).epoch + 1) where
  abbrev E : Era
  E = era c

  abbrev m : Memory
  m = memory c

  abbrev h : Ghost
  h = without_old E g

  module _ (k : ℕ) (l : k < (team c).count) where
    abbrev w : Known
    w = (team c).worker k

    knew : Knows E m.gate m.traced m.front m.low m.old_front m.old_low m.old_owed g m.page m.cross m.announced m.heap k w
    knew = inv.workers k l

    not_late : is_late E.epoch w ≡ true → ⊥
    not_late e = let b = knew.licensed.counted e in let z = (inv.tracing.quiet traced).none in omega (arith, b, z)

    -- nobody asks for a copy
    asks_not : (q : Quest) → w.quest ≡ Some q → ⊥
    asks_not q e = by_origin q.origin (knew.origin q e)
      where
        by_origin : (o : Origin) → IsOrigin E g.size g.writer g.kind m.heap (is_late E.epoch w) w.done w.registers w.scan q.old o → ⊥
        by_origin (Register r) y = not_late y.0
        by_origin (Scanned x) y = nobody_scans E m (team c) g inv traced k y.0.0 l y.0.1

    registers : is_mutator w.post ≡ true → w.account.end ≡ None → Clean E h.size h.writer (is_late E.epoch w) w.done w.registers
    registers mutator unended = let r = knew.registers mutator unended in record {
      clean = r.clean;
      lands = λ j s. drop.lands_on c g formed inv traced (w.registers j) (r.lands j s) (r.clean j s (λ e. absurd (not_late e)));
      old = r.old;
    }

    access : (f : Access) → w.access ≡ Some f → Accesses E h.size h.writer h.kind f
    access f e = let a = knew.access f e in let z = drop.still c g formed inv traced f.at a.inside.0 a.inside.1 in let s = a.stands in record {
      stands = omega (arith, z, s);
      written = a.written;
      inside = a.inside;
      first = a.first;
      word = (let i = a.word in (i.0, omega (arith, i, z)));
      role = a.role;
    }

    claim : (q : Claim) → w.claim ≡ Some q → Claims E m.front m.gate.behind h.size h.writer m.page w.epoch q
    claim q e = let a = knew.pages.claim q e in record {
      earlier = a.earlier;
      full = a.full;
      clear = λ n i b j st. a.clear n i b j (drop.was c g formed inv traced b st).0;
      last = a.last;
      late = a.late;
      in_place = a.in_place;
    }

    knows : Knows E m.gate m.traced m.front m.low m.old_front m.old_low m.old_owed h m.page m.cross m.announced m.heap k w
    knows =
        let origin : (q : Quest) → w.quest ≡ Some q → IsOrigin E h.size h.writer h.kind m.heap (is_late E.epoch w) w.done w.registers w.scan q.old q.origin = λ q e. absurd (asks_not q e) in
        let quest : (q : Quest) → w.quest ≡ Some q → Seeks E h.size h.writer h.copy q = λ q e. absurd (asks_not q e) in
        let copy : (q : Copy) → w.copy ≡ Some q → Copies E m.front h.size h.writer h.copy h.keeper h.kept m.announced m.cross m.heap k q = λ q e. absurd (nobody_copies E m (team c) g inv traced k q l e) in
        let keeps : (q : Copy) → w.copy ≡ Some q → Keeps h.kind h.identity m.heap q = λ q e. absurd (nobody_copies E m (team c) g inv traced k q l e) in
        let scan : (s : Scan) → w.scan ≡ Some s → Scans E m.front h.size h.writer h.kind m.heap m.page k s = λ s e. absurd (nobody_scans E m (team c) g inv traced k s l e) in
        let stepping : (s : Scan) → w.scan ≡ Some s → Stepping E m.front h.size h.writer h.kind s = λ s e. absurd (nobody_scans E m (team c) g inv traced k s l e) in
        assumption (knew, registers, access, claim)

  -- a cell that still stands was one, in the epoch's space
  was_cell : (a : ℕ) → IsCell h a → IsCell g a
  was_cell a z = record { stands = (drop.was c g formed inv traced a z.stands).0; written = z.written; weak = z.weak }

  targets : Targets E m h
  targets = let t = inv.cells.targets in record {
    lands = λ a z from to. let y = was_cell a z in drop.lands_on c g formed inv traced (m.heap (a + 1)) (t.lands a y from to) (target_clean c g formed inv traced a y from to);
    aims = λ a b z e. t.aims a b (record { stands = (drop.was c g formed inv traced a z.stands).0; written = z.written; weak = z.weak; inside = z.inside }) e;
    new = λ a z from to. t.new a (was_cell a z) from to;
    clean = λ e a z. t.clean e a (record { stands = (drop.was c g formed inv traced a z.stands).0; written = z.written; weak = z.weak; inside = z.inside });
    older = λ le. absurd (omega (arith, le, traced));
  }

  -- since the epoch is traced nobody links or walks
  cells : Cells E m (team c) h
  cells = let b = inv.cells.chain in record {
    ranks = inv.cells.ranks;
    chain = record {
      top = b.top;
      turned = b.turned;
      linked = λ t. absurd (omega (arith, t, traced));
      all = λ t. absurd (omega (arith, t, traced));
      linking = λ k l y e. absurd (let z = (b.linking k l y e).copying in omega (arith, z, traced));
      apart = b.apart;
      pass = λ k q y e. absurd (let z = (b.pass k q y e).now in omega (arith, z, traced));
      one = b.one;
      walker = λ t. absurd (omega (arith, t, traced));
      reset = b.reset;
      three = λ a st e. let u = drop.was c g formed inv traced a st in u.3 ∙ b.three a u.0 e;
    };
    targets = targets;
  }

  pub dropped : Invariant E m (team c) h
  dropped = record {
    counted = inv.counted;
    staffed = inv.staffed;
    laid = drop.laid c g formed inv traced;
    headed = drop.headed c g formed inv traced;
    copied = drop.copied c g formed inv traced;
    once = drop.once c g formed inv traced;
    kept = drop.keepers c g formed inv traced;
    room = drop.room c g formed inv traced;
    raw_words = drop.raw_words c g formed inv traced;
    counts = drop.counts c g formed inv traced;
    shut = drop.shut c g formed inv traced;
    filling = inv.filling;
    tracing = inv.tracing;
    aged = inv.aged;
    scanned = inv.scanned;
    opened = drop.opened c g formed inv traced;
    landing = drop.landing c g formed inv traced;
    older = drop.older c g formed inv traced;
    new = drop.new c g formed inv traced;
    new_written = drop.new_written c g formed inv traced;
    old_space = drop.old_space c g formed inv traced;
    old_area = inv.old_area;
    old_pages = inv.old_pages;
    sizes = inv.sizes;
    crossing = drop.crossing c g formed inv traced;
    stocks = drop.stocks c g formed inv traced;
    numbered = drop.numbered c g formed inv traced;
    cells = cells;
    workers = knows;
  }
