-- A configuration that stands for one plain state stands for each that it represents. All that stands is in reach while records
-- are copied from the old space; later its records, which no plain state that is represented needs to have, are dropped.
use Rattle.std.proofs.Common.{◌≡◌, ℕ, ◌+◌, ◌<◌, ◌≤◌, arith, ⊎_elim, inl, inr}
use Rattle.std.proofs.lemmas.Bool.{cases_lt}
use Rattle.plain_state.specs.State.{Plain}
use Rattle.heap_state.specs.Configuration.{Configuration, era, memory, team, Stands}
use Rattle.heap_state.specs.Cycles.Cycle.{Cycle}
use Rattle.heap_state.specs.Memory.Era.{Era, Memory}
use Rattle.heap_state.specs.Invariant.Ghost.{Ghost}
use Rattle.heap_state.specs.Meaning.Represents.{Represents}
use Rattle.heap_state.specs.Theorems.Standing.{StandsInCycle}
use Rattle.heap_state.proofs.Represents.Dropped.{dropped}
use Rattle.heap_state.proofs.Represents.DroppedCycle.{dropped_cycle}
use Rattle.heap_state.proofs.Represents.Dropping.{without_old, was}
use Rattle.heap_state.proofs.Represents.Showing.{shown}
use Rattle.heap_state.proofs.Walks.InHeap.{IsInReach}

-- it stands, and keeps of each cycle what was kept with this ghost
record KeepsOn (c : Configuration) (q : Plain) (g : Ghost) : Type 0 where
  stands : Stands c q
  cycle : (o : Plain) → Cycle (era c) (memory c) (team c) g o → Cycle (era c) (memory c) (team c) stands.ghost o

module _ (c : Configuration) (p q : Plain) (s : Stands c p) (represents : Represents c q) where
  abbrev E : Era
  E = era c

  abbrev m : Memory
  m = memory c

  while_copying : m.traced ≤ E.epoch → KeepsOn c q s.ghost
  while_copying t = record {
    stands = record { size = s.size; formed = s.formed; ghost = s.ghost; invariant = s.invariant; shown = shown c s.ghost s.formed s.invariant reach q represents };
    cycle = λ o y. y;
  }
    where
      reach : (a : ℕ) → 0 < s.ghost.size a → IsInReach E m.traced a
      reach a st = let o = s.invariant.laid.order in ⊎_elim
          (λ y. inl (y.0, omega (arith, y, st, o)))
          (λ z. ⊎_elim (λ y. inl (omega (arith, y, o), omega (arith, y, st))) (λ y. inr (t, y.0, omega (arith, y, st))) z)
          (s.invariant.laid.lies a st)

  once_traced : m.traced ≡ E.epoch + 1 → KeepsOn c q s.ghost
  once_traced t = let inv = dropped c s.ghost s.formed s.invariant t in record {
    stands = record {
      size = s.size;
      formed = s.formed;
      ghost = without_old E s.ghost;
      invariant = inv;
      shown = shown c (without_old E s.ghost) s.formed inv (λ a st. let u = was c s.ghost s.formed s.invariant t a st in inl (u.1, u.2)) q represents;
    };
    cycle = dropped_cycle c s.ghost s.formed s.invariant t;
  }

  keeps_on : KeepsOn c q s.ghost
  keeps_on = ⊎_elim
      (λ (t : E.epoch < m.traced). once_traced (let b = s.invariant.tracing.top in omega (arith, t, b)))
      (λ (t : m.traced ≤ E.epoch). while_copying t)
      (cases_lt E.epoch m.traced)

  pub represented_stands : Stands c q
  represented_stands = keeps_on.stands

pub represented_in_cycle : (c : Configuration) (p q o : Plain) → StandsInCycle c p o → Represents c q → StandsInCycle c q o
represented_in_cycle c p q o s represents = let k = keeps_on c p q s.stands represents in record { stands = k.stands; cycle = k.cycle o s.cycle }
