-- What a cycle keeps, without the records of the old space, once the epoch is traced.
use Rattle.std.proofs.Common.{◌≡◌, ℕ, ◌+◌, ◌<◌, ◌≤◌, arith, ⊎_elim, inl, inr}
use Rattle.plain_state.specs.declared.value.Identity.{Identity}
use Rattle.plain_state.specs.State.{Plain}
use Rattle.heap_state.specs.Memory.Table.{IsFormed}
use Rattle.heap_state.specs.Configuration.{Configuration, era, memory, team}
use Rattle.heap_state.specs.Cycles.Cycle.{Cycle, Copying, Rooted, MadeSince}
use Rattle.heap_state.specs.Memory.Era.{Era, Memory}
use Rattle.heap_state.specs.Invariant.Ghost.{Ghost}
use Rattle.heap_state.specs.Invariant.Inductive.{Invariant}
use Rattle.heap_state.proofs.Represents.Dropping.{without_old, out, was, still, here_was}
use Rattle.heap_state.specs.Targets.{IsCopied}

module _ (c : Configuration) (g : Ghost) (formed : IsFormed c.pages c.words) (inv : Invariant (era c) (memory c) (team c) g) (traced : (memory c).traced ≡ (era c).epoch + 1) (o : Plain) where
  abbrev E : Era
  E = era c

  abbrev m : Memory
  m = memory c

  abbrev h : Ghost
  h = without_old E g

  still_copied : (i : Identity) → IsCopied E m.front g.size g.writer g.identity i → IsCopied E m.front h.size h.writer h.identity i
  still_copied i y = let l = inv.laid.order in let z = still c g formed inv traced y.at y.below.0 (omega (arith, y.below.1, l)) in record {
    at = y.at;
    stands = (let s = y.stands in (omega (arith, s.0, z), s.1));
    below = y.below;
    named = y.named;
  }

  no_old : {A : Type 0} (a : ℕ) → 0 < h.size a → E.old_start ≤ a → a < E.old_start + E.old_span → A
  no_old a st l n = absurd (let u = was c g formed inv traced a st in let y = (out c g formed inv traced).apart in omega (arith, u.1, u.2, l, n, y))

  copying : Copying E m.front g.size g.writer g.copy g.keeper g.kind g.identity m.heap o → Copying E m.front h.size h.writer h.copy h.keeper h.kind h.identity m.heap o
  copying y = record {
    old = λ a st l n k. no_old a st l n;
    sound = λ x i u t. y.sound x i (here_was c g formed inv traced x u) t;
    reached = λ a st l n k. no_old a st l n;
    sizes = λ b st l n. let u = was c g formed inv traced b st in rw u.3 (y.sizes b u.0 l n);
    complete = λ b x r i st w l n f k v. let u = was c g formed inv traced b st in ⊎_elim (λ z. inl (still_copied i z)) (λ z. inr z) (y.complete b x r i u.0 w l n f k v);
    only = λ b st l n. y.only b (was c g formed inv traced b st).0 l n;
  }

  rooted : Rooted E m.front (team c).count g.size g.writer g.identity m.heap (team c).worker o → Rooted E m.front (team c).count h.size h.writer h.identity m.heap (team c).worker o
  rooted y = record { roots = λ i r. ⊎_elim (λ z. inl (still_copied i z)) (λ z. inr z) (y.roots i r); sound = y.sound }

  made : MadeSince E m.low c.mutators g.size g.identity (team c).worker o → MadeSince E m.low c.mutators h.size h.identity (team c).worker o
  made y = record { new = λ a st l n. y.new a (was c g formed inv traced a st).0 l n; grown = y.grown }

  pub dropped_cycle : Cycle E m (team c) g o → Cycle E m (team c) h o
  dropped_cycle y = record { copying = copying y.copying; rooted = rooted y.rooted; made = made y.made }
