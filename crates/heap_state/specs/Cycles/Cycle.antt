-- What a cycle of the collector keeps, from its flip on: which records it copies, and that they are those that were reachable
-- at the flip. This stands beside the invariant.
use Rattle.std.specs.Prelude.{◌≡◌, ℕ, ◌+◌, ◌<◌, ◌≤◌, ◌⊎◌, true, Some, None, slice_get}
use Rattle.plain_state.specs.declared.kind.Kind.{Kind}
use Rattle.heap_words.specs.Decoded.{PointerWord, decode}
use Rattle.plain_state.specs.declared.value.Identity.{Identity}
use Rattle.plain_state.specs.declared.value.Value.TheVariants.{Reference}
use Rattle.plain_state.specs.Reachable.{Reachable}
use Rattle.plain_state.specs.State as plain
use Rattle.plain_state.specs.Layout.{is_field, word_of_value, size_of}
use Rattle.heap_state.specs.Memory.Era.{Era, Memory}
use Rattle.heap_state.specs.Invariant.Ghost.{Ghost, Here}
use Rattle.heap_state.specs.Meaning.Values.{value_of, Shows}
use Rattle.heap_state.specs.Targets.{IsCopied}
use Rattle.heap_state.specs.Known.{Known, Team, is_late, is_mutator}

-- the word still leads into the old space, to a record of this identity
pub record StillLeads (E : Era) (identity : ℕ → Identity) (w : ℕ) (i : Identity) : Type 0 where
  pub at : ℕ
  pub points : decode w ≡ PointerWord at
  pub old : (E.old_start ≤ at) × (at < E.old_start + E.old_span)
  pub named : identity at ≡ i

-- a board word, or a register that a worker has not forwarded yet, still leads to a record of this identity
pub data RootLeads (E : Era) (count : ℕ) (identity : ℕ → Identity) (heap : ℕ → ℕ) (worker : ℕ → Known) (i : Identity) : Type 0 where
  ByBoard : (x : ℕ) → x < 16 → StillLeads E identity (heap (E.board + x)) i → RootLeads E count identity heap worker i
  ByRegister : (k r : ℕ) → k < count → r < 8 → is_late E.epoch (worker k) ≡ true → (worker k).done ≤ r → StillLeads E identity ((worker k).registers r) i
      → RootLeads E count identity heap worker i

-- the identity is a root of the plain state at the flip
pub data IsRoot (p : plain.Plain) (i : Identity) : Type 0 where
  InRegister : (m j : ℕ) (q : plain.Mutator) → slice_get p.mutators m ≡ Some q → q.end ≡ None
      → slice_get q.registers j ≡ Some (Reference i) → IsRoot p i
  OnTheBoard : (x : ℕ) → slice_get p.heap.board x ≡ Some (Reference i) → IsRoot p i

-- Of the plain state at the flip: an old record that has its own header shows it. What a word leads to in the old space is
-- reachable, and so is what has a copy or a kept header. Each copy has the size and kind of its identity there, which is
-- reachable. Where a field of a copied record referred to another, that one is copied, or the copy's field still leads to it.
pub record Copying (E : Era) (front : ℕ) (size writer copy keeper : ℕ → ℕ) (kind : ℕ → Kind) (identity : ℕ → Identity) (heap : ℕ → ℕ) (p : plain.Plain) : Type 0 where
  pub old : (a : ℕ) → 0 < size a → E.old_start ≤ a → a < E.old_start + E.old_span → (copy a ≡ 0) ⊎ (0 < keeper a)
      → (r : plain.Record) × (plain.record_of p.heap (identity a) ≡ Some r) × Shows (value_of identity) heap a (kind a) (size a) r
  pub sound : (x : ℕ) (i : Identity) → Here E size writer kind x → StillLeads E identity (heap x) i → Reachable p i
  pub reached : (a : ℕ) → 0 < size a → E.old_start ≤ a → a < E.old_start + E.old_span → (0 < copy a) ⊎ (0 < keeper a) → Reachable p (identity a)
  pub sizes : (b : ℕ) → 0 < size b → E.start ≤ b → b < front
      → (r : plain.Record) × (plain.record_of p.heap (identity b) ≡ Some r) × (size_of r ≡ size b) × (r.kind ≡ kind b)
  pub complete : (b x : ℕ) (r : plain.Record) (i : Identity) → 0 < size b → writer b ≡ 0 → E.start ≤ b → b < front
      → plain.record_of p.heap (identity b) ≡ Some r → is_field (kind b) (word_of_value (kind b) x) ≡ true → slice_get r.values x ≡ Some (Reference i)
      → IsCopied E front size writer identity i ⊎ StillLeads E identity (heap (b + word_of_value (kind b) x)) i
  pub only : (b : ℕ) → 0 < size b → E.start ≤ b → b < front → Reachable p (identity b)

-- each root is copied, or a root's word still leads to it; and what a register leads to in the old space is reachable
pub record Rooted (E : Era) (front count : ℕ) (size writer : ℕ → ℕ) (identity : ℕ → Identity) (heap : ℕ → ℕ) (worker : ℕ → Known) (p : plain.Plain) : Type 0 where
  pub roots : (i : Identity) → IsRoot p i → IsCopied E front size writer identity i ⊎ RootLeads E count identity heap worker i
  pub sound : (k r : ℕ) (i : Identity) → k < count → is_mutator (worker k).post ≡ true → (worker k).account.end ≡ None → r < 8
      → StillLeads E identity ((worker k).registers r) i → Reachable p i

-- No record that was made since the flip was in the plain state then: none of the new area was, and no mutator had made more than now.
pub record MadeSince (E : Era) (low mutators : ℕ) (size : ℕ → ℕ) (identity : ℕ → Identity) (worker : ℕ → Known) (p : plain.Plain) : Type 0 where
  pub new : (a : ℕ) → 0 < size a → low ≤ a → a < E.start + E.span → plain.record_of p.heap (identity a) ≡ None
  pub grown : (k : ℕ) → k < mutators → plain.serial_of p.heap k ≤ (worker k).account.serial

-- what a cycle keeps, of the plain state at its flip
pub record Cycle (E : Era) (m : Memory) (team : Team) (g : Ghost) (p : plain.Plain) : Type 0 where
  pub copying : Copying E m.front g.size g.writer g.copy g.keeper g.kind g.identity m.heap p
  pub rooted : Rooted E m.front team.count g.size g.writer g.identity m.heap team.worker p
  pub made : MadeSince E m.low team.mutators g.size g.identity team.worker p
