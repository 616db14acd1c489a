-- Each space that is walked is in order where the invariant is kept.
use Rattle.std.proofs.Common.{◌≡◌, ℕ, ◌<◌, ◌≤◌, sym, subst, arith, ⊎_elim}
use Rattle.heap_state.specs.Memory.Table.{IsFormed, table_of}
use Rattle.heap_state.specs.Configuration.{Configuration, table, era, memory, team}
use Rattle.heap_state.specs.Memory.Era.{from_space}
use Rattle.heap_state.specs.Invariant.Ghost.{Ghost}
use Rattle.heap_state.specs.Invariant.Inductive.{Invariant}
use Rattle.heap_state.specs.Meaning.Represents.{IsInOrder, IsWalkedSpace}
use Rattle.space_map.specs.Spaces.{to_space}

module _ (c : Configuration) (g : Ghost) (formed : IsFormed c.pages c.words) (inv : Invariant (era c) (memory c) (team c) g) where
  -- a space uses no more pages than it may have
  fits : (space : ℕ) → space < 2 → (table c).in_use space ≤ (table c).pages
  unfolding table_of
  fits space l = (formed.sizes space l).1

  pub in_order : (space : ℕ) → IsWalkedSpace (table c) space → IsInOrder (table c) space
  in_order space walked = ⊎_elim
      (λ (e : space ≡ to_space (table c).gate.epoch). subst (IsInOrder (table c)) (sym e)
      (record { size = fits (to_space (table c).gate.epoch) (omega arith); area = (omega (arith, inv.laid.order), omega (arith, inv.laid.order)) }))
      (λ o. subst (IsInOrder (table c)) (sym o.1)
      (record { size = fits (from_space (table c).gate.epoch) (omega arith); area = (omega (arith, inv.old_area.order), omega (arith, inv.old_area.order)) }))
      walked
