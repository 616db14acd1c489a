-- The load of a mixed record's count by a lone mutator: it is one, and the access goes on by it or fails.
use Rattle.std.proofs.Common.{◌≡◌, ◌+◌, ◌<◌, Bool, true, false, cond, nat_lt, Some, refl, sym, ap, subst, arith}
use Rattle.plain_state.specs.State.{Plain}
use Rattle.plain_heap.specs.Call.{may_hold}
use Rattle.atom_store.specs.declared.step.Step.TheVariants.{Load}
use Rattle.space_map.specs.Table.{HeapWord, place_of}
use Rattle.heap_state.specs.Configuration.{Configuration, Stands, table}
use Rattle.record_access.specs.declared.access_stage.AccessStage.TheVariants.{LoadsCount}
use Rattle.record_access.specs.declared.field_access.FieldUse.{FieldUse}
use Rattle.record_access.specs.declared.field_access.FieldUse.TheVariants as field_uses
use Rattle.record_access.specs.declared.field_access.Role.{Role}
use Rattle.record_access.specs.declared.field_access.Role.TheVariants as roles
use Rattle.record_access.specs.declared.mixed_access.MixedAccess.{MixedAccess}
use Rattle.record_access.specs.Access.{Answered, count_at, field_of, kind_of, valued}
use Rattle.record_access.specs.Seen.{value_seen}
use Rattle.gc_worker.specs.Workers.Held.{Held}
use Rattle.gc_worker.proofs.Stages.Access.MixedCounts.{reads, says}
use Rattle.gc_worker.proofs.Stages.Access.NextAccessStage.{own, at}
use Rattle.lone_mutator.specs.Bound.{guard_cost}
use Rattle.lone_mutator.specs.Law.{IsAlone, StepsLower}
use Rattle.lone_mutator.specs.Potential.{access_left}
use Rattle.lone_mutator.proofs.Steps.Owed.{loads, wants}
use Rattle.lone_mutator.proofs.Stages.Access.PaidOutcomes.{Owed, goes_to_it, stores_it, wait_for}

module _ (c : Configuration) (p : Plain) (s : Stands c p) (y : Held) (m : MixedAccess) (a : IsAlone c (at c p s 0 y (LoadsCount m))) where
  abbrev Owes : Answered → Type 0
  Owes z = Owed c p s y (LoadsCount m) a (table c) z

  module _ (role : Role) (known : wait_for c p s y (LoadsCount m) a role ≡ 0) where
    behind : 3 + wait_for c p s y (LoadsCount m) a role + guard_cost < access_left c.pages (own c p s 0 y (LoadsCount m))
    behind = omega (arith, known)

    by_value : (usage : FieldUse) → Owes (valued m role usage)
    by_value (field_uses.Loads into) = goes_to_it c p s y (LoadsCount m) a (field_of m.at 2 role m.value) behind (field_uses.Loads into)
    by_value (field_uses.Stores new) = stores_it c p s y (LoadsCount m) a (field_of m.at 2 role m.value) behind (field_uses.Stores new) (may_hold (kind_of role) m.value (value_seen new))
    by_value (field_uses.Compares e) = stores_it c p s y (LoadsCount m) a (field_of m.at 2 role m.value) behind (field_uses.Compares e) (may_hold (kind_of role) m.value (value_seen e.new))

  -- what the count says is a field or a number, for which nobody waits
  by_count : (b : Bool) (usage : FieldUse) → Owes (valued m (cond b roles.Field roles.Number) usage)
  by_count true usage = by_value roles.Field refl usage
  by_count false usage = by_value roles.Number refl usage

  pub loads_count : StepsLower c (at c p s 0 y (LoadsCount m))
  loads_count =
      let inside = a.is.fits.stage.sound.stage.0 in
      let n = a.is.fits.pages in
      wants c p s (at c p s 0 y (LoadsCount m)) (Load (place_of c.pages (HeapWord (count_at m)))) (ap (λ n. Some (Load (place_of n (HeapWord (count_at m))))) a.is.fits.pages)
      (loads c p s (at c p s 0 y (LoadsCount m)) (HeapWord (count_at m)) (omega (arith, inside, n)) (subst Owes (sym (reads c p s 0 y m a.is)) (by_count (nat_lt m.value (says c p s 0 y m a.is).count) m.usage)))
