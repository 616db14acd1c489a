-- What a store and an exchange have in common: a value is to become one of a record, which may hold it or not.
use Rattle.std.proofs.Common.{◌≡◌, ℕ, true, false, nat_lt, length, Option, None, Some, Ok, Err, refl}
use Rattle.plain_state.specs.declared.end.End.{End}
use Rattle.plain_state.specs.declared.end.End.TheVariants.{OutOfRange}
use Rattle.plain_state.specs.declared.value.Identity.{Identity}
use Rattle.plain_state.specs.declared.value.Value.{Value}
use Rattle.plain_state.specs.declared.value.Value.TheVariants.{Reference}
use Rattle.plain_state.specs.State.{Heap, Mutator, Record, record_of}
use Rattle.plain_heap.specs.declared.action.Action.{Action}
use Rattle.plain_heap.specs.declared.action.Action.TheVariants.{Stores, Compares}
use Rattle.plain_heap.specs.Action.{in_record}
use Rattle.plain_heap.specs.Call.{may_hold, performed, values_of}
use Rattle.plain_heap.proofs.Calls.Named.{Names}
use Rattle.record_access.specs.declared.access_stage.AccessStage.TheVariants.{LooksAtRecord}
use Rattle.record_access.specs.declared.field_access.FieldUse.{FieldUse}
use Rattle.record_access.specs.declared.field_access.FieldUse.TheVariants as field_uses
use Rattle.record_access.specs.declared.field_access.Role.{Role}
use Rattle.record_access.specs.declared.mixed_access.MixedAccess.{MixedAccess}
use Rattle.record_access.specs.declared.record_access.RecordAccess.{RecordAccess}
use Rattle.record_access.specs.Access.{FitsFieldUse, FitsMixedUse, FitsRecordUse, counted_by, counting, field_of, kind_of, may_store, storing, used_by, valued, with_new, word_as}
use Rattle.gc_worker.specs.Steps.Access.{IsFieldOfAction, begun, record_use}
use Rattle.record_access.specs.Seen.{IsValueWord, value_seen, word_for}
use Rattle.gc_worker.proofs.Plain.Actions.{plain_action, plain_value}

-- nothing of a store; of an exchange the register, and what it expects
abbrev pub Condition : Type 0
Condition = Option (ℕ × Value)

-- v becomes value x of record j
abbrev pub storing_action : Condition → (j : Identity) (x : ℕ) (v : Value) → Action
storing_action None j x v = Stores j x v
storing_action (Some e) j x v = Compares e.0 j x e.1 v

abbrev pub storing_use : Condition → (new : ℕ) → FieldUse
storing_use None new = field_uses.Stores new
storing_use (Some e) new = field_uses.Compares (record { into = e.0; expected = word_for e.1; new = new })

-- ---- the use

pub renewed : (o : Condition) (old new : ℕ) → with_new (storing_use o old) new ≡ storing_use o new
renewed None old new = refl
renewed (Some e) old new = refl

pub used_so : (o : Condition) (r : RecordAccess) (role : Role) (len new : ℕ)
    → used_by r role len (record_use (storing_use o new)) ≡ storing (field_of r.at 1 role r.value) (storing_use o new) (may_store role new (in_record len r.value))
used_so None r role len new = refl
used_so (Some e) r role len new = refl

pub counted_so : (o : Condition) (r : RecordAccess) (len new : ℕ) → counted_by r len (record_use (storing_use o new)) ≡ counting r.at (storing_use o new) (in_record len r.value)
counted_so None r len new = refl
counted_so (Some e) r len new = refl

pub valued_so : (o : Condition) (m : MixedAccess) (role : Role) (new : ℕ)
    → valued m role (storing_use o new) ≡ storing (field_of m.at 2 role m.value) (storing_use o new) (may_hold (kind_of role) m.value (value_seen new))
valued_so None m role new = refl
valued_so (Some e) m role new = refl

-- ---- what it keeps of itself

pub is_value : (o : Condition) (new : ℕ) → FitsRecordUse (record_use (storing_use o new)) → IsValueWord new
is_value None new fits = fits
is_value (Some e) new fits = fits.1

pub fits_mixed : (o : Condition) (new : ℕ) → FitsRecordUse (record_use (storing_use o new)) → FitsMixedUse (storing_use o new)
fits_mixed None new fits = fits
fits_mixed (Some e) new fits = fits

pub mixed_value : (o : Condition) (new : ℕ) → FitsMixedUse (storing_use o new) → IsValueWord new
mixed_value None new fits = fits
mixed_value (Some e) new fits = fits.1

pub fits_field : (o : Condition) (old new : ℕ) → FitsMixedUse (storing_use o old) → FitsFieldUse (storing_use o new)
fits_field None old new fits = tt
fits_field (Some e) old new fits = fits.0

-- ---- the action

module _ (o : Condition) (j : Identity) (x : ℕ) (v : Value) where
  pub begins : begun (storing_action o j x v) ≡ Some (LooksAtRecord (record { at = j.serial; value = x; usage = record_use (storing_use o (word_for v)) }))
  begins = by_condition o
    where
      by_condition : (o : Condition) → begun (storing_action o j x v) ≡ Some (LooksAtRecord (record { at = j.serial; value = x; usage = record_use (storing_use o (word_for v)) }))
      by_condition None = refl
      by_condition (Some e) = refl

  pub is_field : (first : ℕ) (role : Role) → may_hold (kind_of role) x v ≡ Ok v → IsFieldOfAction (storing_action o j x v) (field_of j.serial first role x) (storing_use o (word_as role v))
  is_field first role may = by_condition o
    where
      by_condition : (o : Condition) → IsFieldOfAction (storing_action o j x v) (field_of j.serial first role x) (storing_use o (word_as role v))
      by_condition None = (refl, may, refl)
      by_condition (Some e) = (refl, may, refl)

  -- what holds of all that it names holds of the record and the value
  pub names_both : (P : Value → Type 0) (B : Type 0) (k : Mutator) → Names P B k (storing_action o j x v) → P (Reference j) × P v
  names_both P B k = by_condition o
    where
      by_condition : (o : Condition) → Names P B k (storing_action o j x v) → P (Reference j) × P v
      by_condition None both = both
      by_condition (Some e) all = (all.0, all.2)

  module _ (identity : ℕ → Identity) (m : ℕ) (heap : Heap) (k : Mutator) where
    -- the record has no such value
    pub out_of_range : nat_lt x (length (values_of heap (identity j.serial))) ≡ false → performed m heap k (plain_action identity (storing_action o j x v)) ≡ Err OutOfRange
    out_of_range past = by_condition o
      where
        by_condition : (o : Condition) → performed m heap k (plain_action identity (storing_action o j x v)) ≡ Err OutOfRange
        by_condition None = rw past refl
        by_condition (Some e) = rw past refl

    -- it has, and may not hold the new one
    pub holds_it_not : (why : End) (r : Record) → nat_lt x (length (values_of heap (identity j.serial))) ≡ true → record_of heap (identity j.serial) ≡ Some r → may_hold r.kind x (plain_value identity v) ≡ Err why
        → performed m heap k (plain_action identity (storing_action o j x v)) ≡ Err why
    holds_it_not why r within is may_not = by_condition o
      where
        by_condition : (o : Condition) → performed m heap k (plain_action identity (storing_action o j x v)) ≡ Err why
        by_condition None = rw (within, is, may_not) refl
        by_condition (Some e) = rw (within, is, may_not) refl
