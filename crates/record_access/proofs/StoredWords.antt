-- What stands in a record after a store, and that only a pointer may not be stored, and only for a number.
use Rattle.std.proofs.Common.{◌≡◌, ℕ, false, Some, None, Result, Ok, Err, refl, ap}
use Rattle.plain_state.specs.declared.end.End.{End}
use Rattle.plain_state.specs.declared.end.End.TheVariants.{IntoRaw}
use Rattle.plain_state.specs.declared.value.Value.{Value}
use Rattle.plain_state.specs.declared.value.Value.TheVariants.{Number, Reference}
use Rattle.plain_state.specs.Holding.{may_hold}
use Rattle.record_access.specs.declared.accessed.Accessed.TheVariants.{Fails}
use Rattle.record_access.specs.declared.field_access.FieldAccess.{FieldAccess}
use Rattle.record_access.specs.declared.field_access.FieldUse.{FieldUse}
use Rattle.record_access.specs.declared.field_access.Role.{Role}
use Rattle.record_access.specs.declared.field_access.Role.TheVariants as roles
use Rattle.record_access.specs.Access.{Comes, is_target, kind_of, storing, to_field, with_new}
use Rattle.record_access.specs.StoredWord.{word_if_held}

pub stores_held : (f : FieldAccess) (usage : FieldUse) (made : Result Value End) (word : ℕ) → Some word ≡ word_if_held f.role made
    → storing f usage made ≡ to_field (with_new usage word) f
stores_held f usage (Ok v) word held = cc
stores_held f usage (Err why) word held = cc

not_held : (role : Role) (x : ℕ) (v : Value) → is_target role ≡ false → None ≡ word_if_held role (may_hold (kind_of role) x v) → may_hold (kind_of role) x v ≡ Err IntoRaw
not_held roles.Field x v other none = cc
not_held roles.Number x (Number n) other none = cc
not_held roles.Number x (Reference i) other none = refl
not_held roles.Target x v other none = absurd (cc)

pub fails_unheld : (f : FieldAccess) (usage : FieldUse) (x : ℕ) (v : Value) → is_target f.role ≡ false → None ≡ word_if_held f.role (may_hold (kind_of f.role) x v)
    → storing f usage (may_hold (kind_of f.role) x v) ≡ Comes (Fails IntoRaw)
fails_unheld f usage x v other none = ap (storing f usage) (not_held f.role x v other none)
