-- A value that stands behind its record's header, and is no target of a cell.
use Rattle.std.specs.Prelude.{◌≡◌, ℕ, ◌<◌, ◌≤◌, Option, Some, None}
use Rattle.plain_state.specs.declared.sizes.TheConstants.{LONGEST_RECORD}
use Rattle.heap_words.specs.declared.kind.Kind.{Kind}
use Rattle.heap_words.specs.declared.kind.Kind.TheVariants as headers
use Rattle.heap_words.specs.Decoded.{HeaderWord, decode}
use Rattle.record_access.specs.declared.field_access.Role.{Role}
use Rattle.record_access.specs.declared.field_access.Role.TheVariants as roles

-- what stands at each value of a record of this kind, if it is of fields or of plain numbers alone
abbrev pub role_in : Kind → Option Role
role_in headers.Fields = Some roles.Field
role_in headers.Raw = Some roles.Number
role_in headers.Mixed = None
role_in headers.Weak = None

-- by this word the record has value x, which stands behind its header with this role
pub record HasStored (word x : ℕ) (role : Role) : Type 0 where
  pub kind : Kind
  pub len : ℕ
  pub serial : ℕ
  pub mutator : ℕ
  pub header : decode word ≡ HeaderWord kind len serial mutator
  pub stands : role_in kind ≡ Some role
  pub has : x < len
  pub short : len ≤ LONGEST_RECORD
