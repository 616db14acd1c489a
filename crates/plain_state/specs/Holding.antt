-- What may be stored in a record, and which of its values a number names.
use Rattle.std.specs.Prelude.{ℕ, Result, Ok, Err, nat_lt, if◌then◌else◌}
use Rattle.plain_state.specs.declared.end.End.{End}
use Rattle.plain_state.specs.declared.end.End.TheVariants.{OutOfRange, WeakCell, IntoRaw}
use Rattle.plain_state.specs.declared.kind.Kind.{Kind}
use Rattle.plain_state.specs.declared.kind.Kind.TheVariants.{Fields, Raw, Mixed, Weak}
use Rattle.plain_state.specs.declared.value.Value.{Value}
use Rattle.plain_state.specs.declared.value.Value.TheVariants.{Number, Reference}

-- the number as that of a value in a record with so many of them
abbrev pub in_record : (len x : ℕ) → Result ℕ End
in_record len x = if nat_lt x len then Ok x else Err OutOfRange

-- no reference stands in a plain number
abbrev pub as_plain : Value → Result Value End
as_plain (Number n) = Ok (Number n)
as_plain (Reference i) = Err IntoRaw

-- nor where a record of this kind has plain numbers; and nothing is stored in a cell
abbrev pub may_hold : Kind → (x : ℕ) → Value → Result Value End
may_hold Fields x v = Ok v
may_hold Raw x v = as_plain v
may_hold (Mixed count) x v = if nat_lt x count then Ok v else as_plain v
may_hold Weak x v = Err WeakCell
