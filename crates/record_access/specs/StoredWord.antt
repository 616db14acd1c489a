-- The word that a store leaves in a record, and whether the access goes on with it.
use Rattle.std.specs.Prelude.{ℕ, Bool, true, false, Option, Some, None, Result, Ok, Err}
use Rattle.atom_store.specs.declared.turn.Turn.{Turn}
use Rattle.atom_store.specs.declared.turn.Turn.TheVariants.{More, Finished}
use Rattle.plain_state.specs.declared.end.End.{End}
use Rattle.plain_state.specs.declared.end.End.TheVariants.{IntoRaw}
use Rattle.plain_state.specs.declared.value.Value.{Value}
use Rattle.record_access.specs.declared.accessed.Accessed.{Accessed}
use Rattle.record_access.specs.declared.accessed.Accessed.TheVariants.{Awaits, Fails}
use Rattle.record_access.specs.declared.field_access.Role.{Role}
use Rattle.record_access.specs.declared.field_access.Role.TheVariants as roles
use Rattle.record_access.specs.Access.{word_as}

-- what stands at a word with this role for a value, if it may be stored there
abbrev pub word_if_held : Role → Result Value End → Option ℕ
word_if_held role (Ok v) = Some (word_as role v)
word_if_held role (Err why) = None

-- an access goes on at a value's word, or does so once the epoch is traced
abbrev pub goes_on_at : Role → Turn Accessed
goes_on_at roles.Field = More
goes_on_at roles.Number = More
goes_on_at roles.Target = Finished Awaits

-- an access goes on, or fails since a number may not be replaced by a pointer
abbrev pub goes_on_if : Bool → Turn Accessed
goes_on_if true = More
goes_on_if false = Finished (Fails IntoRaw)
