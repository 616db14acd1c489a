-- Whose access to a record or to the board it is: that of an action, at each of its stages.
use Rattle.std.specs.Prelude.{◌≡◌, Option, Some, None, Ok}
use Rattle.plain_state.specs.Holding.{may_hold}
use Rattle.heap_state.specs.Meaning.Loaded.{word_held}
use Rattle.plain_heap.specs.declared.action.Action.{Action}
use Rattle.plain_heap.specs.declared.action.Action.TheVariants.{Sets, Jumps, Links, Prints, Makes, Measures, Loads, Stores, Compares, Gets, Puts, Swaps, Snaps}
use Rattle.record_access.specs.declared.access_stage.AccessStage.{AccessStage}
use Rattle.record_access.specs.declared.access_stage.AccessStage.TheVariants.{LooksAtRecord, LoadsHeader, LooksAtCount, LoadsCount, LooksAtField, LoadsField, StoresField, LoadsForCas, ExchangesField, LooksAtBoard, LoadsBoard, StoresBoard, LoadsForSwap, SwapsBoard}
use Rattle.record_access.specs.declared.board_access.BoardUse.TheVariants as board_uses
use Rattle.record_access.specs.declared.field_access.FieldAccess.{FieldAccess}
use Rattle.record_access.specs.declared.field_access.FieldUse.{FieldUse}
use Rattle.record_access.specs.declared.field_access.FieldUse.TheVariants as field_uses
use Rattle.record_access.specs.declared.mixed_access.MixedAccess.{MixedAccess}
use Rattle.record_access.specs.declared.record_access.RecordAccess.{RecordAccess}
use Rattle.record_access.specs.declared.record_access.RecordUse.{RecordUse}
use Rattle.record_access.specs.declared.record_access.RecordUse.TheVariants as record_uses
use Rattle.record_access.specs.Access.{field_of, kind_of, role_of, word_as}
use Rattle.record_access.specs.Seen.{word_for}

-- the access with which an action begins, if it makes one
abbrev pub begun : Action → Option AccessStage
begun (Measures d i) = Some (LooksAtRecord (record { at = i.serial; value = 0; usage = record_uses.TellsLength d }))
begun (Loads d i x) = Some (LooksAtRecord (record { at = i.serial; value = x; usage = record_uses.Loads d }))
begun (Stores i x v) = Some (LooksAtRecord (record { at = i.serial; value = x; usage = record_uses.Stores (word_for v) }))
begun (Compares d i x expected v) =
    Some (LooksAtRecord (record { at = i.serial; value = x; usage = record_uses.Compares (record { into = d; expected = word_for expected; new = word_for v }) }))
begun (Gets d x) = Some (LooksAtBoard (record { word = x; usage = board_uses.Loads d }))
begun (Puts x v) = Some (LooksAtBoard (record { word = x; usage = board_uses.Stores (word_for v) }))
begun (Swaps d x v) = Some (LooksAtBoard (record { word = x; usage = board_uses.Swaps d (word_for v) }))
begun (Sets d v) = None
begun (Jumps target) = None
begun (Links d target) = None
begun (Prints n) = None
begun Snaps = None
begun (Makes kind d n v) = None

-- a field is that of the action: its value, or what stands there for it
abbrev pub IsFieldOfAction : Action → FieldAccess → FieldUse → Type 0
IsFieldOfAction (Loads d i x) f usage = (f ≡ field_of i.serial f.first f.role x) × (usage ≡ field_uses.Loads d)
IsFieldOfAction (Stores i x v) f usage = (f ≡ field_of i.serial f.first f.role x) × (may_hold (kind_of f.role) x v ≡ Ok v) × (usage ≡ field_uses.Stores (word_as f.role v))
IsFieldOfAction (Compares d i x expected v) f usage =
    (f ≡ field_of i.serial f.first f.role x) × (may_hold (kind_of f.role) x v ≡ Ok v) × (usage ≡ field_uses.Compares (record { into = d; expected = word_for expected; new = word_as f.role v }))
IsFieldOfAction act f usage = ⊥

-- the use of a record that a use of a value is
abbrev pub record_use : FieldUse → RecordUse
record_use (field_uses.Loads into) = record_uses.Loads into
record_use (field_uses.Stores new) = record_uses.Stores new
record_use (field_uses.Compares e) = record_uses.Compares e

-- the access to a mixed record, as it was before its header was read
abbrev pub before_header : MixedAccess → RecordAccess
before_header m = record { at = m.at; value = m.value; usage = record_use m.usage }

-- The access at this stage is that of the action. A field is exchanged from a word that is what is expected.
abbrev pub IsAccessOf : Action → AccessStage → Type 0
IsAccessOf act (LooksAtRecord r) = begun act ≡ Some (LooksAtRecord r)
IsAccessOf act (LoadsHeader r) = begun act ≡ Some (LooksAtRecord r)
IsAccessOf act (LooksAtCount m) = begun act ≡ Some (LooksAtRecord (before_header m))
IsAccessOf act (LoadsCount m) = begun act ≡ Some (LooksAtRecord (before_header m))
IsAccessOf act (LooksAtField f usage) = IsFieldOfAction act f usage
IsAccessOf act (LoadsField f into) = IsFieldOfAction act f (field_uses.Loads into)
IsAccessOf act (StoresField f new) = IsFieldOfAction act f (field_uses.Stores new)
IsAccessOf act (LoadsForCas f e) = IsFieldOfAction act f (field_uses.Compares e)
IsAccessOf act (ExchangesField f e old) = IsFieldOfAction act f (field_uses.Compares e) × (word_held (role_of f.role) old ≡ e.expected)
IsAccessOf act (LooksAtBoard b) = begun act ≡ Some (LooksAtBoard b)
IsAccessOf act (LoadsBoard x into) = begun act ≡ Some (LooksAtBoard (record { word = x; usage = board_uses.Loads into }))
IsAccessOf act (StoresBoard x new) = begun act ≡ Some (LooksAtBoard (record { word = x; usage = board_uses.Stores new }))
IsAccessOf act (LoadsForSwap s) = begun act ≡ Some (LooksAtBoard (record { word = s.word; usage = board_uses.Swaps s.into s.new }))
IsAccessOf act (SwapsBoard s old) = begun act ≡ Some (LooksAtBoard (record { word = s.word; usage = board_uses.Swaps s.into s.new }))
