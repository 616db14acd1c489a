-- Worked rows of accesses, in a heap of 4 pages a space and epoch 0: each step with its reply, words as numbers. The board is page 8.
use Rattle.std.specs.Prelude.{[], ◌∷◌, Option, Some, None}
use Rattle.atom_store.specs.declared.reply.Reply.TheVariants.{Value, Done, Won, Lost}
use Rattle.atom_store.specs.declared.step.Step.{Step}
use Rattle.atom_store.specs.declared.step.Step.TheVariants.{Load, Store, Exchange}
use Rattle.atom_store.specs.declared.turn.Turn.{Turn}
use Rattle.atom_store.specs.declared.turn.Turn.TheVariants.{More, Finished}
use Rattle.atom_store.specs.Machine.{Machine, RunsTo}
use Rattle.plain_state.specs.declared.end.End.TheVariants.{OutOfRange, WeakCell, IntoRaw}
use Rattle.space_map.specs.Worked.{four_pages}
use Rattle.record_access.specs.declared.access.Access.{Access}
use Rattle.record_access.specs.declared.access_stage.AccessStage.{AccessStage}
use Rattle.record_access.specs.declared.access_stage.AccessStage.TheVariants.{LooksAtRecord, LooksAtBoard}
use Rattle.record_access.specs.declared.accessed.Accessed.{Accessed}
use Rattle.record_access.specs.declared.accessed.Accessed.TheVariants.{Faults, Awaits, Brings, Stored, Fails}
use Rattle.record_access.specs.declared.board_access.BoardUse.TheVariants.{Swaps}
use Rattle.record_access.specs.declared.record_access.RecordUse.TheVariants.{Loads, Stores, Compares}
use Rattle.record_access.specs.Access.{taken, told, wanted}

-- an access, and what it told last
pub record Accessing : Type 0 where
  pub access : Access
  pub tells : Turn Accessed

abbrev pub wanted_then : Access → Turn Accessed → Option Step
wanted_then a More = Some (wanted a)
wanted_then a (Finished result) = None

-- the access as a machine
abbrev pub access_machine : Machine Accessing Accessed
access_machine = record {
  wanted = λ w. wanted_then w.access w.tells;
  taken = λ w reply. record { access = taken w.access reply; tells = told w.access reply };
  told = λ w. w.tells;
}

abbrev pub begins_at : AccessStage → Accessing
begins_at stage = record { access = record { spaces = four_pages; epoch = 0; stage = stage }; tells = More }

-- Word 0 of the board is exchanged for the number 5. The exchange from the number 1 is lost, as the number 2 stands there by then: it is
-- made again from that one.
abbrev pub LostSwapIsTriedAgain : Type 0
LostSwapIsTriedAgain =
    RunsTo access_machine (begins_at (LooksAtBoard (record { word = 0; usage = Swaps 3 20 })))
    ((Load 24, Value 1) ∷ (Load 545, Value 4) ∷ (Exchange 545 4 20, Lost 8) ∷ (Load 545, Value 8) ∷ (Exchange 545 8 20, Won) ∷ []) (Brings 3 8)

-- The number 3 in a field is exchanged for the number 7. The exchange is lost, as the number 5 stands there by then, which isn't what
-- is expected.
abbrev pub LostExchangeIsComparedAgain : Type 0
LostExchangeIsComparedAgain =
    RunsTo access_machine (begins_at (LooksAtRecord (record { at = 192; value = 0; usage = Compares (record { into = 2; expected = 12; new = 28 }) })))
    ((Load 19, Value 1) ∷ (Load 225, Value 65570) ∷ (Load 226, Value 12) ∷ (Exchange 226 12 28, Lost 20) ∷ (Load 226, Value 20) ∷ []) (Brings 2 0)

-- value 1 of a record whose header is the last word but one of page 3: its page is looked at too
abbrev pub NextPageIsLookedAt : Type 0
NextPageIsLookedAt =
    RunsTo access_machine (begins_at (LooksAtRecord (record { at = 254; value = 1; usage = Loads 2 })))
    ((Load 19, Value 1) ∷ (Load 287, Value 65570) ∷ (Load 20, Value 1) ∷ (Load 289, Value 28) ∷ []) (Brings 2 28)

-- Value 1 of a mixed record whose header is the last word of page 3: the count's page is looked at, and not again for the value, which
-- lies there too. The count is 1, so value 1 is the plain number 7.
abbrev pub CountsPageIsLookedAt : Type 0
CountsPageIsLookedAt =
    RunsTo access_machine (begins_at (LooksAtRecord (record { at = 255; value = 1; usage = Loads 2 })))
    ((Load 19, Value 1) ∷ (Load 288, Value 65594) ∷ (Load 20, Value 1) ∷ (Load 289, Value 4) ∷ (Load 291, Value 7) ∷ []) (Brings 2 28)

-- the header's length of a mixed record counts its count: with a length of 3 it has no value 2
abbrev pub CountIsNoValue : Type 0
CountIsNoValue =
    RunsTo access_machine (begins_at (LooksAtRecord (record { at = 192; value = 2; usage = Loads 2 })))
    ((Load 19, Value 1) ∷ (Load 225, Value 65594) ∷ []) (Fails OutOfRange)

-- a pointer isn't stored behind the fields of a mixed record, of which it has one here
abbrev pub NoPointerIsStoredBehindFields : Type 0
NoPointerIsStoredBehindFields =
    RunsTo access_machine (begins_at (LooksAtRecord (record { at = 192; value = 1; usage = Stores 769 })))
    ((Load 19, Value 1) ∷ (Load 225, Value 65594) ∷ (Load 226, Value 4) ∷ []) (Fails IntoRaw)

-- a value on the header's page is stored there
abbrev pub SamePageIsNotLookedAt : Type 0
SamePageIsNotLookedAt =
    RunsTo access_machine (begins_at (LooksAtRecord (record { at = 192; value = 0; usage = Stores 28 })))
    ((Load 19, Value 1) ∷ (Load 225, Value 65570) ∷ (Store 226 28, Done) ∷ []) Stored

-- a page that isn't open is a fault
abbrev pub ClosedPageIsAFault : Type 0
ClosedPageIsAFault =
    RunsTo access_machine (begins_at (LooksAtRecord (record { at = 192; value = 0; usage = Loads 2 }))) ((Load 19, Value 0) ∷ []) (Faults 3)

-- The target of a cell, whose header is the last word of page 3, is on the next page: before that is looked at, the epoch is to be traced.
abbrev pub TargetIsAwaited : Type 0
TargetIsAwaited =
    RunsTo access_machine (begins_at (LooksAtRecord (record { at = 255; value = 0; usage = Loads 2 })))
    ((Load 19, Value 1) ∷ (Load 288, Value 65582) ∷ []) Awaits

-- nothing is stored in a cell
abbrev pub CellIsNotStoredIn : Type 0
CellIsNotStoredIn =
    RunsTo access_machine (begins_at (LooksAtRecord (record { at = 192; value = 0; usage = Stores 28 })))
    ((Load 19, Value 1) ∷ (Load 225, Value 65582) ∷ []) (Fails WeakCell)

-- a cell has one value
abbrev pub LinkIsNoValue : Type 0
LinkIsNoValue =
    RunsTo access_machine (begins_at (LooksAtRecord (record { at = 192; value = 1; usage = Stores 28 })))
    ((Load 19, Value 1) ∷ (Load 225, Value 65582) ∷ []) (Fails OutOfRange)

-- the record of two fields has no value 2
abbrev pub NoSuchValueFails : Type 0
NoSuchValueFails =
    RunsTo access_machine (begins_at (LooksAtRecord (record { at = 192; value = 2; usage = Loads 2 })))
    ((Load 19, Value 1) ∷ (Load 225, Value 65570) ∷ []) (Fails OutOfRange)
