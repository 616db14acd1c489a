-- Worked rows of the duty, in a heap of 4 pages a space whose mutator has one record, copied to the first words of space 1: each
-- step with its reply, words as numbers.
use Rattle.std.specs.Prelude.{◌+◌, ◌++◌, List, [], ◌∷◌}
use Rattle.atom_store.specs.declared.step.Step.{Step}
use Rattle.atom_store.specs.declared.step.Step.TheVariants.{Load, Store, Exchange}
use Rattle.atom_store.specs.declared.reply.Reply.{Reply}
use Rattle.atom_store.specs.declared.reply.Reply.TheVariants.{Value, Done, Won, Lost}
use Rattle.atom_store.specs.Machine.{RunsTo}
use Rattle.space_map.specs.Worked.{four_pages}
use Rattle.fault_duty.specs.declared.caller.Caller.{Caller}
use Rattle.fault_duty.specs.declared.caller.Caller.TheVariants.{Faulted, Allocates, Scans}
use Rattle.fault_duty.specs.declared.round_end.RoundEnd.{RoundEnd}
use Rattle.fault_duty.specs.declared.round_end.RoundEnd.TheVariants.{ScanPage, ScanInPlace, Marked, Traced, AllLeft, NothingNow}
use Rattle.page_slots.specs.Rows.{nothing_announced}
use Rattle.fault_duty.specs.Duty.{begun, duty_machine}

-- a round of scanner 1 beside one mutator makes these steps, and comes to this
abbrev pub ScannerComesTo : List (Step × Reply) → RoundEnd → Type 0
ScannerComesTo rows result = RunsTo duty_machine (begun four_pages (Scans 1) 0 1) rows result

-- a round of mutator 0 in epoch 1 does
abbrev pub MutatorComesTo : Caller → List (Step × Reply) → RoundEnd → Type 0
MutatorComesTo caller rows result = RunsTo duty_machine (begun four_pages caller 1 0) rows result

-- the first round claims the board, page 8, from OPEN of epoch 0
abbrev pub BoardIsClaimed : Type 0
BoardIsClaimed =
    ScannerComesTo ((Load 0, Value 0x0000_0001_0000_0001) ∷ (Load 2, Value 1) ∷ (Load 5, Value 0x0000_03d0_0400_0003) ∷ (Load 24, Value 1) ∷ (Load 0, Value 0x0000_0001_0000_0001) ∷ (Exchange 24 1 65542, Won) ∷ []) (ScanPage 8)

-- once it is open, the next claims the filling page, page 4, in place: no page is full
abbrev pub FillingPageIsClaimed : Type 0
FillingPageIsClaimed =
    ScannerComesTo ((Load 0, Value 0x0000_0001_0000_0001) ∷ (Load 2, Value 1) ∷ (Load 5, Value 0x0000_03d0_0400_0003) ∷ (Load 24, Value 65537) ∷ (Load 0, Value 0x0000_0001_0000_0001) ∷ (Load 5, Value 0x0000_03d0_0400_0003) ∷ (Load 24, Value 65537) ∷ (Load 20, Value 0) ∷ (Load 5, Value 0x0000_03d0_0400_0003) ∷ (Exchange 20 0 65542, Won) ∷ []) (ScanInPlace 4)

-- once that is open too, the next takes the turn, finds that no cell was copied, and marks the epoch traced
abbrev pub EpochIsMarked : Type 0
EpochIsMarked =
    ScannerComesTo ((Load 0, Value 0x0000_0001_0000_0001) ∷ (Load 2, Value 1) ∷ (Load 5, Value 0x0000_03d0_0400_0003) ∷ (Load 24, Value 65537) ∷ (Load 0, Value 0x0000_0001_0000_0001) ∷ (Load 5, Value 0x0000_03d0_0400_0003) ∷ (Load 24, Value 65537) ∷ (Load 20, Value 65537) ∷ (Load 5, Value 0x0000_03d0_0400_0003) ∷ (Load 7, Value 1) ∷ (Exchange 7 1 2, Won) ∷ (Load 6, Value 0) ∷ (Exchange 2 1 2, Won) ∷ []) Marked

-- where a cell was copied behind the record, to 258, whose target leads to 198, where a header stands, it is emptied before
abbrev pub CellIsEmptied : Type 0
CellIsEmptied =
    ScannerComesTo ((Load 0, Value 0x0000_0001_0000_0001) ∷ (Load 2, Value 1) ∷ (Load 5, Value 0x0000_03b0_0400_0005) ∷ (Load 24, Value 65537) ∷ (Load 0, Value 0x0000_0001_0000_0001) ∷ (Load 5, Value 0x0000_03b0_0400_0005) ∷ (Load 24, Value 65537) ∷ (Load 20, Value 65537) ∷ (Load 5, Value 0x0000_03b0_0400_0005) ∷ (Load 7, Value 1) ∷ (Exchange 7 1 2, Won) ∷ (Load 6, Value 0x103) ∷ (Load (33 + 259), Value 0x319) ∷ (Load (33 + 198), Value 0x0000_0000_0004_0012) ∷ (Store (33 + 259) 0, Done) ∷ (Load (33 + 260), Value 0) ∷ (Exchange 2 1 2, Won) ∷ []) Marked

-- after that a round finds it traced
abbrev pub TracedEpochIsFound : Type 0
TracedEpochIsFound =
    ScannerComesTo ((Load 0, Value 0x0000_0001_0000_0001) ∷ (Load 2, Value 2) ∷ []) Traced

-- a scanner ends when all mutators have left
abbrev pub ScannerEndsWithMutators : Type 0
ScannerEndsWithMutators =
    ScannerComesTo ((Load 0, Value 0x0200_0000_0000_0001) ∷ []) (AllLeft 0x0200_0000_0000_0001)

-- another worker may have the turn, or have had it in a later epoch
abbrev pub TurnIsAnothers : Type 0
TurnIsAnothers =
    (ScannerComesTo ((Load 0, Value 0x0000_0001_0000_0001) ∷ (Load 2, Value 1) ∷ (Load 5, Value 0x0000_03d0_0400_0003) ∷ (Load 24, Value 65537) ∷ (Load 0, Value 0x0000_0001_0000_0001) ∷ (Load 5, Value 0x0000_03d0_0400_0003) ∷ (Load 24, Value 65537) ∷ (Load 20, Value 65537) ∷ (Load 5, Value 0x0000_03d0_0400_0003) ∷ (Load 7, Value 2) ∷ []) (NothingNow 2))
    × (ScannerComesTo ((Load 0, Value 0x0000_0001_0000_0001) ∷ (Load 2, Value 1) ∷ (Load 5, Value 0x0000_03d0_0400_0003) ∷ (Load 24, Value 65537) ∷ (Load 0, Value 0x0000_0001_0000_0001) ∷ (Load 5, Value 0x0000_03d0_0400_0003) ∷ (Load 24, Value 65537) ∷ (Load 20, Value 65537) ∷ (Load 5, Value 0x0000_03d0_0400_0003) ∷ (Load 7, Value 3) ∷ []) (NothingNow 3))

-- or take it first
abbrev pub LostTurnEnds : Type 0
LostTurnEnds =
    ScannerComesTo ((Load 0, Value 0x0000_0001_0000_0001) ∷ (Load 2, Value 1) ∷ (Load 5, Value 0x0000_03d0_0400_0003) ∷ (Load 24, Value 65537) ∷ (Load 0, Value 0x0000_0001_0000_0001) ∷ (Load 5, Value 0x0000_03d0_0400_0003) ∷ (Load 24, Value 65537) ∷ (Load 20, Value 65537) ∷ (Load 5, Value 0x0000_03d0_0400_0003) ∷ (Load 7, Value 1) ∷ (Exchange 7 1 2, Lost 2) ∷ []) (NothingNow 2)

-- or have changed TRACED by then
abbrev pub LostMarkEnds : Type 0
LostMarkEnds =
    ScannerComesTo ((Load 0, Value 0x0000_0001_0000_0001) ∷ (Load 2, Value 1) ∷ (Load 5, Value 0x0000_03d0_0400_0003) ∷ (Load 24, Value 65537) ∷ (Load 0, Value 0x0000_0001_0000_0001) ∷ (Load 5, Value 0x0000_03d0_0400_0003) ∷ (Load 24, Value 65537) ∷ (Load 20, Value 65537) ∷ (Load 5, Value 0x0000_03d0_0400_0003) ∷ (Load 7, Value 1) ∷ (Exchange 7 1 2, Won) ∷ (Load 6, Value 0) ∷ (Exchange 2 1 2, Lost 2) ∷ []) (NothingNow 2)

-- or claim the board
abbrev pub LostBoardEnds : Type 0
LostBoardEnds =
    ScannerComesTo ((Load 0, Value 0x0000_0001_0000_0001) ∷ (Load 2, Value 1) ∷ (Load 5, Value 0x0000_03d0_0400_0003) ∷ (Load 24, Value 1) ∷ (Load 0, Value 0x0000_0001_0000_0001) ∷ (Exchange 24 1 65542, Lost 65546) ∷ []) (NothingNow 65546)

-- or the filling page
abbrev pub LostFillingPageEnds : Type 0
LostFillingPageEnds =
    ScannerComesTo ((Load 0, Value 0x0000_0001_0000_0001) ∷ (Load 2, Value 1) ∷ (Load 5, Value 0x0000_03d0_0400_0003) ∷ (Load 24, Value 65537) ∷ (Load 0, Value 0x0000_0001_0000_0001) ∷ (Load 5, Value 0x0000_03d0_0400_0003) ∷ (Load 24, Value 65537) ∷ (Load 20, Value 0) ∷ (Load 5, Value 0x0000_03d0_0400_0003) ∷ (Exchange 20 0 65542, Lost 65546) ∷ []) (NothingNow 65546)

-- a copy that moves FRONT between the two looks at the area forbids the end
abbrev pub MovedFrontEnds : Type 0
MovedFrontEnds =
    ScannerComesTo ((Load 0, Value 0x0000_0001_0000_0001) ∷ (Load 2, Value 1) ∷ (Load 5, Value 0x0000_03d0_0400_0003) ∷ (Load 24, Value 65537) ∷ (Load 0, Value 0x0000_0001_0000_0001) ∷ (Load 5, Value 0x0000_03d0_0400_0003) ∷ (Load 24, Value 65537) ∷ (Load 20, Value 65537) ∷ (Load 5, Value 0x0000_03b0_0400_0005) ∷ []) (NothingNow 0x0000_03b0_0400_0005)

-- so does a mutator that is behind, by the gate's first word
abbrev pub BehindForbidsEnd : Type 0
BehindForbidsEnd =
    ScannerComesTo ((Load 0, Value 0x0001_0001_0000_0001) ∷ (Load 2, Value 1) ∷ (Load 5, Value 0x0000_03d0_0400_0003) ∷ (Load 24, Value 65537) ∷ []) (NothingNow 0x0001_0001_0000_0001)

-- and a page that another scans
abbrev pub ScannedBoardForbidsEnd : Type 0
ScannedBoardForbidsEnd =
    ScannerComesTo ((Load 0, Value 0x0000_0001_0000_0001) ∷ (Load 2, Value 1) ∷ (Load 5, Value 0x0000_03d0_0400_0003) ∷ (Load 24, Value 65546) ∷ []) (NothingNow 65546)

-- a mutator that faults on a full page claims that one, after the looks at announced places
abbrev pub FullPageIsWanted : Type 0
FullPageIsWanted =
    MutatorComesTo (Faulted 5) (((Load 0, Value 0x0000_0101_0000_0001) ∷ (Load 2, Value 1) ∷ (Load 21, Value 0) ∷ (Load 5, Value 0x0000_00a0_0300_0082) ∷ []) ++ nothing_announced 609 24 ++ ((Load 0, Value 0x0000_0101_0000_0001) ∷ (Exchange 21 0 65538, Won) ∷ [])) (ScanPage 5)

-- one that lacks room takes the first that nobody has: the board and page 4 are open, page 5 is not
abbrev pub NextFullPageIsChosen : Type 0
NextFullPageIsChosen =
    MutatorComesTo Allocates (((Load 0, Value 0x0000_0101_0000_0001) ∷ (Load 2, Value 1) ∷ (Load 5, Value 0x0000_00a0_0300_0082) ∷ (Load 24, Value 65537) ∷ (Load 20, Value 65537) ∷ (Load 21, Value 0) ∷ []) ++ nothing_announced 609 24 ++ ((Load 0, Value 0x0000_0101_0000_0001) ∷ (Exchange 21 0 65538, Won) ∷ [])) (ScanPage 5)

-- a wanted page that was opened meanwhile is left
abbrev pub OpenPageIsLeft : Type 0
OpenPageIsLeft =
    MutatorComesTo (Faulted 5) ((Load 0, Value 0x0000_0101_0000_0001) ∷ (Load 2, Value 1) ∷ (Load 21, Value 65537) ∷ []) (NothingNow 65537)

-- a wanted page that isn't full is left to the choice, here of the board
abbrev pub FillingPageIsNotWanted : Type 0
FillingPageIsNotWanted =
    MutatorComesTo (Faulted 6) ((Load 0, Value 0x0000_0101_0000_0001) ∷ (Load 2, Value 1) ∷ (Load 22, Value 0) ∷ (Load 5, Value 0x0000_00a0_0300_0082) ∷ (Load 5, Value 0x0000_00a0_0300_0082) ∷ (Load 24, Value 1) ∷ (Load 0, Value 0x0000_0101_0000_0001) ∷ (Exchange 24 1 65538, Won) ∷ []) (ScanPage 8)

-- where FRONT is a page's first word there is no filling page
abbrev pub NoFillingPage : Type 0
NoFillingPage =
    MutatorComesTo Allocates ((Load 0, Value 0x0000_0101_0000_0001) ∷ (Load 2, Value 1) ∷ (Load 5, Value 0x0000_00a0_0300_0080) ∷ (Load 24, Value 65537) ∷ (Load 20, Value 65537) ∷ (Load 21, Value 65537) ∷ (Load 0, Value 0x0000_0101_0000_0001) ∷ (Load 5, Value 0x0000_00a0_0300_0080) ∷ (Load 24, Value 65537) ∷ (Load 20, Value 65537) ∷ (Load 21, Value 65537) ∷ (Load 5, Value 0x0000_00a0_0300_0080) ∷ (Load 7, Value 1) ∷ (Exchange 7 1 2, Won) ∷ (Load 6, Value 0) ∷ (Exchange 2 1 2, Won) ∷ []) Marked

-- a wanted page of a later epoch, which no mutator comes upon, would end the round where the claim would begin
abbrev pub LaterWantedPageEnds : Type 0
LaterWantedPageEnds =
    (MutatorComesTo (Faulted 5) ((Load 0, Value 0x0000_0101_0000_0001) ∷ (Load 2, Value 1) ∷ (Load 21, Value 131073) ∷ (Load 5, Value 0x0000_00a0_0300_0082) ∷ []) (NothingNow 131073))
    × (MutatorComesTo (Faulted 8) ((Load 0, Value 0x0000_0101_0000_0001) ∷ (Load 2, Value 1) ∷ (Load 24, Value 131073) ∷ []) (NothingNow 131073))

-- a filling page of a later epoch, which a scanner comes upon that slept through flips, ends it after the second look at the area
abbrev pub LaterFillingPageEnds : Type 0
LaterFillingPageEnds =
    ScannerComesTo ((Load 0, Value 0x0000_0001_0000_0001) ∷ (Load 2, Value 1) ∷ (Load 5, Value 0x0000_03d0_0400_0003) ∷ (Load 24, Value 65537) ∷ (Load 0, Value 0x0000_0001_0000_0001) ∷ (Load 5, Value 0x0000_03d0_0400_0003) ∷ (Load 24, Value 65537) ∷ (Load 20, Value 131073) ∷ (Load 5, Value 0x0000_03d0_0400_0003) ∷ []) (NothingNow 131073)

-- a board that another scans doesn't hinder the claim of a full page
abbrev pub ScannedBoardIsPassed : Type 0
ScannedBoardIsPassed =
    MutatorComesTo Allocates
    (((Load 0, Value 0x0000_0101_0000_0001) ∷ (Load 2, Value 1) ∷ (Load 5, Value 0x0000_00a0_0300_0082) ∷ (Load 24, Value 65542) ∷ (Load 20, Value 0) ∷ [])
    ++ nothing_announced 609 24 ++ ((Load 0, Value 0x0000_0101_0000_0001) ∷ (Exchange 20 0 65538, Won) ∷ []))
    (ScanPage 4)
