-- Worked rows of the machines, in a heap of 4 pages a space with room for checkpoints: each step with its reply, words as numbers.
use Rattle.std.specs.Prelude.{ℕ, ◌+◌, ◌*◌, ◌++◌, List, [], ◌∷◌, true}
use Rattle.std.proofs.Common.{zero, suc}
use Rattle.atom_store.specs.declared.step.Step.{Step}
use Rattle.atom_store.specs.declared.step.Step.TheVariants.{Load, Store, Exchange}
use Rattle.atom_store.specs.declared.reply.Reply.{Reply}
use Rattle.atom_store.specs.declared.reply.Reply.TheVariants.{Value, Done, Won, Lost}
use Rattle.atom_store.specs.Machine.{RunsTo}
use Rattle.space_map.specs.declared.save_word.SaveWord.TheVariants as save_word
use Rattle.space_map.specs.Spaces.{Layout}
use Rattle.page_saves.specs.declared.save_end.SaveEnd.TheVariants as save_end
use Rattle.page_saves.specs.declared.save_round_end.SaveRoundEnd.{SaveRoundEnd}
use Rattle.page_saves.specs.declared.save_round_end.SaveRoundEnd.TheVariants.{NoneRuns, Saved, Marked, NothingNow}
use Rattle.page_saves.specs.Guard as guard
use Rattle.page_saves.specs.Save.{begun, save_machine}
use Rattle.page_saves.specs.SaveRound.{begun_by_mutator, begun_by_scanner, save_round_machine}

-- Page words begin at 16, the heap's words at 33, what is said of pages at 633, and saved words at 642. The board is page 8.
abbrev pub four_pages_and_room : Layout
four_pages_and_room = record { pages = 4; checkpoints = true }

-- ---- a save

-- so many words of page 3 from this one on, each loaded and stored where it is saved; its word i is 7 i + 5
abbrev pub words_copied : (i count : ℕ) → List (Step × Reply)
words_copied i zero = []
words_copied i (suc count) = (Load (225 + i), Value (7 * i + 5)) ∷ (Store (834 + i) (7 * i + 5), Done) ∷ words_copied (i + 1) count

-- worker 0 saves page 3 for checkpoint 1 by these 130 steps
abbrev pub save_of_page_3 : List (Step × Reply)
save_of_page_3 = (Exchange 636 0 0x10001, Won) ∷ words_copied 0 64 ++ ((Store 636 0x10002, Done) ∷ [])

abbrev pub PageIsSaved : Type 0
PageIsSaved = RunsTo save_machine (begun four_pages_and_room 3 save_word.Unsaved 1 0) save_of_page_3 save_end.Saved

-- worker 1 may be first
abbrev pub LostSaveEnds : Type 0
LostSaveEnds =
    RunsTo save_machine
    (begun four_pages_and_room 3 save_word.Unsaved 1 0) ((Exchange 636 0 0x10001, Lost 0x10005) ∷ []) (save_end.Taken 0x10005)

-- worker 3 takes the board, saved for checkpoint 1, for checkpoint 2; worker 0 has just done so
abbrev pub LaterSaveEnds : Type 0
LaterSaveEnds =
    RunsTo save_machine
    (begun four_pages_and_room 8 (save_word.Saved 1) 2 3) ((Exchange 641 0x10002 0x2000d, Lost 0x20001) ∷ []) (save_end.Taken 0x20001)

-- ---- a look before a write

-- the look of mutator 0 before it writes a word of page 3, while checkpoint 1 runs, makes these steps
abbrev pub LooksUntilKept : List (Step × Reply) → Type 0
LooksUntilKept rows = RunsTo guard.guard_machine (guard.begun four_pages_and_room 3 1 0) rows (record {})

-- worker 1 is saving the page: it looks until the page is saved
abbrev pub AnotherSavesFirst : Type 0
AnotherSavesFirst = LooksUntilKept ((Load 636, Value 0x10005) ∷ (Load 636, Value 0x10005) ∷ (Load 636, Value 0x10002) ∷ [])

-- a new page is no part of the checkpoint
abbrev pub NewPageIsWritten : Type 0
NewPageIsWritten = LooksUntilKept ((Load 636, Value 0x10003) ∷ [])

-- nobody has saved the page: it does so itself
abbrev pub PageIsSavedFirst : Type 0
PageIsSavedFirst = LooksUntilKept ((Load 636, Value 0) ∷ save_of_page_3)

-- worker 1 is first
abbrev pub LostSaveIsLookedAt : Type 0
LostSaveIsLookedAt = LooksUntilKept ((Load 636, Value 0) ∷ (Exchange 636 0 0x10001, Lost 0x10005) ∷ (Load 636, Value 0x10002) ∷ [])

-- a word that says nothing, and one of a later checkpoint, can't be there: it looks again
abbrev pub NoSuchWordIsLookedAt : Type 0
NoSuchWordIsLookedAt = LooksUntilKept ((Load 636, Value 0x0fff) ∷ (Load 636, Value 0x20002) ∷ (Load 636, Value 0x10002) ∷ [])

-- ---- a save round

-- a round of mutator 0 in epoch 0 makes these steps, and comes to this
abbrev pub MutatorSaves : List (Step × Reply) → SaveRoundEnd → Type 0
MutatorSaves rows result = RunsTo save_round_machine (begun_by_mutator four_pages_and_room 0 0) rows result

-- a round of scanner 1 beside one mutator does
abbrev pub ScannerSaves : List (Step × Reply) → SaveRoundEnd → Type 0
ScannerSaves rows result = RunsTo save_round_machine (begun_by_scanner four_pages_and_room 1 1) rows result

-- checkpoint 1 runs, the board is open, and this is said of it
abbrev pub board_found : (word : ℕ) → List (Step × Reply)
board_found word = (Load 14, Value 1) ∷ (Load 15, Value 0) ∷ (Load 24, Value 1) ∷ (Load 641, Value word) ∷ []

-- pages 0 and 1 are closed
abbrev pub closed_pages : List (Step × Reply)
closed_pages = (Load 16, Value 0) ∷ (Load 17, Value 0) ∷ []

-- the gate of epoch 1 with one mutator that runs, and the checkpoint begun last and done last
abbrev pub scanner_begins : (snap done : ℕ) → List (Step × Reply)
scanner_begins snap done = (Load 0, Value 0x0000_0101_0000_0001) ∷ (Load 14, Value snap) ∷ (Load 15, Value done) ∷ []

-- checkpoint 1 is done
abbrev pub NoneIsLeft : Type 0
NoneIsLeft = MutatorSaves ((Load 14, Value 1) ∷ (Load 15, Value 1) ∷ []) (NoneRuns 1)

-- the board is saved, page 2 is closed too, and page 3 is the first that isn't saved
abbrev pub FirstPageIsSaved : Type 0
FirstPageIsSaved =
    MutatorSaves
    (board_found 0x10002 ++ closed_pages ++ ((Load 18, Value 0) ∷ (Load 19, Value 1) ∷ (Load 636, Value 0) ∷ save_of_page_3)) Saved

-- page 2 is new, and page 3 is saved too
abbrev pub CheckpointIsMarked : Type 0
CheckpointIsMarked =
    MutatorSaves
    (board_found 0x10002
    ++ closed_pages
    ++ ((Load 18, Value 1)
    ∷ (Load 635, Value 0x10003)
    ∷ (Load 19, Value 1)
    ∷ (Load 636, Value 0x10002)
    ∷ (Exchange 15 0 1, Won)
    ∷ [])) Marked

-- another worker may mark it first
abbrev pub LostMarkEnds : Type 0
LostMarkEnds =
    MutatorSaves
    (board_found 0x10002 ++ closed_pages ++ ((Load 18, Value 0) ∷ (Load 19, Value 0) ∷ (Exchange 15 0 1, Lost 1) ∷ [])) (NothingNow 1)

-- worker 1 is saving the board: the checkpoint isn't done, though page 3, the last, is saved
abbrev pub BusyPageForbidsMark : Type 0
BusyPageForbidsMark =
    MutatorSaves
    (board_found 0x10005 ++ closed_pages ++ ((Load 18, Value 0) ∷ (Load 19, Value 1) ∷ (Load 636, Value 0x10002) ∷ [])) (NothingNow 0x10005)

-- it may be saving the last page; or the last is closed
abbrev pub BusyLastPageForbidsMark : Type 0
BusyLastPageForbidsMark =
    (MutatorSaves
    (board_found 0x10002 ++ closed_pages ++ ((Load 18, Value 0) ∷ (Load 19, Value 1) ∷ (Load 636, Value 0x10005) ∷ [])) (NothingNow 0x10005))
    × (MutatorSaves (board_found 0x10005 ++ closed_pages ++ ((Load 18, Value 0) ∷ (Load 19, Value 0) ∷ [])) (NothingNow 0x10005))

-- a board saved for checkpoint 2 shows that this one is long done
abbrev pub LaterCheckpointEnds : Type 0
LaterCheckpointEnds = MutatorSaves (board_found 0x20002) (NothingNow 0x20002)

-- a word above 32 bits is no number of a checkpoint, and is loaded again
abbrev pub NoNumberIsReadAgain : Type 0
NoNumberIsReadAgain =
    MutatorSaves
    ((Load 14, Value 0x1_0000_0001) ∷ (Load 14, Value 1) ∷ (Load 15, Value 0x1_0000_0001) ∷ (Load 15, Value 1) ∷ []) (NoneRuns 1)

-- a scanner's round takes the board in epoch 1, since checkpoint 1 runs between two looks at the gate in this epoch; mutator 0 is first
abbrev pub ScannerLooksTwice : Type 0
ScannerLooksTwice =
    ScannerSaves
    (scanner_begins 1 0
    ++ ((Load 0, Value 0x0000_0001_0000_0001)
    ∷ (Load 24, Value 65537)
    ∷ (Load 641, Value 0)
    ∷ (Exchange 641 0 0x10005, Lost 0x10001)
    ∷ [])) (NothingNow 0x10001)

-- it ends where the second look shows the next epoch
abbrev pub SecondLookEnds : Type 0
SecondLookEnds = ScannerSaves (scanner_begins 1 0 ++ ((Load 0, Value 0x0001_0001_0000_0002) ∷ [])) (NothingNow 0x0001_0001_0000_0002)

-- or where all mutators have left
abbrev pub LastScannerEnds : Type 0
LastScannerEnds = ScannerSaves ((Load 0, Value 0x0200_0000_0000_0001) ∷ []) (NothingNow 0x0200_0000_0000_0001)

-- in epoch 1 the pages of space 1 come after the board; page 5 is open in epoch 0 alone
abbrev pub OtherSpaceIsSaved : Type 0
OtherSpaceIsSaved =
    ScannerSaves
    (scanner_begins 2 1
    ++ ((Load 0, Value 0x0000_0101_0000_0001)
    ∷ (Load 24, Value 65537)
    ∷ (Load 641, Value 0x20002)
    ∷ (Load 20, Value 0)
    ∷ (Load 21, Value 1)
    ∷ (Load 22, Value 65537)
    ∷ (Load 639, Value 0x20003)
    ∷ (Load 23, Value 0)
    ∷ (Exchange 15 1 2, Won)
    ∷ [])) Marked
