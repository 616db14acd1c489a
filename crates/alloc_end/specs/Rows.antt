-- Worked rows of allocation, in a heap of 4 pages a space: each step with its reply, words as numbers.
use Rattle.std.proofs.Common.{zero, suc, lit≤, lit<}
use Rattle.std.specs.Prelude.{ℕ, ◌+◌}
use Rattle.std.specs.Prelude.{◌++◌, List, [], ◌∷◌, true, false}
use Rattle.atom_store.specs.declared.step.Step.{Step}
use Rattle.atom_store.specs.declared.step.Step.TheVariants.{Load, Store, Exchange}
use Rattle.atom_store.specs.declared.reply.Reply.{Reply}
use Rattle.atom_store.specs.declared.reply.Reply.TheVariants.{Value, Done, Won, Lost}
use Rattle.atom_store.specs.Machine.{RunsTo}
use Rattle.space_map.specs.Spaces.{Layout}
use Rattle.space_map.specs.Worked.{four_pages}
use Rattle.heap_words.specs.declared.kind.Kind.TheVariants.{Fields, Raw, Mixed, Weak}
use Rattle.record_layout.specs.declared.header.Header.{Header}
use Rattle.alloc_end.specs.declared.run.Run.{Run}
use Rattle.alloc_end.specs.declared.allocated.Allocated.TheVariants.{Placed, Full}
use Rattle.alloc_end.specs.Place.{begun, place_machine}

abbrev pub no_run : Run
no_run = record { at = 0; end = 0 }

-- a record of two fields, the first of mutator 0
abbrev pub pair : Header
pair = record { kind = Fields; len = 2; serial = 1; mutator = 0; short = lit≤ tt; counted = lit< tt }

-- a raw record of one word, the second
abbrev pub one_word : Header
one_word = record { kind = Raw; len = 1; serial = 2; mutator = 0; short = lit≤ tt; counted = lit< tt }

-- a mixed record of one field and one number, the first
abbrev pub field_and_number : Header
field_and_number = record { kind = Mixed; len = 3; serial = 1; mutator = 0; short = lit≤ tt; counted = lit< tt }

-- a cell, the second
abbrev pub cell : Header
cell = record { kind = Weak; len = 2; serial = 2; mutator = 0; short = lit≤ tt; counted = lit< tt }

-- a raw record that takes two pages, the first
abbrev pub of_two_pages : Header
of_two_pages = record { kind = Raw; len = 64; serial = 1; mutator = 0; short = lit≤ tt; counted = lit< tt }

-- a record of the greatest length
abbrev pub longest : Header
longest = record { kind = Fields; len = 4095; serial = 1; mutator = 0; short = lit≤ tt; counted = lit< tt }

-- four pages a space, with room for checkpoints: SAVE stands from place 633 on
abbrev pub with_room : Layout
with_room = record { pages = 4; checkpoints = true }

-- so many stores of 0 in a row, from this place on
abbrev pub zeros_stored : (place count : ℕ) → List (Step × Reply)
zeros_stored place zero = []
zeros_stored place (suc count) = (Store place 0, Done) ∷ zeros_stored (place + 1) count

-- the first record of a heap: a page is claimed at the end of the space, cleared and opened, and the record stands at its first word
abbrev pub FirstPairIsPlaced : Type 0
FirstPairIsPlaced =
    RunsTo place_machine (begun four_pages no_run pair 0 0 0 0)
    (((Load 2, Value 1) ∷ (Load 12, Value 4) ∷ (Load 4, Value 0x0000_0000_0400_0000) ∷ (Exchange 4 0x0000_0000_0400_0000 0x0000_0000_0300_0000, Won) ∷ []) ++ zeros_stored 225 64 ++ ((Store 19 1, Done) ∷ (Store 225 65570, Done) ∷ [])) (Placed 192)

-- the next record goes into the run behind it, by one store
abbrev pub NextRecordIsPlaced : Type 0
NextRecordIsPlaced =
    RunsTo place_machine (begun four_pages (record { at = 195; end = 256 }) one_word 0 0 0 0) ((Store 228 0x0000_0000_0002_0016, Done) ∷ []) (Placed 195)

-- of a mixed record the count of its fields stands before its header
abbrev pub CountIsStoredFirst : Type 0
CountIsStoredFirst =
    RunsTo place_machine (begun four_pages (record { at = 192; end = 256 }) field_and_number 0 1 0 0)
    ((Store 226 0x0000_0000_0000_0004, Done) ∷ (Store 225 0x0000_0000_0001_003a, Done) ∷ []) (Placed 192)

-- and so it does in pages that are claimed for it
abbrev pub MixedRecordIsPlaced : Type 0
MixedRecordIsPlaced =
    RunsTo place_machine (begun four_pages no_run field_and_number 0 1 0 0)
    (((Load 2, Value 1) ∷ (Load 12, Value 4) ∷ (Load 4, Value 0x0000_0000_0400_0000) ∷ (Exchange 4 0x0000_0000_0400_0000 0x0000_0000_0300_0000, Won) ∷ [])
    ++ zeros_stored 225 64 ++ ((Store 19 1, Done) ∷ (Store 226 0x0000_0000_0000_0004, Done) ∷ (Store 225 0x0000_0000_0001_003a, Done) ∷ []))
    (Placed 192)

-- of a cell its target stands before its header, and 0 as its link: here its target is the record at 192
abbrev pub TargetIsStoredFirst : Type 0
TargetIsStoredFirst =
    RunsTo place_machine (begun four_pages (record { at = 194; end = 256 }) cell 0 0 0 0x0000_0000_0000_0301)
    ((Store 228 0x0000_0000_0000_0301, Done) ∷ (Store 229 0, Done) ∷ (Store 227 0x0000_0000_0002_002e, Done) ∷ []) (Placed 194)

-- and so it does in pages that are claimed for it
abbrev pub CellIsPlaced : Type 0
CellIsPlaced =
    RunsTo place_machine (begun four_pages no_run cell 0 0 0 0x0000_0000_0000_03fd)
    (((Load 2, Value 1) ∷ (Load 12, Value 4) ∷ (Load 4, Value 0x0000_0000_0300_0000) ∷ (Exchange 4 0x0000_0000_0300_0000 0x0000_0000_0200_0000, Won) ∷ [])
    ++ zeros_stored 161 64 ++ ((Store 18 1, Done) ∷ (Store 162 0x0000_0000_0000_03fd, Done) ∷ (Store 163 0, Done) ∷ (Store 161 0x0000_0000_0002_002e, Done) ∷ []))
    (Placed 128)

-- after the first checkpoint was begun, each of two pages is marked as new since then, and opened
abbrev pub PagesAreMarkedAndOpened : Type 0
PagesAreMarkedAndOpened =
    RunsTo place_machine (begun with_room no_run of_two_pages 0 0 1 0)
    (((Load 2, Value 1) ∷ (Load 12, Value 4) ∷ (Load 4, Value 0x0000_0000_0400_0000) ∷ (Exchange 4 0x0000_0000_0400_0000 0x0000_0000_0200_0000, Won) ∷ [])
    ++ zeros_stored 161 128 ++ ((Store 635 0x0000_0001_0003, Done) ∷ (Store 18 1, Done) ∷ (Store 636 0x0000_0001_0003, Done) ∷ (Store 19 1, Done) ∷ (Store 161 0x0000_0000_0001_0406, Done) ∷ []))
    (Placed 128)

-- with 64 words owed in an epoch that isn't traced, the page is claimed only where they are left
abbrev pub ReserveIsKept : Type 0
ReserveIsKept =
    RunsTo place_machine (begun four_pages no_run pair 1 0 0 0) ((Load 2, Value 1) ∷ (Load 13, Value 4) ∷ (Load 5, Value 0x0000_0400_0200_0001) ∷ [])
    (Full (record { asked = 1; room = 127; owed = 64; traced = false; live = 1; size = 4 }))

-- once it is traced, nothing is owed any more
abbrev pub ReserveIsFreeOnceTraced : Type 0
ReserveIsFreeOnceTraced =
    RunsTo place_machine (begun four_pages no_run pair 1 0 0 0)
    (((Load 2, Value 2) ∷ (Load 13, Value 4) ∷ (Load 5, Value 0x0000_0400_0200_0001) ∷ (Exchange 5 0x0000_0400_0200_0001 0x0000_0000_0100_0001, Won) ∷ [])
    ++ zeros_stored 353 64 ++ ((Store 21 65537, Done) ∷ (Store 353 65570, Done) ∷ []))
    (Placed 320)

-- a heap that is full of live records tells its numbers
abbrev pub FullTellsItsNumbers : Type 0
FullTellsItsNumbers =
    RunsTo place_machine (begun four_pages no_run pair 1 0 0 0)
    ((Load 2, Value 2) ∷ (Load 13, Value 4) ∷ (Load 5, Value 0x0000_0000_0400_00fc) ∷ [])
    (Full (record { asked = 1; room = 4; owed = 0; traced = true; live = 252; size = 4 }))

-- the longest record asks for 64 pages
abbrev pub LongestIsFull : Type 0
LongestIsFull =
    RunsTo place_machine (begun four_pages no_run longest 1 0 0 0)
    ((Load 2, Value 2) ∷ (Load 13, Value 4) ∷ (Load 5, Value 0x0000_0000_0400_0000) ∷ [])
    (Full (record { asked = 64; room = 256; owed = 0; traced = true; live = 0; size = 4 }))

-- a claim that is lost to another mutator's looks at TRACED again
abbrev pub LostClaimIsTriedAgain : Type 0
LostClaimIsTriedAgain =
    RunsTo place_machine (begun four_pages no_run pair 1 0 0 0)
    ((Load 2, Value 1) ∷ (Load 13, Value 4) ∷ (Load 5, Value 0x0000_0400_0200_0000) ∷ (Exchange 5 0x0000_0400_0200_0000 0x0000_0400_0100_0000, Lost 0x0000_0400_0100_0000) ∷ (Load 2, Value 1) ∷ (Load 13, Value 4) ∷ (Load 5, Value 0x0000_0400_0100_0000) ∷ [])
    (Full (record { asked = 1; room = 64; owed = 64; traced = false; live = 0; size = 4 }))
