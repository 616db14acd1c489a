-- A small heap, worked out by hand: a record of two words is copied by worker 1 in epoch 1.
use Rattle.std.specs.Prelude.{ℕ, zero, suc, false, ◌+◌, List, [], ◌∷◌, ◌++◌, replicate}
use Rattle.atom_store.specs.declared.step.Step.{Step}
use Rattle.atom_store.specs.declared.step.Step.TheVariants.{Load, Store, Exchange}
use Rattle.atom_store.specs.declared.reply.Reply.{Reply}
use Rattle.atom_store.specs.declared.reply.Reply.TheVariants.{Value, Done, Won, Lost}
use Rattle.atom_store.specs.Runs.{with_words}
use Rattle.space_map.specs.Worked.{four_pages}
use Rattle.forwarding.specs.Evacuation.{Evacuation, begun}

-- ---- a copy

-- the record at 192, an address of space 0, is copied by worker 1 in epoch 1 to FRONT of space 1
abbrev pub worked : Evacuation
worked = begun four_pages 192 1 1

abbrev pub header : ℕ
header = 0x0000_0000_0001_0022

-- FRONT, LOW and owed are 0, 256 and 64
abbrev pub area : ℕ
area = 0x0000_0400_0400_0000

-- the header is taken and the area is loaded
abbrev pub taking : List (Step × Reply)
taking =
    (Load (33 + 192), Value header)
    ∷ (Exchange (33 + 192) header 0x0000_0000_0001_0027, Won)
    ∷ (Load 5, Value area)
    ∷ []

-- the header and the two words are copied to this address
abbrev pub copying : ℕ → List (Step × Reply)
copying to =
    (Store (33 + to) header, Done)
    ∷ (Load (33 + 193), Value 0x1c)
    ∷ (Store (33 + (to + 1)) 0x1c, Done)
    ∷ (Load (33 + 194), Value 0x301)
    ∷ (Store (33 + (to + 2)) 0x301, Done)
    ∷ []

-- this forward is stored, and nothing is announced any more
abbrev pub forwarding : ℕ → List (Step × Reply)
forwarding forward = (Store (33 + 192) forward, Done) ∷ (Store (609 + 1) 0, Done) ∷ []

-- the copy's 13 steps: 256 is announced and reserved, and page 4 begins in the copy
abbrev pub copy : List (Step × Reply)
copy =
    taking
    ++ ((Store (609 + 1) 257, Done) ∷ (Exchange 5 area 0x0000_03d0_0400_0003, Won) ∷ [])
    ++ copying 256
    ++ ((Store (25 + 4) 256, Done) ∷ [])
    ++ forwarding 0x0000_0000_0100_0023

-- who comes later finds the forward
abbrev pub second : List (Step × Reply)
second = (Load (33 + 192), Value 0x0000_0000_0100_0023) ∷ []

-- ---- other replies

-- worker 2 has taken the record: its word is loaded until the forward is there
abbrev pub taken_by_another : List (Step × Reply)
taken_by_another =
    (Load (33 + 192), Value 0x0000_0000_0002_0027)
    ∷ (Load (33 + 192), Value 0x0000_0000_0002_0027)
    ∷ second

-- worker 2 takes the record first: the header's exchange is lost
abbrev pub header_lost : List (Step × Reply)
header_lost =
    (Load (33 + 192), Value header)
    ∷ (Exchange (33 + 192) header 0x0000_0000_0001_0027, Lost 0x0000_0000_0002_0027)
    ∷ second

-- new pages are claimed first, so that LOW is 192: the same place is exchanged for again
abbrev pub low_moved : List (Step × Reply)
low_moved =
    taking
    ++ ((Store (609 + 1) 257, Done)
    ∷ (Exchange 5 area 0x0000_03d0_0400_0003, Lost 0x0000_0400_0300_0000)
    ∷ (Exchange 5 0x0000_0400_0300_0000 0x0000_03d0_0300_0003, Won)
    ∷ [])
    ++ copying 256
    ++ ((Store (25 + 4) 256, Done) ∷ [])
    ++ forwarding 0x0000_0000_0100_0023

-- another record is copied first, so that FRONT is 5: that place is announced before it is exchanged for
abbrev pub front_moved : List (Step × Reply)
front_moved =
    taking
    ++ ((Store (609 + 1) 257, Done)
    ∷ (Exchange 5 area 0x0000_03d0_0400_0003, Lost 0x0000_03b0_0300_0005)
    ∷ (Store (609 + 1) 262, Done)
    ∷ (Exchange 5 0x0000_03b0_0300_0005 0x0000_0380_0300_0008, Won)
    ∷ [])
    ++ copying 261
    ++ forwarding 0x0000_0000_0105_0023

-- ---- other sizes and places

-- FRONT is 62, so that the copy begins on page 4 and ends on page 5
abbrev pub over_two_pages : List (Step × Reply)
over_two_pages =
    (Load (33 + 192), Value header)
    ∷ (Exchange (33 + 192) header 0x0000_0000_0001_0027, Won)
    ∷ (Load 5, Value 0x0000_0400_0400_003e)
    ∷ (Store (609 + 1) 319, Done)
    ∷ (Exchange 5 0x0000_0400_0400_003e 0x0000_03d0_0400_0041, Won)
    ∷ copying 318
    ++ ((Store (25 + 5) 318, Done) ∷ [])
    ++ forwarding 0x0000_0000_013e_0023

-- a record without words
abbrev pub header_alone : List (Step × Reply)
header_alone =
    (Load (33 + 192), Value 0x0000_0000_0001_0002)
    ∷ (Exchange (33 + 192) 0x0000_0000_0001_0002 0x0000_0000_0001_0007, Won)
    ∷ (Load 5, Value area)
    ∷ (Store (609 + 1) 257, Done)
    ∷ (Exchange 5 area 0x0000_03f0_0400_0001, Won)
    ∷ (Store (33 + 256) 0x0000_0000_0001_0002, Done)
    ∷ (Store (25 + 4) 256, Done)
    ∷ forwarding 0x0000_0000_0100_0003

-- ---- cells

-- the header of a cell
abbrev pub cell_header : ℕ
cell_header = 0x0000_0000_0001_002e

-- The cell is copied to 256, and its forward is stored. Its target is the record at 200; it was never linked.
abbrev pub cell_published : List (Step × Reply)
cell_published =
    (Load (33 + 192), Value cell_header)
    ∷ (Exchange (33 + 192) cell_header 0x0000_0000_0001_0027, Won)
    ∷ (Load 5, Value area)
    ∷ (Store (609 + 1) 257, Done)
    ∷ (Exchange 5 area 0x0000_03d0_0400_0003, Won)
    ∷ (Store (33 + 256) cell_header, Done)
    ∷ (Load (33 + 193), Value 0x321)
    ∷ (Store (33 + 257) 0x321, Done)
    ∷ (Load (33 + 194), Value 0)
    ∷ (Store (33 + 258) 0, Done)
    ∷ (Store (25 + 4) 256, Done)
    ∷ (Store (33 + 192) 0x0000_0000_0100_0023, Done)
    ∷ []

-- WEAK is this word, and the copy's link gets it
abbrev pub reading_weak : ℕ → List (Step × Reply)
reading_weak head = (Load 6, Value head) ∷ (Store (33 + 258) head, Done) ∷ []

-- the copy is linked, and nothing is announced any more
abbrev pub linking : ℕ → List (Step × Reply)
linking head = (Exchange 6 head 257, Won) ∷ (Store (609 + 1) 0, Done) ∷ []

-- the copy's 16 steps: no cell was linked before
abbrev pub cell : List (Step × Reply)
cell = cell_published ++ reading_weak 0 ++ linking 0

-- another worker links the cell at 259 meanwhile: WEAK is loaded again, and the link gets what it is now
abbrev pub weak_lost : List (Step × Reply)
weak_lost = cell_published ++ reading_weak 0 ++ ((Exchange 6 0 257, Lost 260) ∷ []) ++ reading_weak 260 ++ linking 260

-- ---- the longest record

-- replies that take a machine through so many words of a record, each of them 0
unfoldable pub words_replied : ℕ → List Reply
words_replied zero = []
words_replied (suc n) = Value 0 ∷ Done ∷ words_replied n

-- a record of 4095 words, at the first address of space 0, is copied to a space of 64 pages that is free and owed
abbrev pub longest : Evacuation
longest = begun (record { pages = 64; checkpoints = false }) 0 1 1

-- the replies to its copy, in which 64 pages begin
unfoldable pub longest_replies : List Reply
longest_replies =
    (Value 0x0000_0000_0001_fff2 ∷ Won ∷ Value 0x0001_0000_4000_0000 ∷ Done ∷ Won ∷ Done ∷ [])
    ++ words_replied 4095
    ++ replicate 64 Done
    ++ (Done ∷ Done ∷ [])

-- ---- the words

-- a table of four pages a space that has nothing but the record, whose fields are the number 7 and a pointer to itself, and
-- the area that it is copied to
unfoldable pub words_before : List ℕ
words_before = with_words ((5, area) ∷ (33 + 192, header) ∷ (33 + 193, 0x1c) ∷ (33 + 194, 0x301) ∷ []) (replicate 633 0)

unfoldable pub words_after : List ℕ
words_after =
    with_words
    ((5, 0x0000_03d0_0400_0003)
    ∷ (25 + 4, 256)
    ∷ (33 + 192, 0x0000_0000_0100_0023)
    ∷ (33 + 256, header)
    ∷ (33 + 257, 0x1c)
    ∷ (33 + 258, 0x301)
    ∷ [])
    words_before
