-- A small heap, worked out by hand: two cells were linked in epoch 1, whose targets lead to old records.
use Rattle.std.specs.Prelude.{ℕ, ◌+◌, List, [], ◌∷◌, replicate}
use Rattle.atom_store.specs.declared.step.Step.{Step}
use Rattle.atom_store.specs.declared.step.Step.TheVariants.{Load, Store, Exchange}
use Rattle.atom_store.specs.declared.reply.Reply.{Reply}
use Rattle.atom_store.specs.declared.reply.Reply.TheVariants.{Value, Done, Won, Lost}
use Rattle.atom_store.specs.Runs.{with_words}
use Rattle.space_map.specs.Worked.{four_pages}
use Rattle.cell_walk.specs.Walking.{Walking, begun}

-- WEAK and WEAKTURN stand at places 6 and 7
abbrev pub worked : Walking
worked = begun four_pages 1

-- ---- a chain

-- The cell at 261 was linked last. Its target leads to 198, where a header stands; that of the cell at 258 leads to 192, whose
-- record was copied to 256.
abbrev pub two_cells : List (Step × Reply)
two_cells =
    (Load 7, Value 1)
    ∷ (Exchange 7 1 2, Won)
    ∷ (Load 6, Value 0x106)
    ∷ (Load (33 + 262), Value 0x319)
    ∷ (Load (33 + 198), Value 0x0000_0000_0004_0012)
    ∷ (Store (33 + 262) 0, Done)
    ∷ (Load (33 + 263), Value 0x103)
    ∷ (Load (33 + 259), Value 0x301)
    ∷ (Load (33 + 192), Value 0x0000_0000_0100_0013)
    ∷ (Store (33 + 259) 0x401, Done)
    ∷ (Load (33 + 260), Value 0)
    ∷ []

-- the target of the one was emptied in an earlier epoch, that of the other leads to a new record: both stay
abbrev pub targets_stay : List (Step × Reply)
targets_stay =
    (Load 7, Value 1)
    ∷ (Exchange 7 1 2, Won)
    ∷ (Load 6, Value 0x106)
    ∷ (Load (33 + 262), Value 0)
    ∷ (Load (33 + 263), Value 0x103)
    ∷ (Load (33 + 259), Value 0x401)
    ∷ (Load (33 + 260), Value 0)
    ∷ []

-- no cell was copied
abbrev pub no_cells : List (Step × Reply)
no_cells = (Load 7, Value 1) ∷ (Exchange 7 1 2, Won) ∷ (Load 6, Value 0) ∷ []

-- ---- the turn

-- another worker has the turn, or had it
abbrev pub turn_taken : List (Step × Reply)
turn_taken = (Load 7, Value 2) ∷ []

-- the turn was taken in a later epoch, while this worker slept
abbrev pub later_turn : List (Step × Reply)
later_turn = (Load 7, Value 3) ∷ []

-- another worker takes the turn first
abbrev pub turn_lost : List (Step × Reply)
turn_lost = (Load 7, Value 1) ∷ (Exchange 7 1 2, Lost 2) ∷ []

-- ---- the words

-- a table of four pages a space with the two cells and the old records' first words
unfoldable pub words_before : List ℕ
words_before =
    with_words
    ((6, 0x106)
    ∷ (7, 1)
    ∷ (33 + 192, 0x0000_0000_0100_0013)
    ∷ (33 + 198, 0x0000_0000_0004_0012)
    ∷ (33 + 256, 0x0000_0000_0001_0012)
    ∷ (33 + 258, 0x0000_0000_0003_002e)
    ∷ (33 + 259, 0x301)
    ∷ (33 + 261, 0x0000_0000_0005_002e)
    ∷ (33 + 262, 0x319)
    ∷ (33 + 263, 0x103)
    ∷ [])
    (replicate 633 0)

unfoldable pub words_after : List ℕ
words_after = with_words ((7, 2) ∷ (33 + 262, 0) ∷ (33 + 259, 0x401) ∷ []) words_before
