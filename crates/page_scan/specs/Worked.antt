-- A small heap, worked out by hand: what was copied into it is scanned in epoch 1.
use Rattle.std.specs.Prelude.{ℕ, zero, suc, ◌+◌, true, false, List, [], ◌∷◌, replicate}
use Rattle.atom_store.specs.declared.step.Step.{Step}
use Rattle.atom_store.specs.declared.step.Step.TheVariants.{Load, Store}
use Rattle.atom_store.specs.declared.reply.Reply.{Reply}
use Rattle.atom_store.specs.declared.reply.Reply.TheVariants.{Value, Done}
use Rattle.atom_store.specs.Machine.{after_replies, replies_in}
use Rattle.atom_store.specs.Runs.{with_words}
use Rattle.space_map.specs.Worked.{four_pages}
use Rattle.page_scan.specs.Scanning.{Scanning, begun}
use Rattle.page_scan.specs.Taken.{answered, scan_machine}

-- ---- the board

-- the board is page 8, whose words are those from 512 on
abbrev pub board : Scanning
board = begun four_pages 8 1 false

-- so many words of the board from this one on are loaded, and are the number 0
abbrev pub loads_zeros : ℕ → ℕ → List (Step × Reply)
loads_zeros zero x = []
loads_zeros (suc n) x = (Load (33 + x), Value 0) ∷ loads_zeros n (x + 1)

abbrev pub board_loads : List (Step × Reply)
board_loads = loads_zeros 16 512

-- the board's second word leads to the old record at 192
abbrev pub board_asks : List (Step × Reply)
board_asks = (Load (33 + 512), Value 0x1c) ∷ (Load (33 + 513), Value 0x301) ∷ []

-- its copy is at 256
abbrev pub board_goes_on : List (Step × Reply)
board_goes_on = (Store (33 + 513) 0x401, Done) ∷ loads_zeros 14 514

-- ---- the filling page

-- page 4 has one record, at 256, whose fields are the number 7 and a pointer to the old record at 192; FRONT is 259
abbrev pub filling : Scanning
filling = begun four_pages 4 1 true

abbrev pub filling_asks : List (Step × Reply)
filling_asks =
    (Load (25 + 4), Value 256)
    ∷ (Load (33 + 256), Value 0x0000_0000_0001_0022)
    ∷ (Load (33 + 257), Value 0x1c)
    ∷ (Load (33 + 258), Value 0x301)
    ∷ []

abbrev pub filling_goes_on : List (Step × Reply)
filling_goes_on = (Store (33 + 258) 0x401, Done) ∷ (Load 5, Value 0x0000_03d0_0400_0003) ∷ []

-- ---- a full page

-- On page 5 the last word of a record that begins at 318 lies first, and a raw record behind it reaches beyond the page. Its words
-- aren't loaded.
abbrev pub full : Scanning
full = begun four_pages 5 1 false

abbrev pub full_loads : List (Step × Reply)
full_loads =
    (Load (25 + 5), Value 318)
    ∷ (Load (33 + 318), Value 0x0000_0000_0001_0022)
    ∷ (Load (33 + 320), Value 0x1c)
    ∷ (Load (33 + 321), Value 0x0000_0000_0002_0646)
    ∷ []

-- ---- a page with a mixed record

-- On page 4 a mixed record begins, with one field and one plain number, which both look like pointers to the old record at 192. A
-- raw record behind it ends with the page.
abbrev pub mixed : Scanning
mixed = begun four_pages 4 1 false

abbrev pub mixed_asks : List (Step × Reply)
mixed_asks =
    (Load (25 + 4), Value 256)
    ∷ (Load (33 + 256), Value 0x0000_0000_0001_003a)
    ∷ (Load (33 + 257), Value 0x4)
    ∷ (Load (33 + 258), Value 0x301)
    ∷ []

-- the plain number is neither loaded nor changed
abbrev pub mixed_goes_on : List (Step × Reply)
mixed_goes_on = (Store (33 + 258) 0x401, Done) ∷ (Load (33 + 260), Value 0x0000_0000_0002_03b6) ∷ []

-- ---- the words

-- the scan after these steps and the answer to what it then asked
abbrev pub answered_after : Scanning → List (Step × Reply) → ℕ → Scanning
answered_after v rows to = answered (after_replies scan_machine v (replies_in rows)) to

-- a table of four pages a space with the record on page 4, whose second field is this word
unfoldable pub words_with : ℕ → List ℕ
words_with field =
    with_words
    ((5, 0x0000_03d0_0400_0003)
    ∷ (25 + 4, 256)
    ∷ (33 + 192, 0x0000_0000_0100_0023)
    ∷ (33 + 256, 0x0000_0000_0001_0022)
    ∷ (33 + 257, 0x1c)
    ∷ (33 + 258, field)
    ∷ [])
    (replicate 633 0)

-- one with the records of page 5, of which the first has this word on the page; FRONT is 422, and a word of the raw record is a
-- number that looks like a pointer
unfoldable pub full_words_with : ℕ → List ℕ
full_words_with field =
    with_words
    ((5, 0x0000_0000_0400_00a6)
    ∷ (25 + 5, 318)
    ∷ (33 + 318, 0x0000_0000_0001_0022)
    ∷ (33 + 320, field)
    ∷ (33 + 321, 0x0000_0000_0002_0646)
    ∷ (33 + 330, 0x301)
    ∷ [])
    (replicate 633 0)

-- one with the records of the page that has a mixed one, whose field is this word; FRONT is 320
unfoldable pub mixed_words_with : ℕ → List ℕ
mixed_words_with field =
    with_words
    ((5, 0x0000_0000_0400_0040)
    ∷ (25 + 4, 256)
    ∷ (33 + 256, 0x0000_0000_0001_003a)
    ∷ (33 + 257, 0x4)
    ∷ (33 + 258, field)
    ∷ (33 + 259, 0x301)
    ∷ (33 + 260, 0x0000_0000_0002_03b6)
    ∷ [])
    (replicate 633 0)
