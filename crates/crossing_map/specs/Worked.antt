-- A heap of four pages a space, worked out by hand, and what a walk over each space comes to.
use Rattle.std.specs.Prelude.{◌≡◌, ℕ, ◌+◌, List, [], ◌∷◌, replicate}
use Rattle.atom_store.specs.Runs.{with_words}
use Rattle.heap_state.specs.Memory.Table.{Table, table_of}
use Rattle.crossing_map.specs.declared.area.Area.{Area}
use Rattle.crossing_map.specs.declared.walked.Walked.{Walked}
use Rattle.crossing_map.specs.declared.walked.Walked.TheVariants as next
use Rattle.crossing_map.specs.Crossing.{pairs_kept}
use Rattle.crossing_map.specs.Walking.{next_walked}

-- In epoch 1 worker 1 copies the raw record at 195, whose word is BUSY, to 259, which it has reserved; the record at 192 was copied to
-- 256. In space 1 pages 6 and 7 are new: page 6 is open and has a record without words at 384 and one of two words at 385; page 7
-- is not open yet. The page words begin at place 16, the heap's words at 33.
unfoldable pub worked : Table
worked =
    table_of 4
    (with_words
    ((16 + 3, 1)
    ∷ (16 + 6, 65537)
    ∷ (33 + 192, 0x0000_0000_0100_0023)
    ∷ (33 + 195, 0x0000_0000_0001_0017)
    ∷ (33 + 256, 0x0000_0000_0001_0022)
    ∷ (33 + 384, 0x0000_0000_0004_0002)
    ∷ (33 + 385, 0x0000_0000_0005_0022)
    ∷ (33 + 386, 0x1c)
    ∷ (33 + 448, 0x0000_0000_0006_0022)
    ∷ [])
    (replicate 633 0))

-- what the workers keep: worker 1 the header of the record that it copies, a raw one of one word, and the reserved place and one more
abbrev pub kept : List (ℕ × ℕ)
kept = (0, 0) ∷ (0x0000_0000_0002_0016, 260) ∷ []

abbrev pub new_space : Area
new_space = record { front = 261; low = 384; end = 512 }

abbrev pub old_space : Area
old_space = record { front = 0; low = 192; end = 256 }

abbrev pub next_new : ℕ → Walked
next_new at = next_walked worked (pairs_kept kept) 1 new_space at

abbrev pub next_old : ℕ → Walked
next_old at = next_walked worked (pairs_kept kept) 0 old_space at

-- The walk of the new space leaves out the reserved place and page 7, that of the old space goes by the forward and the BUSY. In the
-- middle of a record it is broken, and so is a record that would pass FRONT.
pub record IsWorkedOut : Type 0 where
  pub first_copy : next_new 256 ≡ next.Record 256 3
  pub over_reserved : next_new 259 ≡ next.Record 384 1
  pub second_new : next_new 385 ≡ next.Record 385 3
  pub over_closed : next_new 388 ≡ next.Ended
  pub forward : next_old 0 ≡ next.Record 192 3
  pub busy : next_old 195 ≡ next.Record 195 2
  pub blank : next_old 197 ≡ next.Ended
  pub in_the_middle : next_new 386 ≡ next.Broken 386
  pub passes_front : next_walked worked (pairs_kept kept) 1 (record { front = 258; low = 384; end = 512 }) 256 ≡ next.Broken 256
  pub unreserved : next_walked worked [] 1 (record { front = 512; low = 512; end = 512 }) 259 ≡ next.Record 384 1
