-- The walks over the heap's records.
use Rattle.std.specs.Prelude.{◌≡◌, ℕ, zero, suc, ◌-◌, ◌++◌, ◌↔◌, Bool, true, false, List, length, map, Option, Some, None, slice_index_or}
use Rattle.space_map.specs.declared.page_word.PageWord.{PageWord}
use Rattle.heap_state.specs.Kept.{Kept, reserved_in}
use Rattle.heap_state.specs.Meaning.Dump.{Dump}
use Rattle.heap_state.specs.Meaning.Represents.{IsCopying, IsInHeap}
use Rattle.heap_state.specs.Memory.Table.{Table}
use Rattle.heap_state.specs.Memory.Walk.{Walked, is_protected, old_walk_in, walk, walk_in, walk_space}
use Rattle.heap_audit.specs.Breaks.{BreaksAt, BreaksSpace, break_in}
use Rattle.heap_audit.specs.Firsts.{TellsFirst}
use Rattle.heap_audit.specs.Told.{extent_of}
use Rattle.heap_audit.specs.declared.walks.stretch.Stretch.{Stretch}
use Rattle.heap_audit.specs.declared.walks.stretch.Stretch.TheVariants.{Copies, New}
use Rattle.heap_audit.specs.declared.walks.RecordAt.{RecordAt}
use Rattle.heap_audit.specs.declared.walks.Walks.{Walks}

-- a record that is walked, as it is kept
abbrev pub walked : RecordAt → Walked
walked r = record { at = r.at; size = r.size }

-- ---- one part of a space

-- the walk over copies passes over no page, one over new records over those that are not open in the epoch
abbrev pub passes_on : Table → Stretch → ℕ → Bool
passes_on t Copies p = false
passes_on t (New epoch) p = is_protected epoch (t.page p)

-- copies alone have places that are reserved
abbrev pub reserved_on : List Kept → Stretch → ℕ → ℕ
reserved_on kept Copies a = reserved_in kept a
reserved_on kept (New epoch) a = 0

-- the records that are met from a place up to the end
abbrev pub walk_on : Dump → Stretch → (from end : ℕ) → List Walked
walk_on d stretch from end = walk (end - from) (passes_on d.table stretch) (reserved_on d.kept stretch) d.table.heap end from

-- where that walk breaks
abbrev pub break_on : Dump → Stretch → (from end : ℕ) → Option ℕ
break_on d stretch from end = break_in (end - from) (passes_on d.table stretch) (reserved_on d.kept stretch) d.table.heap end from

-- ---- a space

-- the epoch before this one, if there is one
abbrev pub epoch_before : ℕ → Option ℕ
epoch_before zero = None
epoch_before (suc epoch) = Some epoch

-- the page is not open in this epoch, if there is one
abbrev pub is_closed_in : Option ℕ → PageWord → Bool
is_closed_in None page = true
is_closed_in (Some epoch) page = is_protected epoch page

-- the records of a space whose new ones lie on the pages that are open in this epoch, if there is one
abbrev pub space_walked : Dump → Option ℕ → (space : ℕ) → List Walked
space_walked d opened space =
    walk_space (λ p. is_closed_in opened (d.table.page p)) (reserved_in d.kept) d.table.heap (extent_of d.table space).start (extent_of d.table space).front
    (extent_of d.table space).low (extent_of d.table space).end

-- the walk over these breaks there
abbrev pub BreaksOver : Dump → Option ℕ → (space : ℕ) → ℕ → Type 0
BreaksOver d opened space a =
    BreaksSpace (λ p. is_closed_in opened (d.table.page p)) (reserved_in d.kept) d.table.heap (extent_of d.table space).start (extent_of d.table space).front
    (extent_of d.table space).low (extent_of d.table space).end a

-- ---- both spaces

-- What the walks over a dump's heap met: the records of the epoch's space, how many these are, and behind them those of the old one while
-- the epoch is not traced; the first place at which a walk breaks; and by address whether a record begins there.
pub record AreWalks (d : Dump) (w : Walks) : Type 0 where
  pub copying : IsCopying d.table → map walked w.records.items ≡ walk_in d.table d.kept ++ old_walk_in d.table d.kept
  pub traced : (IsCopying d.table → ⊥) → map walked w.records.items ≡ walk_in d.table d.kept
  pub now : w.now ≡ length (walk_in d.table d.kept)
  pub breaks : TellsFirst (λ a. BreaksAt d a → ⊥) w.first_break
  pub begins : (a : ℕ) → (slice_index_or w.begins.items a false ≡ true) ↔ ((size : ℕ) × IsInHeap d (record { at = a; size = size }))
