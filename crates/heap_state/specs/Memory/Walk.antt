-- The walk over the records of a space.
use Rattle.std.specs.Prelude.{◌≡◌, ◌<◌, ◌≤◌, Contains, ℕ, ⊤, zero, suc, ◌+◌, ◌-◌, ◌==◌, Bool, true, false, List, [], ◌∷◌, ◌++◌, nat_lt, if◌then◌else◌}
use Rattle.heap_words.specs.Decoded.{Decoded, HeaderWord, BusyWord, ForwardWord, decode}
use Rattle.space_map.specs.declared.page_word.PageWord.{PageWord}
use Rattle.space_map.specs.declared.page_word.PageWord.TheVariants.{Unset, Open, Scanning}
use Rattle.space_map.specs.Spaces.{page_of, first_word}
use Rattle.heap_state.specs.Configuration.{Configuration, table}
use Rattle.heap_state.specs.Memory.Era.{era_of, memory_of}
use Rattle.heap_state.specs.Kept.{Kept, kept_of, reserved_in, IsReservedIn}
use Rattle.heap_state.specs.Memory.Table.{Table}

-- ---- what is met at a place

-- What a walk meets: its end; nothing up to the page's end; a reserved place, which it leaves out; a record; or a word that
-- is none of these.
pub data Met : Type 0 where
  AtEnd : Met
  Nothing : Met
  Reserved : (size : ℕ) → Met
  Record : (size : ℕ) → Met
  Broken : Met

-- a header, a forward or the word of a worker that keeps the header gives a record's size
abbrev pub met_word : Decoded → Met
met_word (HeaderWord kind len serial mutator) = Record (len + 1)
met_word (BusyWord len worker) = Record (len + 1)
met_word (ForwardWord len address) = Record (len + 1)
met_word _ = Broken

-- what a walk to `end` meets at a place, where it passes over these pages, and places are reserved of these sizes
abbrev pub meets : (passes : ℕ → Bool) (reserved heap : ℕ → ℕ) → ℕ → ℕ → Met
meets passes reserved heap end at =
    if nat_lt at end then (if passes (page_of at)
    then Nothing
    else if reserved at == 0 then (if heap at == 0 then Nothing else met_word (decode (heap at))) else Reserved (reserved at))
    else AtEnd

-- ---- the list

-- a walked record: its place and its size
pub record Walked : Type 0 where
  pub at : ℕ
  pub size : ℕ

-- where the walk goes on
abbrev pub next_place : ℕ → ℕ → Met → ℕ
next_place end at AtEnd = end
next_place end at Nothing = first_word (page_of at + 1)
next_place end at (Reserved size) = at + size
next_place end at (Record size) = at + size
next_place end at Broken = end

-- the records met there, and those that follow
abbrev pub walked_at : ℕ → Met → List Walked → List Walked
walked_at at (Record size) rest = record { at = at; size = size } ∷ rest
walked_at at _ rest = rest

-- the records that a walk from a place to `end` meets, in at most so many turns
unfoldable pub walk : ℕ → (passes : ℕ → Bool) (reserved heap : ℕ → ℕ) → ℕ → ℕ → List Walked
walk zero passes reserved heap end at = []
walk (suc turns) passes reserved heap end at =
    walked_at at (meets passes reserved heap end at) (walk turns passes reserved heap end (next_place end at (meets passes reserved heap end at)))

-- what a walk to `end` meets at a place is not broken, and a record doesn't pass the end
abbrev pub IsRead : (end at : ℕ) → Met → Type 0
IsRead end at (Record size) = at + size ≤ end
IsRead end at Broken = ⊥
IsRead end at _ = ⊤

-- a walk from a place to `end` can read all that it meets, in at most so many turns
unfoldable pub ReadsAll : ℕ → (passes : ℕ → Bool) (reserved heap : ℕ → ℕ) → ℕ → ℕ → Type 0
ReadsAll zero passes reserved heap end at = ⊤
ReadsAll (suc turns) passes reserved heap end at =
    IsRead end at (meets passes reserved heap end at) × ReadsAll turns passes reserved heap end (next_place end at (meets passes reserved heap end at))

-- ---- a space's records

-- the page is not open in this epoch
abbrev pub is_protected : ℕ → PageWord → Bool
is_protected epoch Unset = true
is_protected epoch (Open e) = if e == epoch then false else true
is_protected epoch (Scanning e worker) = true

-- the page is not open in the epoch before this one; in the first epoch none is
abbrev pub is_closed_before : ℕ → PageWord → Bool
is_closed_before epoch Unset = true
is_closed_before epoch (Open e) = if e + 1 == epoch then false else true
is_closed_before epoch (Scanning e worker) = true

-- the records of a space, from its first word to FRONT, and from LOW to its end, where the walk passes over some pages; a place
-- that is reserved below FRONT is left out
abbrev pub walk_space : (passes : ℕ → Bool) (reserved heap : ℕ → ℕ) (start front low end : ℕ) → List Walked
walk_space passes reserved heap start front low end =
    walk (front - start) (λ p. false) reserved heap front start ++ walk (end - low) passes (λ a. 0) heap end low

-- the walks of a space can read all that they meet
abbrev pub ReadsSpace : (passes : ℕ → Bool) (reserved heap : ℕ → ℕ) (start front low end : ℕ) → Type 0
ReadsSpace passes reserved heap start front low end =
    ReadsAll (front - start) (λ p. false) reserved heap front start × ReadsAll (end - low) passes (λ a. 0) heap end low

-- ---- the spaces of a table, with what its workers keep

-- the walk of the epoch's space, which passes over the pages that are not open in the epoch
abbrev pub walk_in : Table → List Kept → List Walked
walk_in t kept =
    walk_space (λ p. is_protected t.gate.epoch (t.page p)) (reserved_in kept) t.heap (era_of t).start (memory_of t).front (memory_of t).low ((era_of t).start + (era_of t).span)

-- the walk of the old space, as one of the epoch before
abbrev pub old_walk_in : Table → List Kept → List Walked
old_walk_in t kept =
    walk_space (λ p. is_closed_before t.gate.epoch (t.page p)) (reserved_in kept) t.heap (era_of t).old_start (memory_of t).old_front (memory_of t).old_low
    ((era_of t).old_start + (era_of t).old_span)

-- the walk of the epoch's space can read all that it meets
abbrev pub IsWalkable : Table → List Kept → Type 0
IsWalkable t kept =
    ReadsSpace (λ p. is_protected t.gate.epoch (t.page p)) (reserved_in kept) t.heap (era_of t).start (memory_of t).front (memory_of t).low ((era_of t).start + (era_of t).span)

-- the walk of the old space can read all that it meets
abbrev pub IsOldReadable : Table → List Kept → Type 0
IsOldReadable t kept =
    ReadsSpace (λ p. is_closed_before t.gate.epoch (t.page p)) (reserved_in kept) t.heap (era_of t).old_start (memory_of t).old_front (memory_of t).old_low
    ((era_of t).old_start + (era_of t).old_span)

-- A page of the epoch's space whose first word is below FRONT, and in no place that is reserved, has the place of the walked
-- record over that word as its crossing.
pub record CrossingsHold (t : Table) (kept : List Kept) : Type 0 where
  pub crossing : (p : ℕ) → (era_of t).start ≤ first_word p → first_word p < (memory_of t).front → ¬ (IsReservedIn kept (first_word p))
      → (w : Walked) × Contains (walk_in t kept) w × (w.at ≤ first_word p) × (first_word p < w.at + w.size) × (t.cross p ≡ w.at)

-- ---- those of a configuration

abbrev pub walk_of : Configuration → List Walked
walk_of c = walk_in (table c) (kept_of c.workers)

abbrev pub old_walk_of : Configuration → List Walked
old_walk_of c = old_walk_in (table c) (kept_of c.workers)
