-- Where a walk meets what it can't read.
use Rattle.std.specs.Prelude.{◌≡◌, ℕ, zero, suc, ◌+◌, ◌-◌, ◌⊎◌, Bool, false, Option, Some, None, nat_le, if◌then◌else◌}
use Rattle.heap_state.specs.Kept.{reserved_in}
use Rattle.heap_state.specs.Meaning.Dump.{Dump}
use Rattle.heap_state.specs.Meaning.Represents.{IsCopying}
use Rattle.heap_state.specs.Memory.Era.{era_of, memory_of}
use Rattle.heap_state.specs.Memory.Walk.{Met, AtEnd, Nothing, Reserved, Record, Broken, meets, next_place, is_protected, is_closed_before}

-- what is met at a place breaks the walk if it is no record, or a record that passes the end; else it breaks where it breaks behind
abbrev pub break_at : (end at : ℕ) → Met → Option ℕ → Option ℕ
break_at end at AtEnd behind = None
break_at end at Nothing behind = behind
break_at end at (Reserved size) behind = behind
break_at end at (Record size) behind = if nat_le (at + size) end then behind else Some at
break_at end at Broken behind = Some at

-- where a walk from a place to `end` breaks, in at most so many turns
unfoldable pub break_in : ℕ → (passes : ℕ → Bool) (reserved heap : ℕ → ℕ) → ℕ → ℕ → Option ℕ
break_in zero passes reserved heap end at = None
break_in (suc turns) passes reserved heap end at =
    break_at end at (meets passes reserved heap end at) (break_in turns passes reserved heap end (next_place end at (meets passes reserved heap end at)))

-- the walk of a part of the space breaks there
abbrev pub BreaksSpace : (passes : ℕ → Bool) (reserved heap : ℕ → ℕ) (start front low end : ℕ) → ℕ → Type 0
BreaksSpace passes reserved heap start front low end a =
    (break_in (front - start) (λ p. false) reserved heap front start ≡ Some a) ⊎ (break_in (end - low) passes (λ x. 0) heap end low ≡ Some a)

-- the walk of the epoch's space does
abbrev pub BreaksNow : Dump → ℕ → Type 0
BreaksNow d a =
    BreaksSpace (λ p. is_protected d.table.gate.epoch (d.table.page p)) (reserved_in d.kept) d.table.heap (era_of d.table).start (memory_of d.table).front (memory_of d.table).low
    ((era_of d.table).start + (era_of d.table).span) a

-- the walk of the old space does
abbrev pub BreaksOld : Dump → ℕ → Type 0
BreaksOld d a =
    BreaksSpace (λ p. is_closed_before d.table.gate.epoch (d.table.page p)) (reserved_in d.kept) d.table.heap (era_of d.table).old_start (memory_of d.table).old_front
    (memory_of d.table).old_low ((era_of d.table).old_start + (era_of d.table).old_span) a

-- a walk over the heap's records breaks there
abbrev pub BreaksAt : Dump → ℕ → Type 0
BreaksAt d a = BreaksNow d a ⊎ (IsCopying d.table × BreaksOld d a)
