-- What an order's line says.
use Rattle.std.specs.Prelude.{◌^◌, ◌<◌, ◌≡◌, Result, Ok, Err}
use Rattle.plain_heap.specs.declared.mark.Mark.{Mark}
use Rattle.plain_heap.specs.declared.mark.Mark.TheVariants.{Step, Flip, Full, Traced}
use Rattle.heap_audit.specs.declared.reading.reading_error.ReadingError.{ReadingError}
use Rattle.heap_audit.specs.declared.reading.reading_error.ReadingError.TheVariants as errors

-- the numbers of a mark are those that its parts hold
abbrev pub MarkFits : Mark → Type 0
MarkFits (Step m) = m < 256
MarkFits (Flip asked) = asked < 2 ^ 32
MarkFits (Full m asked room live) = (m < 256) × (asked < 2 ^ 32) × (room < 2 ^ 32) × (live < 2 ^ 32)
MarkFits Traced = Unit {0}

-- what was read, and the bytes behind it, unless memory ran out
abbrev pub ReadsAs : {X Y : Type 0} → (X → Y) → Result X ReadingError → Y → Type 0
ReadsAs view (Ok x) y = view x ≡ y
ReadsAs view (Err errors.NoMemory) y = Unit {0}
ReadsAs view (Err (errors.Bad line)) y = ⊥
