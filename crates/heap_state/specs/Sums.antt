-- Sums over walked records.
use Rattle.std.specs.Prelude.{ℕ, ◌+◌, ◌==◌, List, [], ◌∷◌, Bool, true, false, if◌then◌else◌}
use Rattle.heap_words.specs.Decoded.{Decoded, HeaderWord, BusyWord, decode}
use Rattle.heap_state.specs.Configuration.{Configuration, table}
use Rattle.heap_state.specs.Kept.{Kept, kept_of, kept_at}
use Rattle.heap_state.specs.Memory.Walk.{Walked}

-- the sum of the sizes of those that are counted
abbrev pub sum_of_sizes : (Walked → Bool) → List Walked → ℕ
sum_of_sizes counts [] = 0
sum_of_sizes counts (w ∷ walked) = (if counts w then w.size else 0) + sum_of_sizes counts walked

-- a record is still to be copied: its header is in its place, or the worker that keeps it has reserved no place yet
abbrev pub is_uncopied : List Kept → Decoded → Bool
is_uncopied kept (HeaderWord kind len serial mutator) = true
is_uncopied kept (BusyWord len worker) = if (kept_at kept worker).place == 0 then true else false
is_uncopied kept _ = false

-- the words of the records that are still to be copied
abbrev pub uncopied : Configuration → List Walked → ℕ
uncopied c walked = sum_of_sizes (λ w. is_uncopied (kept_of c.workers) (decode ((table c).heap w.at))) walked
