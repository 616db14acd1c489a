-- What a step is to the plain machine beside the state at the last flip: where the epoch is traced, cells lose their targets.
use Rattle.std.specs.Prelude.{ℕ}
use Rattle.plain_state.specs.State.{Plain}
use Rattle.plain_heap.specs.Emptied.{cells_to_empty}
use Rattle.gc_worker.specs.Plain.Answer.{after_told}
use Rattle.gc_worker.specs.Steps.Turned.{Told}

-- the plain state after a step of worker k, where o is that at the last flip
abbrev pub story_told : (p o : Plain) → (k : ℕ) → Told → Plain
story_told p o k told = after_told (cells_to_empty o) p k told
