-- The sizes of both spaces, and the one that a flip stores.
use Rattle.std.proofs.Common.{ℕ, ◌*◌, ◌<◌, ◌≤◌, ◌||◌, Bool, true, false, cond, min, nat_lt, refl, inl, inr, arith}
use Rattle.plain_state.specs.State.{Plain}
use Rattle.space_map.specs.Table.{Size}
use Rattle.gate_core.specs.Flip.{next_size}
use Rattle.heap_state.specs.Configuration.{Configuration, Stands}
use Rattle.heap_state.specs.Memory.Table.{word_in}
use Rattle.gc_worker.specs.Laws.Growth.{Grows}

abbrev pub size_now : Configuration → ℕ → ℕ
size_now c space = word_in c.pages c.words (Size space)

pub size_within : (c : Configuration) (p : Plain) → Stands c p → (space : ℕ) → space < 2 → (4 ≤ size_now c space) × (size_now c space ≤ c.pages)
size_within c p s space small = s.formed.sizes space small

-- the next size is this one, or twice as many pages, as far as there are so many
pub next_grows : (n : ℕ) (seen : Bool) (size copied : ℕ) → Grows n size (next_size n seen size copied)
next_grows n seen size copied = by_test (seen || nat_lt (64 * size) (2 * copied))
  where
    by_test : (b : Bool) → Grows n size (cond b (min n (2 * size)) size)
    by_test true = inr refl
    by_test false = inl refl

-- it is no smaller, and there are so many
pub grown_within : (n size next : ℕ) → size ≤ n → Grows n size next → (size ≤ next) × (next ≤ n)
grown_within n size next few grows = (omega (arith, few, grows), omega (arith, few, grows))
