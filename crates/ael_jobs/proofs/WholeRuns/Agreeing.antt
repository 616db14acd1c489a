-- Runs by schedules that name the same workers.
use Rattle.std.proofs.Common.{◌≡◌, ℕ, ◌+◌, refl, zero, suc}
use Rattle.gc_core.specs.Core.{CoreState}
use Rattle.gc_core.specs.Event.{core_after}
use Rattle.gc_core.specs.Run.{run_from}

-- they come to the same
pub runs_agree : (f g : ℕ → ℕ) → ((at : ℕ) → f at ≡ g at) → (at n : ℕ) (s : CoreState) → run_from f at n s ≡ run_from g at n s
unfolding run_from
runs_agree f g same at zero s = refl
runs_agree f g same at (suc n) s = rw (same at, runs_agree f g same (at + 1) n (core_after s (g at)))
