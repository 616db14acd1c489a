-- What stays in a root over a call of the runtime.
use Rattle.std.proofs.Common.{◌≡◌, ◌≢◌, ℕ, List, arith}
use Rattle.ael_threads.specs.Seats.{Seated}
use Rattle.ael_runtime.specs.declared.root.Root.{Root}
use Rattle.ael_runtime.specs.Calling.{HadEffects, HadEffectsOnceSeen, OneCall}
use Rattle.ael_runtime.specs.Reading.{held, root_register}
use Rattle.ael_runtime.proofs.NumberCalls.{root_below}
use Rattle.ael_runtime.proofs.RecordCalls.{seen_others}

-- no root is register 5, which is for scratch
pub no_scratch : (root : Root) → root_register root ≢ 5
no_scratch root = λ e. let below = root_below root in absurd (omega (arith, below, e))

-- a call that sets another register leaves it
pub root_stays : (a b : Seated) (cs : List OneCall) (r : ℕ) (root : Root) → HadEffects a cs r b → root_register root ≢ r → held b (root_register root) ≡ held a (root_register root)
root_stays a b cs r root h other = h.others (root_register root) other (no_scratch root)

-- so does a store
pub root_stays_stored : (a b : Seated) (of : ℕ) (cs : List OneCall) (root : Root) → HadEffectsOnceSeen a of cs 5 b → held b (root_register root) ≡ held a (root_register root)
root_stays_stored a b of cs root h = seen_others a of cs 5 b h (root_register root) (no_scratch root) (no_scratch root)
