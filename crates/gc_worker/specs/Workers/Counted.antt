-- How many instructions a mutator has executed may be counted beside it: nothing that it does depends on that.
use Rattle.std.specs.Prelude.{◌≡◌, ℕ, ◌+◌, ◌↔◌}
use Rattle.atom_store.specs.declared.reply.Reply.{Reply}
use Rattle.gc_worker.specs.Workers.Fits.{Fits}
use Rattle.gc_worker.specs.Workers.Held.{Held}
use Rattle.gc_worker.specs.declared.calls.did.Did.TheVariants.{Done, Trap}
use Rattle.gc_worker.specs.Steps.Turned.{Told, Silent, Empties, Answers, Marks, turned, told}
use Rattle.gc_worker.specs.Steps.Wanted.{wanted}

-- the worker with this count
abbrev pub counted : ℕ → Held → Held
counted count x = record x { account = record x.account { executed = count } }

-- the count after a step: each effect is one instruction more
abbrev pub count_after : ℕ → Told → ℕ
count_after count (Answers task Done) = count + 1
count_after count (Answers task (Trap end)) = count
count_after count Silent = count
count_after count Empties = count
count_after count (Marks asked) = count

-- with another count it wants, tells and becomes the same
pub record CountsApart (count : ℕ) (x : Held) : Type 0 where
  pub wants : wanted (counted count x) ≡ wanted x
  pub tells : (reply : Reply) → told (counted count x) reply ≡ told x reply
  pub turns : (reply : Reply) → turned (counted count x) reply ≡ counted (count_after count (told x reply)) (turned x reply)

abbrev pub CountsAreApart : Type 0
CountsAreApart = (n mutators k count : ℕ) (x : Held) → Fits n mutators k x → CountsApart count x

-- and is as sound
abbrev pub CountedFit : Type 0
CountedFit = (n mutators k count : ℕ) (x : Held) → Fits n mutators k (counted count x) ↔ Fits n mutators k x
