-- A worker's step on words: its machine takes the reply, and the worker is sound after it, if the step is allowed there.
use Rattle.std.proofs.Common.{◌≡◌, ℕ, List, Option, Some, None, refl, sym, ap, subst}
use Rattle.std.specs.Prelude.{IsSome}
use Rattle.atom_store.specs.declared.reply.Reply.{Reply}
use Rattle.atom_store.specs.declared.step.Step.{Step}
use Rattle.atom_store.specs.Acts.{after_next_step}
use Rattle.atom_store.specs.Machine.{Machine}
use Rattle.atom_store.specs.Runs.{after_step}
use Rattle.atom_store.specs.Step.{reply_of}
use Rattle.gc_worker.specs.Workers.Held.{Held}
use Rattle.gc_worker.specs.Steps.Made.{Allows, AllowsStep, MayMake, step_made, step_made_by}
use Rattle.gc_worker.specs.Steps.Stepped.{IsSound}
use Rattle.gc_worker.specs.Steps.Turned.{turned}
use Rattle.gc_worker.specs.Steps.Wanted.{wanted}

pub sound_after : (x : Held) (words : List ℕ) (q : Step) (reply : Reply) → MayMake x words → wanted x ≡ Some q → reply ≡ reply_of q words
    → IsSound (turned x reply)
sound_after x words q reply may wants same =
    let allows : Allows x words q = subst (AllowsStep x words) wants may in
    subst (λ (r : Reply). IsSound (turned x r)) (sym same) allows.fits

-- the step that a machine has made on words, and that it took the reply
pub record HasStepped {M R : Type 0} (k : Machine M R) (m done : M) (words : List ℕ) : Type 0 where
  pub step : Step
  pub is : k.wanted m ≡ Some step
  pub takes : done ≡ k.taken m (reply_of step words)

by_wanted : {M R : Type 0} (k : Machine M R) (m done : M) (words : List ℕ) (o : Option Step) → k.wanted m ≡ o → IsSome o
    → done ≡ after_step k m o words → HasStepped k m done words
by_wanted k m done words (Some q) is some steps = record { step = q; is = is; takes = steps }
by_wanted k m done words None is some steps = absurd (cc (some))

-- a machine that is as after its next step has made one, if it wants one
pub has_stepped : {M R : Type 0} (k : Machine M R) (m done : M) (words : List ℕ) → done ≡ after_next_step k m words → IsSome (k.wanted m)
    → HasStepped k m done words
has_stepped k m done words steps some = by_wanted k m done words (k.wanted m) refl some steps

-- so the worker turns by the reply to what it wants
pub held_made : (x : Held) (words : List ℕ) (q : Step) → wanted x ≡ Some q → (step_made x words).held ≡ turned x (reply_of q words)
held_made x words q wants = ap (λ (o : Option Step). (step_made_by x words o).held) wants
