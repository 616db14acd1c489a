-- That a flipper's exchange of the gate is won.
use Rattle.std.specs.Prelude.{◌≡◌, ℕ, ◌<◌, length, Some}
use Rattle.plain_state.specs.State.{Plain}
use Rattle.atom_store.specs.declared.reply.Reply.TheVariants.{Won}
use Rattle.atom_store.specs.declared.step.Step.{Step}
use Rattle.atom_store.specs.Step.{reply_of}
use Rattle.gate_core.specs.declared.flip_stage.FlipStage.TheVariants.{Exchanges}
use Rattle.gate_core.specs.declared.reset.Reset.{Reset}
use Rattle.gate_core.specs.Flip.{Flipping}
use Rattle.gc_worker.specs.Workers.Held.{Held}
use Rattle.gc_worker.specs.Laws.Step.{Heap, WorkersStand, held_at}
use Rattle.gc_worker.specs.Steps.Wanted.{wanted}
use Rattle.gc_worker.specs.declared.stage.Stage.TheVariants.{Flips}

-- the exchange of a flip is never lost
abbrev pub FlipsAreWon : Type 0
FlipsAreWon = (h : Heap) (p o : Plain) (k : ℕ) (x : Held) (f : Flipping) (r : Reset) (q : Step) → WorkersStand h p o → k < length h.workers → held_at h k ≡ x
    → x.stage ≡ Flips (record f { stage = Exchanges r }) → wanted x ≡ Some q → reply_of q h.words ≡ Won
