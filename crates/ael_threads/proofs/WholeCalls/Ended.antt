-- Who has an end is about to leave, or has left.
use Rattle.std.proofs.Common.{◌≡◌, true, refl, sym, subst}
use Rattle.atom_store.specs.declared.reply.Reply.{Reply}
use Rattle.atom_store.specs.declared.turn.Turn.{Turn}
use Rattle.atom_store.specs.declared.turn.Turn.TheVariants.{Finished, More}
use Rattle.gate_core.specs.declared.passage.Passage.{Passage}
use Rattle.gate_core.specs.declared.passage.Passage.TheVariants.{Leave}
use Rattle.gate_core.specs.declared.passed.Passed.{Passed}
use Rattle.gate_core.specs.declared.passed.Passed.TheVariants as passed
use Rattle.gate_core.specs.Gate as gate
use Rattle.gc_worker.specs.declared.stage.after.After.{After}
use Rattle.gc_worker.specs.declared.stage.Stage.{Stage}
use Rattle.gc_worker.specs.declared.stage.Stage.TheVariants.{Gone, Passes}
use Rattle.gc_worker.specs.Laws.Cycles.{IsInCall, IsInPassage}
use Rattle.gc_worker.specs.Steps.Turned.{passed_by, turned_at, turned_gate}
use Rattle.gc_worker.specs.Workers.Fits.{FitsEnd, IsEndBefore}
use Rattle.gc_worker.specs.Workers.Held.{Held}

leaves : (passage : Passage) → IsEndBefore passage true → passage ≡ Leave
leaves Leave ended = refl
leaves _ ended = absurd (cc)

-- what is so there is so of who has an end
pub ended_at : (P : Stage → Type 0) → ((g : gate.Passing) (after : After) → g.passage ≡ Leave → P (Passes g after)) → P Gone → (stage : Stage) → FitsEnd stage true → P stage
ended_at P leaving gone (Passes g after) ended = leaving g after (leaves g.passage ended)
ended_at P leaving gone Gone ended = gone
ended_at P leaving gone _ ended = absurd (cc)

-- it is in no call
pub ended_out : (stage : Stage) → FitsEnd stage true → IsInCall stage → ⊥
ended_out = ended_at (λ stage. IsInCall stage → ⊥) (λ g after e. subst (λ (p : Passage). IsInPassage p after → ⊥) (sym e) (λ call. call)) (λ call. call)

-- and keeps the epoch in which it began its last task
pub ended_keeps : (x : Held) (reply : Reply) (stage : Stage) → FitsEnd stage true → (turned_at x stage reply).begun ≡ x.begun
ended_keeps x reply = ended_at (λ stage. (turned_at x stage reply).begun ≡ x.begun) (λ g after e. by_turn (gate.taken g reply) after (gate.told (gate.taken g reply)) e) refl
  where
    left : (after : After) (result : Passed) → (passed_by x after Leave result).begun ≡ x.begun
    left after (passed.Went word) = refl
    left after (passed.NotYet word) = refl

    by_turn : (g : gate.Passing) (after : After) (turn : Turn Passed) → g.passage ≡ Leave → (turned_gate x g after turn).begun ≡ x.begun
    by_turn g after More e = refl
    by_turn g after (Finished result) e = subst (λ (p : Passage). (passed_by x after p result).begun ≡ x.begun) (sym e) (left after result)
