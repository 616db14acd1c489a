use Rattle.std.proofs.Common.{◌≡◌, ℕ, None, refl, ◌∙◌, ap}
use Rattle.gc_worker.specs.declared.steps.stepped.Stepped.TheVariants as stepped
use Rattle.gc_worker.specs.Workers.Held.{Held}
use Rattle.gc_worker.specs.Steps.Stepped.{stepped_by}
use Rattle.gc_worker.specs.Steps.Turned.{Told, Answers, told}
use Rattle.ael_threads.specs.Seats.{Acts, Seated}
use Rattle.thread_tests.proofs.turns.turn.Goals as goal

-- once its instruction has had its effect a worker has no task
module _ (a b : Seated) (m : ℕ) (h : Acts a (stepped.Effect m) b) where
  rests_by : (t : Told) → told a.worker h.0 ≡ t → stepped.Effect m ≡ stepped_by a.worker.number t → b.worker.task ≡ None
  rests_by (Answers task outcome) is e = ap (λ (x : Held). x.task) h.1.worker ∙ (h.1.goes_on.answers task outcome is).rests
  rests_by _ is e = absurd (cc)

  rests : b.worker.task ≡ None
  rests = rests_by (told a.worker h.0) refl h.1.stepped

pub returns-in-Effect-clause-rests : goal.returns-in-Effect-clause-rests
returns-in-Effect-clause-rests c = λ _. rests c.args.mutator.now c.act.new.self c.in-Effect.field-0 c.in-Effect.ensures.act
