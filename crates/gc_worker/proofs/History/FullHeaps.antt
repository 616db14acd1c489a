-- Who is in a call has begun its instruction, and a full heap is found by one that makes a record.
use Rattle.std.proofs.Common.{◌≡◌, ℕ, Some, refl, sym, subst, ◌∙◌}
use Rattle.std.proofs.lemmas.Option.{same_Some}
use Rattle.plain_state.specs.declared.end.End.TheVariants as ends
use Rattle.plain_state.specs.State.{Plain}
use Rattle.mutator_asm.specs.declared.instr.Instr.{Instr}
use Rattle.atom_store.specs.declared.reply.Reply.{Reply}
use Rattle.gate_core.specs.declared.passage.Passage.{Passage}
use Rattle.gate_core.specs.declared.passage.Passage.TheVariants.{Park, Request, Resume, Forwarded}
use Rattle.fault_duty.specs.Duty as duty
use Rattle.gc_worker.specs.declared.stage.after.After.{After}
use Rattle.gc_worker.specs.declared.stage.Stage.{Stage}
use Rattle.gc_worker.specs.declared.stage.Stage.TheVariants.{Looks, Passes, Flips, Accesses, Places, Serves, Guards, BeginsCheckpoint, Gone}
use Rattle.gc_worker.specs.declared.task.Task.{Task}
use Rattle.gc_worker.specs.declared.task.Task.TheVariants.{Calls, Stops}
use Rattle.gc_worker.specs.Plain.Answer.{ComesTo}
use Rattle.gc_worker.specs.Workers.Begun.{IsPastAfter, IsPastLook}
use Rattle.gc_worker.specs.Laws.Cycles.{IsInCall, IsInPassage}
use Rattle.gc_worker.specs.Workers.Fits.{Fits, FitsTask}
use Rattle.gc_worker.specs.Workers.Held.{Held}
use Rattle.gc_worker.specs.declared.calls.did.Did.TheVariants.{Trap}
use Rattle.gc_worker.specs.Steps.Turned.{Answers, told, told_at}
use Rattle.gc_worker.proofs.Between.Begun.{full_is_found_later}
use Rattle.gc_worker.proofs.Between.KeptTasks.{workers_go_on}
use Rattle.gc_worker.specs.History.Tally.{asked_by_task}
use Rattle.gc_worker.proofs.History.Counted.Tallies.{asks_as}
use Rattle.gc_worker.proofs.Plain.Quiet.{IsQuiet, rounds_are_quiet}

-- ---- who is in a call has begun its instruction

past_passage : (passage : Passage) (after : After) → IsInPassage passage after → IsPastAfter after
past_passage Park after call = call
past_passage Request after call = call
past_passage (Resume epoch) after call = call
past_passage Forwarded after call = call
past_passage _ after call = absurd call

pub past_look : (stage : Stage) → IsInCall stage → IsPastLook stage
past_look Looks call = absurd call
past_look (Passes g after) call = past_passage g.passage after call
past_look (Flips f) call = tt
past_look (Accesses a) call = tt
past_look (Places p) call = tt
past_look (Guards g write) call = tt
past_look (BeginsCheckpoint s) call = tt
past_look Gone call = absurd call
past_look _ call = call

-- ---- a full heap is found by an instruction

pub full_asks : (p : Plain) (k : ℕ) (task : Task) (instr : Instr) (asked room live : ℕ) → task ≡ Calls instr → ComesTo p k task (Trap (ends.HeapFull asked room live))
    → asked_by_task p k (Some task) ≡ Some asked
full_asks p k (Calls other) instr asked room live is c = asks_as p k c.mutator other asked c.is c.no_end c.may
full_asks p k (Stops end) instr asked room live is c = absurd (cc)

module _ (n mutators k : ℕ) (y : Held) (reply : Reply) (fits : Fits n mutators k y) (task : Task) (asked room live : ℕ)
    (e : told y reply ≡ Answers task (Trap (ends.HeapFull asked room live))) where
  later : IsPastLook y.stage
  later = full_is_found_later n mutators k y reply task asked room live fits e

  its_task : y.task ≡ Some task
  its_task = ((workers_go_on n mutators k y reply fits).answers task (Trap (ends.HeapFull asked room live)) e).asked

  pub full_calls : (instr : Instr) × (task ≡ Calls instr)
  full_calls = by_stage y.stage refl fits.task e
    where
      by_task : (instr : Instr) → y.task ≡ Some (Calls instr) → (instr : Instr) × (task ≡ Calls instr)
      by_task instr is = (instr, same_Some task (Calls instr) (sym its_task ∙ is))

      by_stage : (stage : Stage) → y.stage ≡ stage → FitsTask y stage → told_at y stage reply ≡ Answers task (Trap (ends.HeapFull asked room live))
          → (instr : Instr) × (task ≡ Calls instr)
      by_stage Looks at fit tells = absurd (subst IsPastLook at later)
      by_stage (Accesses a) at fit tells = by_task fit.executes.instr fit.executes.task_is
      by_stage (Places p) at fit tells = by_task fit.0.executes.instr fit.0.executes.task_is
      by_stage (Flips f) at fit tells = by_task fit.0.executes.instr fit.0.executes.task_is
      by_stage (Serves d back) at fit tells = absurd (subst IsQuiet tells (rounds_are_quiet (duty.told (duty.taken d reply))))
      by_stage (BeginsCheckpoint s) at fit tells = by_task fit.instr fit.task_is
      by_stage _ at fit tells = absurd (cc)
