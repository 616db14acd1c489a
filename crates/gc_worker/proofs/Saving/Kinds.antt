-- What each kind of step keeps of checkpoints, by the worker's stage.
use Rattle.std.proofs.Common.{◌≡◌, ℕ, Some}
use Rattle.plain_state.specs.State.{Plain}
use Rattle.atom_store.specs.declared.step.Step.{Step}
use Rattle.heap_state.specs.Configuration.{Configuration}
use Rattle.heap_state.specs.Saving.Frozen.{Frozen}
use Rattle.heap_state.specs.Saving.Savers.{Saver}
use Rattle.gc_worker.specs.declared.stage.Stage.{Stage}
use Rattle.gc_worker.specs.declared.stage.Stage.TheVariants.{Looks, Passes, Flips, Forwards, Accesses, Places, Serves, Scans, Evacuates, Opens, Recalls, Guards, Checkpoints, BeginsCheckpoint, Gone}
use Rattle.gc_worker.specs.Steps.Wanted.{wanted}
use Rattle.gc_worker.specs.Workers.Held.{Held, at_stage}
use Rattle.gc_worker.proofs.Saving.Mutators.Accesses.{accesses}
use Rattle.gc_worker.proofs.Saving.Checkpoints.CheckpointStages.{checkpoints}
use Rattle.gc_worker.proofs.Saving.Collector.KeptCopies.{evacuates, forwards}
use Rattle.gc_worker.proofs.Saving.Flips.{flips}
use Rattle.gc_worker.proofs.Saving.Gates.{gates}
use Rattle.gc_worker.proofs.Saving.Mutators.KeptGuards.{guards}
use Rattle.gc_worker.proofs.Saving.Mutators.KeptLooks.{looks}
use Rattle.gc_worker.proofs.Saving.Collector.Opens.{opens}
use Rattle.gc_worker.proofs.Saving.Mutators.KeptAllocations.{places}
use Rattle.gc_worker.proofs.Saving.Mutators.KeptRecalls.{recalls}
use Rattle.gc_worker.proofs.Saving.Collector.DutyRounds.{serves}
use Rattle.gc_worker.proofs.Saving.Collector.Scans.{scans}
use Rattle.gc_worker.proofs.Saving.Snaps.{begins_checkpoint}
use Rattle.gc_worker.proofs.Saving.Frame.Step.{Before, SavesStep}

module _ (c : Configuration) (p : Plain) (z : Frozen) (saver : ℕ → Saver) (k : ℕ) where
  abbrev Keeps : Held → Type 0
  Keeps x = Before c p z saver k x → (q : Step) → wanted x ≡ Some q → SavesStep c p saver k x q

  by_stage : (x : Held) (stage : Stage) → Keeps (at_stage x stage)
  by_stage x Looks = looks c p z saver k x
  by_stage x (Passes g after) = gates c p z saver k x g after
  by_stage x (Flips f) = flips c p z saver k x f
  by_stage x (Forwards w) = forwards c p z saver k x w
  by_stage x (Accesses a) = accesses c p z saver k x a
  by_stage x (Places v) = places c p z saver k x v
  by_stage x (Serves d back) = serves c p z saver k x d back
  by_stage x (Scans s back) = scans c p z saver k x s back
  by_stage x (Evacuates v s back) = evacuates c p z saver k x v s back
  by_stage x (Opens o s back) = opens c p z saver k x o s back
  by_stage x (Recalls r after) = recalls c p z saver k x after r
  by_stage x (Guards g write) = guards c p z saver k x write g
  by_stage x (Checkpoints r goal) = checkpoints c p z saver k x r goal
  by_stage x (BeginsCheckpoint s) = begins_checkpoint c p z saver k x s
  by_stage x Gone = λ b q asked. absurd (cc)

  pub kinds : (x : Held) → Keeps x
  kinds x = by_stage x x.stage
